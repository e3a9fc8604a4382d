-- The second number falls.
use Rattle.residues.proofs.+gcd_of.Given as goal

abbrev pub decreases-gcd_of : goal.decreases-gcd_of
decreases-gcd_of l = l.b

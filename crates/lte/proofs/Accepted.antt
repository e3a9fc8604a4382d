-- The rows of the standard's table are those of the listed sizes, and the test of a set accepts every row: one computed law over the table. Rests on
-- Standard.
use Rattle.std.specs.Prelude.{Bool, true, false, ◌≡◌, refl}
use Rattle.std.proofs.lemmas.Bool.{false≢true}
use mathlib.Core.List.{map, Memᴰ}
use Rattle.laws.specs.Outcome.{Ruling, clear, stopped, first, settle, done}
use Rattle.laws.specs.Members.{every, at_each}
use Rattle.laws.specs.Euclid.{gcd_in, gcd}
use Rattle.profiles.specs.Profiles.{lte_sizes, entry_by}
use Rattle.sizes.specs.Tests.{profile_listed, bits_listed, size_listed}
use Rattle.sets.specs.Set.{family_of, numbers_of}
use Rattle.sets.specs.Stream.{stream_listed}
use Rattle.sets.specs.Beside.{factors_in, factors_apart}
use Rattle.sets.specs.Verdict.{set_lines, verdict_of}
use Rattle.quadratic.specs.Formula.{all_apart}
use Rattle.lte.specs.Standard.{Row, row, standard}
use Rattle.lte.specs.Accepted.{set_of}

-- K in the table's order: 40 to 512 by 8, to 1,024 by 16, to 2,048 by 32, to 6,144 by 64
pub sizes_are : map (λ r. r.size) standard ≡ lte_sizes
unfolding standard lte_sizes
sizes_are = refl

accepted : Row → Bool
accepted r = settle (first (set_lines (set_of r))) (λ k. false) true

all_accepted : every accepted standard ≡ true
unfolding accepted set_lines profile_listed bits_listed size_listed stream_listed factors_in factors_apart family_of numbers_of entry_by all_apart gcd gcd_in standard
all_accepted = refl

-- the first row
pub first_row : Memᴰ (row 40 3 10) standard
unfolding standard
first_row = Memᴰ.head refl

pub row_accepted : {r : Row} → Memᴰ r standard → verdict_of (set_of r) ≡ done tt
unfolding verdict_of accepted
row_accepted {r} m = go (first (set_lines (set_of r))) refl (at_each accepted standard all_accepted m)
  where
    go : (x : Ruling) → first (set_lines (set_of r)) ≡ x → settle x (λ k. false) true ≡ true
        → verdict_of (set_of r) ≡ done tt
    go clear q e = rw q
    go (stopped k) q e = absurd (false≢true e)

-- `carrier_sets::block_of` is the set's block: what holds of every block is what the test of the set has found.
use mathlib.Core.Path.{◌≡◌, ap₂}
use Prim.Native.Nat.{ℕ}
use Rattle.profiles.specs.declared.Numbers.{Numbers}
use Rattle.sets.specs.declared.Set.{Set}
use Rattle.sets.specs.Set.{numbers_of, group_of}
use Rattle.families.specs.Families.{carrier_of, carrier_whole}
use Rattle.carrier_sets.proofs.block_of.Goals as goal

-- its numbers
numbers : (s : Set) {x : Numbers} {g : ℕ} → x ≡ numbers_of s → g ≡ group_of s → (x.d, s.n, g) ≡ carrier_of s
numbers s e f = ap₂ (λ (x : Numbers) (g : ℕ). (x.d, s.n, g)) e f

pub invariant_of-result : goal.invariant_of-result
invariant_of-result c =
    record { whole = carrier_whole c.requires (numbers c.args.set c.numbers_of.ensures c.group_of.ensures.value) }

pub returns : goal.returns
returns c = numbers c.args.set c.numbers_of.ensures c.group_of.ensures.value

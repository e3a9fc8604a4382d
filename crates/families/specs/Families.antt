-- What each family's leaf requires of an accepted set, and that the rule it serves is the set's.
use Rattle.std.specs.Prelude.{ℕ, List, ◌≡◌, ◌*◌, ◌≤◌, ◌<◌}
use Rattle.std.proofs.Common.{sym, ap, ap₂, ◌∙◌, subst, arith}
use Rattle.laws.specs.declared.Way.{Way}
use Rattle.laws.specs.Walk.{Leaf, Rule, in_way, LeafOf}
use Rattle.sets.specs.declared.Set.{Set}
use Rattle.profiles.specs.declared.Family.{Family}
use Rattle.profiles.specs.declared.Family.TheVariants.{Carrier, Spatial, Turbo, Quadratic, Coupled}
use Rattle.sets.specs.Set.{rows_of, rotation_of, group_of, f1, f2, couples_of}
use Rattle.sets.specs.Fit.{Carried}
use Rattle.sets.proofs.Carried.{carrier_size, spatial_size, stream_in, turbo_size, quadratic_size, coupled_size}
use Rattle.carrier.specs.Formula.{carrier_rule}
use Rattle.carrier.specs.Third.{spatial_rule}
use Rattle.carrier.specs.Block.{Whole}
use Rattle.wcdma_shape.specs.Rectangle.{Size}
use Rattle.wcdma.specs.Turbo.{turbo_rule}
use Rattle.quadratic.specs.Formula.{quadratic_rule}
use Rattle.quadratic.specs.Whole as square
use Rattle.couples.specs.declared.Couples.{Couples}
use Rattle.couples.specs.Formula.{coupled_rule}
use Rattle.couples.specs.Test.{Numbered}
use Rattle.families.specs.Rules.{rule_of, rule_in, barred, rule_is}
use Rattle.families.specs.Taken.{Taken}

-- of each family: the numbers of the block that is made of a set, what its leaves require of it, its size, and its rule. First of the two steps
whole_of : (s : Set) → Carried s → Whole (rows_of s) s.n (group_of s)
whole_of s z = record { size = z.sized; small = omega (arith, z.small) }

abbrev Three : Type 0
Three = ℕ × ℕ × ℕ

abbrev pub carrier_of : Set → Three
carrier_of s = (rows_of s, s.n, group_of s)

module _ {s : Set} (t : Taken s Carrier) {d n group : ℕ} (e : (d, n, group) ≡ carrier_of s) where
  pub carrier_whole : Whole d n group
  carrier_whole = subst (λ (x : Three). Whole x.0 x.1 x.2) (sym e) (whole_of s (carrier_size s t.accepted t.which))

  pub carrier_n : n ≡ s.n
  carrier_n = ap (λ (x : Three). x.1) e

  pub carrier_rule_lem : carrier_rule d n group ≡ rule_of s
  carrier_rule_lem = ap (λ (x : Three). carrier_rule x.0 x.1 x.2) e ∙ sym (rule_is s t.which)

abbrev pub stream_of : Set → Three × Three
stream_of s = (carrier_of s, (s.bits, rotation_of s, s.stream))

module _ {s : Set} (t : Taken s Spatial) {d n group bits r stream : ℕ} (e : ((d, n, group), (bits, r, stream)) ≡ stream_of s) where
  pub spatial_whole : Whole d n group
  spatial_whole =
      subst (λ (x : Three × Three). Whole x.0.0 x.0.1 x.0.2) (sym e) (whole_of s (spatial_size s t.accepted t.which))

  pub spatial_turned : (1 ≤ stream) × (stream ≤ 4) × (3 * (r * bits) < n)
  spatial_turned =
      let i = stream_in s t.accepted in
      subst (λ (x : Three × Three). (1 ≤ x.1.2) × (x.1.2 ≤ 4) × (3 * (x.1.1 * x.1.0) < x.0.1)) (sym e)
      (i.0, i.1, (spatial_size s t.accepted t.which).below)

  pub spatial_n : n ≡ s.n
  spatial_n = ap (λ (x : Three × Three). x.0.1) e

  pub spatial_rule_lem : spatial_rule d n group bits r stream ≡ rule_of s
  spatial_rule_lem =
      ap (λ (x : Three × Three). spatial_rule x.0.0 x.0.1 x.0.2 x.1.0 x.1.1 x.1.2) e ∙ sym (rule_is s t.which)

module _ {s : Set} (t : Taken s Turbo) where
  pub turbo_sized : Size s.n
  turbo_sized = let z = turbo_size s t.accepted t.which in record { low = z.0; high = z.1 }

  pub turbo_rule_lem : turbo_rule s.n ≡ rule_of s
  turbo_rule_lem = sym (rule_is s t.which)

abbrev pub quadratic_of : Set → Three
quadratic_of s = (s.n, f1 s, f2 s)

module _ {s : Set} (t : Taken s Quadratic) {k first second : ℕ} (e : (k, first, second) ≡ quadratic_of s) where
  pub quadratic_whole : square.Whole k first second
  quadratic_whole =
      let z = quadratic_size s t.accepted t.which in
      subst (λ (x : Three). square.Whole x.0 x.1 x.2) (sym e)
      (record { size = z.size; small = omega (arith, z.small); first_in = z.first_in; second_in = z.second_in })

  pub quadratic_k : k ≡ s.n
  quadratic_k = ap (λ (x : Three). x.0) e

  pub quadratic_rule_lem : quadratic_rule k first second ≡ rule_of s
  quadratic_rule_lem = ap (λ (x : Three). quadratic_rule x.0 x.1 x.2) e ∙ sym (rule_is s t.which)

module _ {s : Set} (t : Taken s Coupled) {c : Couples} (e : c ≡ couples_of s) where
  pub couples_numbered : Numbered c
  couples_numbered = subst Numbered (sym e) (coupled_size s t.accepted t.which).numbered

  pub couples_n : c.n ≡ s.n
  couples_n = ap (λ (c : Couples). c.n) e

  pub coupled_rule_lem : coupled_rule c ≡ rule_of s
  coupled_rule_lem = ap coupled_rule e ∙ sym (rule_is s t.which)

-- what a leaf promises of the size and the rule of its block, it promises of the set's, in the way that it was asked for
module _ (s : Set) {n : ℕ} {q : Rule} (m : n ≡ s.n) (e : q ≡ rule_of s) (asked : Way) {way : Way} (p : way ≡ asked) where
  pub leaf_in : {cell : ℕ} {old new : List ℕ} {leaf : Leaf} → LeafOf n (in_way asked n q) cell old new leaf
      → LeafOf s.n (rule_in way s) cell old new leaf
  leaf_in {cell} {old} {new} {leaf} o =
      subst (λ (r : Rule). LeafOf s.n r cell old new leaf) (ap₂ (λ (v : Way) (r : Rule). in_way v s.n r) (sym p) e)
      (subst (λ (k : ℕ). LeafOf k (in_way asked k q) cell old new leaf) m o)

  pub one_in : (x : ℕ) → (in_way asked n q).l x ≡ (rule_in way s).l x
  one_in x = ap (λ (k : ℕ). (in_way asked k q).l x) m ∙ ap₂ (λ (v : Way) (r : Rule). (in_way v s.n r).l x) (sym p) e

-- whether a walk is had, by the family and the way that was asked for
pub barred_is : {way asked : Way} {f g : Family} → way ≡ asked → f ≡ g → barred way f ≡ barred asked g
barred_is p q = ap₂ barred p q

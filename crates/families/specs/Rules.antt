-- The rule of a set, by family: the only place that says which family has which formulas. L and M of a set are its rule's, and the laws of every
-- accepted set are its family's.
use Rattle.std.specs.Prelude.{Bool, true, false, ◌≡◌, refl, ℕ, ◌<◌}
use Rattle.std.proofs.Common.{ap, ap₂, ◌∙◌, arith}
use Rattle.laws.specs.Outcome.{done}
use Rattle.laws.specs.declared.Way.{Way}
use Rattle.laws.specs.declared.Way.TheVariants.{Interleaver, Deinterleaver}
use Rattle.laws.specs.Walk.{Rule, in_way, Lawful, lawful_in}
use Rattle.sets.specs.declared.Set.{Set}
use Rattle.profiles.specs.declared.Family.{Family}
use Rattle.profiles.specs.declared.Family.TheVariants.{Carrier, Spatial, Turbo, Quadratic, Coupled}
use Rattle.sets.specs.Set.{family_of, rows_of, rotation_of, group_of, f1, f2, couples_of}
use Rattle.sets.specs.Verdict.{verdict_of}
use Rattle.sets.proofs.Carried.{carrier_size, spatial_size, stream_in, turbo_size, quadratic_size, coupled_size}
use Rattle.carrier.specs.Formula.{carrier_l, carrier_m, carrier_rule}
use Rattle.carrier.proofs.Once.{carrier_lawful}
use Rattle.carrier.specs.Third.{turn, spatial_l, spatial_m, spatial_rule}
use Rattle.carrier.proofs.Turned.{turn_below, spatial_lawful, first_l, first_m}
use Rattle.wcdma.specs.Turbo.{turbo_rule}
use Rattle.wcdma.proofs.Law.{turbo_lawful}
use Rattle.quadratic.specs.Formula.{quadratic_rule}
use Rattle.quadratic.proofs.Law.{quadratic_lawful}
use Rattle.couples.specs.Formula.{coupled_rule}
use Rattle.couples.specs.Law.{coupled_lawful}

-- the rule of a set of a family: of the carrier interleavers by d, N and s, of spatial streams by bits, r and the
-- stream as well, of the turbo interleaver by K, of the quadratic interleaver by K, f1 and f2, of couples by N and P0 to P3
abbrev pub family_rule : Family → Set → Rule
family_rule Carrier s = carrier_rule (rows_of s) s.n (group_of s)
family_rule Spatial s = spatial_rule (rows_of s) s.n (group_of s) s.bits (rotation_of s) s.stream
family_rule Turbo s = turbo_rule s.n
family_rule Quadratic s = quadratic_rule s.n (f1 s) (f2 s)
family_rule Coupled s = coupled_rule (couples_of s)

-- its M is not walked: the walk for M is refused with 1
abbrev pub one_way : Family → Bool
one_way Carrier = false
one_way Spatial = false
one_way Turbo = true
one_way Quadratic = true
one_way Coupled = true

unfoldable pub rule_of : Set → Rule
rule_of s = family_rule (family_of s) s

-- L: output t holds input L(t). Of couples these are couples (specs/Symbols.antt has their symbols)
abbrev pub L : Set → ℕ → ℕ
L s = (rule_of s).l

-- M: input k goes to output M(k)
abbrev pub M : Set → ℕ → ℕ
M s = (rule_of s).m

-- what the walk of a way goes along, and what it is a walk of: L, or M
abbrev pub rule_in : Way → Set → Rule
rule_in way s = in_way way s.n (rule_of s)

-- the walk of a way is not had: M of a family whose M is not walked
abbrev pub barred : Way → Family → Bool
barred Interleaver f = false
barred Deinterleaver f = one_way f

-- a rule by the family
pub rule_is : (s : Set) {f : Family} → family_of s ≡ f → rule_of s ≡ family_rule f s
unfolding rule_of
rule_is s e = ap (λ (f : Family). family_rule f s) e

-- the turn of an accepted set of a spatial profile is below N
pub turned_below : (s : Set) → verdict_of s ≡ done tt → family_of s ≡ Spatial → turn s.bits (rotation_of s) s.stream < s.n
turned_below s e q =
    let i = stream_in s e in
    turn_below s.n s.bits (rotation_of s) s.stream i.0 i.1 (spatial_size s e q).below

-- the laws, family by family
pub lawful : (s : Set) → verdict_of s ≡ done tt → Lawful s.n (rule_of s)
unfolding rule_of
lawful s e = go (family_of s) refl
  where
    go : (f : Family) → family_of s ≡ f → Lawful s.n (family_rule f s)
    go Carrier q = let z = carrier_size s e q in carrier_lawful z.sized (omega (arith, z.small))
    go Spatial q =
        let z = spatial_size s e q in
        spatial_lawful z.sized s.bits (rotation_of s) s.stream (turned_below s e q) (omega (arith, z.small))
    go Turbo q = turbo_lawful s.n (turbo_size s e q).1
    go Quadratic q =
        let z = quadratic_size s e q in
        quadratic_lawful s.n (f1 s) (f2 s) z.size (omega (arith, z.small)) z.apart
    go Coupled q =
        let z = coupled_size s e q in
        coupled_lawful (couples_of s) z.numbered.size z.four (omega (arith, z.most)) z.apart

pub lawful_way : (way : Way) (s : Set) → verdict_of s ≡ done tt → Lawful s.n (rule_in way s)
lawful_way way s e = lawful_in (lawful s e) way

-- of a spatial profile: the rule, by d and r ..
pub spatial_is : (s : Set) (d r : ℕ) → family_of s ≡ Spatial → (rows_of s ≡ d) × (rotation_of s ≡ r)
    → rule_of s ≡ spatial_rule d s.n (group_of s) s.bits r s.stream
spatial_is s d r h e =
    rule_is s h ∙ ap₂ (λ (d r : ℕ). spatial_rule d s.n (group_of s) s.bits r s.stream) e.0 e.1

-- .. and of stream 1 L and M are those of the two steps
module _ (s : Set) (e : verdict_of s ≡ done tt) (q : family_of s ≡ Spatial) where
  pub stream_one : s.stream ≡ 1 → (t : ℕ) → t < s.n
      → (L s t ≡ carrier_l (rows_of s) s.n (group_of s) t) × (M s t ≡ carrier_m (rows_of s) s.n (group_of s) t)
  stream_one o t l =
      let z = (spatial_size s e q).sized in (
        ap (λ (r : Rule). r.l t) (rule_is s q) ∙ ap (λ (i : ℕ). spatial_l (rows_of s) s.n (group_of s) s.bits (rotation_of s) i t) o ∙ first_l z s.bits (rotation_of s) t l,
        ap (λ (r : Rule). r.m t) (rule_is s q) ∙ ap (λ (i : ℕ). spatial_m (rows_of s) s.n (group_of s) s.bits (rotation_of s) i t) o ∙ first_m z s.bits (rotation_of s) t l,
      )

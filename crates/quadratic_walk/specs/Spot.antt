-- Where a walk stands and how it steps: the address at t + 1 is that at t and a difference more, which grows by 2·f2, both modulo K. Then the
-- walk from a cell on, and the search for the position of an address, as Stepped, Resting and Seek of laws have them.
use Rattle.std.specs.Prelude.{List, ◌≡◌, refl, ℕ, ◌+◌, ◌*◌, ◌%◌, ◌<◌}
use Rattle.std.proofs.Common.{sym, ap, ap₂, ◌∙◌, mod-lt, arith}
use Rattle.std.proofs.Math.Nat.{add-mod}
use Rattle.laws.specs.Resting.{Family, StepOf}
use Rattle.laws.specs.Seek.{Seeking}
use Rattle.laws.specs.Stepped.{Stepped}
use Rattle.quadratic.specs.Formula.{quadratic_l}
use Rattle.quadratic.specs.Whole.{Whole}
use Rattle.quadratic_walk.specs.declared.Spot.{Spot}

-- what the two numbers are at position t
pub record SpotAt (k f1 f2 t : ℕ) (at : Spot) : Type 0 where
  pub value_is : at.value ≡ quadratic_l k f1 f2 t
  pub delta_is : at.delta ≡ (f1 + f2 + 2 * f2 * t) % k

-- by division
pub spot_new : (k f1 f2 t : ℕ) → SpotAt k f1 f2 t (record { value = (f1 * t + f2 * (t * t)) % k; delta = (f1 + f2 + 2 * f2 * t) % k })
unfolding quadratic_l
spot_new k f1 f2 t = record { value_is = refl; delta_is = refl }

-- where they can be stepped
pub record SpotIn (k twice : ℕ) (at : Spot) : Type 0 where
  pub small : k < 65536
  pub value_in : at.value < k
  pub delta_in : at.delta < k
  pub twice_in : twice < k

-- one position on
pub spot_next : (k f1 f2 t twice : ℕ) {at next : Spot} → twice ≡ 2 * f2 % k → SpotAt k f1 f2 t at
    → next.value ≡ (at.value + at.delta) % k → next.delta ≡ (at.delta + twice) % k → SpotAt k f1 f2 (t + 1) next
unfolding quadratic_l
spot_next k f1 f2 t twice e p v d = record {
  value_is =
      v
      ∙ ap₂ (λ (x y : ℕ). (x + y) % k) p.value_is p.delta_is
      ∙ sym (add-mod (f1 * t + f2 * (t * t)) (f1 + f2 + 2 * f2 * t) k)
      ∙ ap (λ (x : ℕ). x % k) (omega arith);
  delta_is =
      d
      ∙ ap₂ (λ (x y : ℕ). (x + y) % k) p.delta_is e
      ∙ sym (add-mod (f1 + f2 + 2 * f2 * t) (2 * f2) k)
      ∙ ap (λ (x : ℕ). x % k) (omega arith);
}

pub spot_next_in : {k twice : ℕ} {at next : Spot} → SpotIn k twice at → next.value ≡ (at.value + at.delta) % k
    → next.delta ≡ (at.delta + twice) % k → SpotIn k twice next
spot_next_in {k} {twice} {at} p v d =
    let some : 0 < k = omega (arith, p.twice_in) in
    record {
      small = p.small;
      value_in = rw v (mod-lt (at.value + at.delta) some);
      delta_in = rw d (mod-lt (at.delta + twice) some);
      twice_in = p.twice_in;
    }

-- what the set-up of a loop makes
pub record Ready (k f1 f2 twice : ℕ) : Type 0 where
  pub whole : Whole k f1 f2
  pub twice_is : twice ≡ 2 * f2 % k

module _ {k f1 f2 twice t : ℕ} {at : Spot} (r : Ready k f1 f2 twice) (p : SpotAt k f1 f2 t at) where
  pub ready_in : SpotIn k twice at
  unfolding quadratic_l
  ready_in = record {
    small = r.whole.small;
    value_in = rw p.value_is (mod-lt (f1 * t + f2 * (t * t)) r.whole.size);
    delta_in = rw p.delta_is (mod-lt (f1 + f2 + 2 * f2 * t) r.whole.size);
    twice_in = rw r.twice_is (mod-lt (2 * f2) r.whole.size);
  }

-- the walk from a cell on
abbrev pub Walking : ℕ → ℕ → ℕ → ℕ → ℕ → ℕ → List ℕ → List ℕ → Spot → ℕ → Type 0
Walking k f1 f2 cell count twice = Stepped (Ready k f1 f2 twice) (quadratic_l k f1 f2) (SpotAt k f1 f2) k cell count

-- one position on, whatever the position
abbrev pub OneOn : ℕ → ℕ → Spot → Spot → Type 0
OneOn k twice at next = (f1 f2 t : ℕ) → twice ≡ 2 * f2 % k → SpotAt k f1 f2 t at → SpotAt k f1 f2 (t + 1) next

-- the walks of the blocks of k positions whose 2·f2 is `twice`, by f1 and f2
abbrev pub spots : ℕ → ℕ → Family Spot (ℕ × ℕ)
spots k twice = record {
  Kept = λ x. Ready k x.0 x.1 twice;
  rule = λ x. quadratic_l k x.0 x.1;
  At = λ x. SpotAt k x.0 x.1;
  entry = λ (at : Spot). at.value;
  entry_is = λ x t at p. p.value_is;
}

pub step_of : {k twice : ℕ} {at next : Spot} → OneOn k twice at next → StepOf (spots k twice) at next
step_of one x t r p = one x.0 x.1 t r.twice_is p

-- the search for the position of a
abbrev pub Looking : ℕ → ℕ → ℕ → ℕ → ℕ → Spot → ℕ → Type 0
Looking k f1 f2 a twice = Seeking (Ready k f1 f2 twice) (quadratic_l k f1 f2) (SpotAt k f1 f2) a k

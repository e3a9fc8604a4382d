-- Where a walk stands and how it steps: from output j to the next the couple grows by one of four numbers, by j mod 4, modulo N. Then the walk from a
-- cell on, and the search for the output of a couple, as Resting and Seek of laws have them. Rests on the formula of couples.
use Rattle.std.specs.Prelude.{List, ◌≡◌, ℕ, ◌+◌, ◌-◌, ◌*◌, ◌/◌, ◌%◌, ◌≤◌, ◌<◌}
use Rattle.std.proofs.Math.Path.{sym, ap, ap₂}
use Rattle.std.proofs.Common.{◌∙◌, arith}
use Rattle.std.proofs.Math.Nat.{add-mod, mod-add-div, mod-lt}
use Rattle.laws.specs.Residue.{same}
use Rattle.laws.specs.Resting.{Family, WalkOf}
use Rattle.laws.specs.Seek.{Seeking}
use Rattle.couples.specs.declared.Couples.{Couples}
use Rattle.couples.specs.Formula.{offset, couple_l}
use Rattle.couples.specs.Law.{couple_below}
use Rattle.couples.specs.Test.{Numbered}
use Rattle.couples_walk.specs.declared.Spot.{Spot}

-- a block with a cell of it, or the one behind its last
pub record Block (c : Couples) (cell : ℕ) : Type 0 where
  pub numbered : Numbered c
  pub cell_in : cell ≤ c.n

-- by how much: P0 + Q(b + 1) - Q(b), modulo N, b being j mod 4
unfoldable pub onward : Couples → ℕ → ℕ
onward c j = (c.p0 + offset c ((j + 1) % 4) + (c.n - offset c (j % 4) % c.n)) % c.n

module _ (c : Couples) (j : ℕ) where
  -- the two as they are worked out
  pub couple_is : {q : ℕ} → q ≡ offset c (j % 4) → (c.p0 * j + q) % c.n ≡ couple_l c j
  unfolding couple_l
  couple_is e = ap (λ (x : ℕ). (c.p0 * j + x) % c.n) e

  pub onward_is : {old new : ℕ} → old ≡ offset c (j % 4) → new ≡ offset c ((j + 1) % 4) → (c.p0 + new + (c.n - old % c.n)) % c.n ≡ onward c j
  unfolding onward
  onward_is o e = ap₂ (λ (x y : ℕ). (c.p0 + x + (c.n - y % c.n)) % c.n) e o

  -- the four come round again
  pub onward_round : onward c j ≡ onward c (j + 1 + 3)
  unfolding onward
  onward_round =
      ap₂ (λ (x y : ℕ). (c.p0 + offset c x + (c.n - offset c y % c.n)) % c.n)
      (sym (same 4 1 (j + 1) (omega arith))) (sym (same 4 1 j (omega arith)))

  module _ (h : 0 < c.n) where
    pub onward_below : onward c j < c.n
    unfolding onward
    onward_below = mod-lt (c.p0 + offset c ((j + 1) % 4) + (c.n - offset c (j % 4) % c.n)) h

    pub couple_next : (couple_l c j + onward c j) % c.n ≡ couple_l c (j + 1)
    unfolding couple_l onward
    couple_next =
        let q = offset c (j % 4) in
        let r = offset c ((j + 1) % 4) in
        sym (add-mod (c.p0 * j + q) (c.p0 + r + (c.n - q % c.n)) c.n)
        ∙ same c.n (1 + q / c.n) (c.p0 * (j + 1) + r) (omega (arith, mod-lt q h, mod-add-div q c.n))

-- what the five numbers are at output j
pub record SpotAt (c : Couples) (j : ℕ) (at : Spot) : Type 0 where
  pub value_is : at.value ≡ couple_l c j
  pub first_is : at.first ≡ onward c j
  pub second_is : at.second ≡ onward c (j + 1)
  pub third_is : at.third ≡ onward c (j + 2)
  pub fourth_is : at.fourth ≡ onward c (j + 3)

-- where they can be stepped
pub record SpotIn (c : Couples) (at : Spot) : Type 0 where
  pub numbered : Numbered c
  pub value_in : at.value < c.n
  pub first_in : at.first < c.n
  pub second_in : at.second < c.n
  pub third_in : at.third < c.n
  pub fourth_in : at.fourth < c.n

-- one on: the value by the first of the four, which is then the last
abbrev pub turned : Spot → ℕ → Spot
turned at v = record { value = v; first = at.second; second = at.third; third = at.fourth; fourth = at.first }

pub turned_in : {c : Couples} {v : ℕ} {at : Spot} → SpotIn c at → v ≡ (at.value + at.first) % c.n → SpotIn c (turned at v)
turned_in {c} {v} {at} p e = record {
  numbered = p.numbered;
  value_in = rw e (mod-lt (at.value + at.first) p.numbered.size);
  first_in = p.second_in;
  second_in = p.third_in;
  third_in = p.fourth_in;
  fourth_in = p.first_in;
}

module _ {c : Couples} {j : ℕ} {at : Spot} (r : Numbered c) (p : SpotAt c j at) where
  pub ready_in : SpotIn c at
  ready_in = let h = r.size in record {
    numbered = r;
    value_in = rw p.value_is (couple_below c h j);
    first_in = rw p.first_is (onward_below c j h);
    second_in = rw p.second_is (onward_below c (j + 1) h);
    third_in = rw p.third_is (onward_below c (j + 2) h);
    fourth_in = rw p.fourth_is (onward_below c (j + 3) h);
  }

  pub spot_next : {v : ℕ} → v ≡ (at.value + at.first) % c.n → SpotAt c (j + 1) (turned at v)
  spot_next e = record {
    value_is = e ∙ ap₂ (λ (x y : ℕ). (x + y) % c.n) p.value_is p.first_is ∙ couple_next c j r.size;
    first_is = p.second_is;
    second_is = p.third_is ∙ ap (onward c) (omega arith);
    third_is = p.fourth_is ∙ ap (onward c) (omega arith);
    fourth_is = p.first_is ∙ onward_round c j;
  }

-- the walk from a cell on: a family of one
abbrev pub spots : Couples → Family Spot (Unit {0})
spots c = record {
  Kept = λ x. Numbered c;
  rule = λ x. couple_l c;
  At = λ x. SpotAt c;
  entry = λ (at : Spot). at.value;
  entry_is = λ x j at p. p.value_is;
}

abbrev pub Walking : Couples → ℕ → ℕ → List ℕ → List ℕ → Spot → ℕ → Type 0
Walking c = WalkOf (spots c) c.n tt

-- the search for the output of couple a
abbrev pub Looking : Couples → ℕ → Spot → ℕ → Type 0
Looking c a = Seeking (Numbered c) (couple_l c) (SpotAt c) a c.n

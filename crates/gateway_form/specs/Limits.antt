-- The places of an entry by their bytes: no limit of a place passes 256, so a place is below its limit exactly if its first three bytes are 0 and its last is below
-- the limit.
use Rattle.std.specs.Prelude.{ℕ, suc, ◌+◌, ◌-◌, ◌*◌, ◌/◌, ◌%◌, ◌≤◌, ◌<◌, Bool, true, false, cond, ◌&&◌, List, ◌⊎◌, ◌≡◌, eqb, ltb, length, get_or, set, replicate}
use Rattle.std.proofs.Math.Bool.{and-true, and-false}
use Rattle.std.proofs.Common.{inl, inr, ⊎_elim, sym, ap, ◌∙◌, subst, mul-zero, mul-suc, add-one, length-set, get_or-set_same, get_or-set_other}
use Rattle.std.proofs.Math.Path.{refl}
use Rattle.std.proofs.Math.Decide.{dec_lt, ℕ_discrete}
use native.Mathlib.Omega.{arith}
use Rattle.std.proofs.lemmas.List.{length-replicate, get_or-replicate}
use borrow.Author.Tests.{lt-ltb, le-ltb, ne_eqb}
use Rattle.laws.specs.Members.{every}
use Rattle.laws.specs.Run.{run}
use Rattle.kinds.specs.declared.sizes.Sizes.{Sizes}

-- whether byte i is below its limit
abbrev pub byte_below : List ℕ → List ℕ → ℕ → Bool
byte_below bytes limits i = ltb (get_or bytes i 0) (get_or limits i 0)

-- each of 204 bytes is
unfoldable pub bytes_below : List ℕ → List ℕ → Bool
bytes_below bytes limits = every (byte_below bytes limits) (run (λ i. i) 0 204)

-- the limit of place x, counted from 0, which is that of ring x + 1: step·(x + 1), or 1 where the kind lacks the ring
unfoldable pub limit_of : Sizes → ℕ → ℕ
limit_of z x = cond (ltb (x + 1) z.branches) (z.step * (x + 1)) 1

-- the limits of the bytes, four to a place
unfoldable pub byte_limit : Sizes → ℕ → ℕ
byte_limit z i = cond (eqb (i % 4) 3) (limit_of z (i / 4)) 1

-- a row of limits
abbrev pub Limits : Sizes → List ℕ → Type 0
Limits z limits = (i : ℕ) → i < 204 → get_or limits i 0 ≡ byte_limit z i

-- the loop over bytes: ok tells of those below i
pub record Below (bytes limits : List ℕ) (ok : Bool) (i : ℕ) : Type 0 where
  pub here : i ≤ 204
  pub rest : (ok && every (byte_below bytes limits) (run (λ i. i) i (204 - i))) ≡ bytes_below bytes limits

module _ {bytes limits : List ℕ} where
  pub below_first : Below bytes limits true 0
  unfolding bytes_below
  below_first = record { here = omega arith; rest = refl }

  module _ {ok : Bool} {i : ℕ} (g : Below bytes limits ok i) where
    pub below_all : 204 ≤ i → ok ≡ bytes_below bytes limits
    below_all h = let e : 204 - i ≡ 0 = omega arith in sym (rw e (and-true ok)) ∙ g.rest

    module _ (h : i < 204) where
      abbrev later : Bool
      later = every (byte_below bytes limits) (run (λ i. i) (i + 1) (204 - (i + 1)))

      from_here : (ok && (byte_below bytes limits i && later)) ≡ bytes_below bytes limits
      from_here = sym (rw (let e : 204 - i ≡ suc (204 - (i + 1)) = omega arith in e, ← add-one i)) ∙ g.rest

      pub below_more : get_or bytes i 0 < get_or limits i 0 → Below bytes limits ok (i + 1)
      below_more l = record { here = omega arith; rest = sym (rw (lt-ltb (get_or bytes i 0) (get_or limits i 0) l)) ∙ from_here }

      pub below_not : get_or limits i 0 ≤ get_or bytes i 0 → Below bytes limits false (i + 1)
      below_not l = record { here = omega arith; rest = sym (rw (le-ltb (get_or bytes i 0) (get_or limits i 0) l) (and-false ok)) ∙ from_here }

-- the loop that makes a row: it has the limits of the places below x, and 1 behind them
pub record Limiting (z : Sizes) (limits : List ℕ) (limit at x : ℕ) : Type 0 where
  pub here : x ≤ z.branches - 1
  pub long : length limits ≡ 204
  pub place : at ≡ 4 * x + 3
  pub last : limit ≡ z.step * x
  pub made : (i : ℕ) → i < 4 * x → get_or limits i 0 ≡ byte_limit z i
  pub ones : (i : ℕ) → i < 204 → 4 * x ≤ i → get_or limits i 0 ≡ 1

pub limiting_first : (z : Sizes) → Limiting z (replicate 204 1) 0 3 0
limiting_first z = record {
  here = omega arith;
  long = length-replicate {A = ℕ} 204 1;
  place = refl;
  last = sym (mul-zero z.step);
  made = λ i h. absurd (let y : ⊥ = omega arith in y);
  ones = λ i h l. get_or-replicate {A = ℕ} 204 i 1 0 h;
}

-- the limits of a place's bytes
module _ (z : Sizes) (x : ℕ) where
  pub limit_last : byte_limit z (4 * x + 3) ≡ limit_of z x
  unfolding byte_limit
  limit_last = rw (let e : (4 * x + 3) % 4 ≡ 3 = omega arith in e, let e : (4 * x + 3) / 4 ≡ x = omega arith in e)

  pub limit_one : (r : ℕ) → r < 3 → byte_limit z (4 * x + r) ≡ 1
  unfolding byte_limit
  limit_one r h = rw (let e : (4 * x + r) % 4 ≡ r = omega arith in e, ne_eqb r 3 (λ e. omega arith))

  pub limit_own : x + 1 < z.branches → limit_of z x ≡ z.step * (x + 1)
  unfolding limit_of
  limit_own h = rw (lt-ltb (x + 1) z.branches h)

  pub limit_lacking : z.branches ≤ x + 1 → limit_of z x ≡ 1
  unfolding limit_of
  limit_lacking h = rw (le-ltb (x + 1) z.branches h)

pub either_side : (a b : ℕ) → (a < b) ⊎ (b ≤ a)
either_side a b = go (dec_lt a b)
  where
    go : Dec (a < b) → (a < b) ⊎ (b ≤ a)
    go (yes h) = inl h
    go (no n) = let m : ¬ (a < b) = n in inr (omega arith)

-- a byte by its place, and which of the four it is
pub by_place : (P : ℕ → Type 0) (i : ℕ) → ((r : ℕ) → r < 4 → P (4 * (i / 4) + r)) → P i
by_place P i h = subst P (let e : 4 * (i / 4) + i % 4 ≡ i = omega arith in e) (h (i % 4) (omega arith))

module _ {z : Sizes} {limits : List ℕ} {limit at x : ℕ} (g : Limiting z limits limit at x) (few : z.branches ≤ 52) where
  module _ (h : x < z.branches - 1) where
    in_place : (v r : ℕ) → r < 4 → v ≡ z.step * (x + 1) → (Dec (r ≡ 3)) → get_or (set limits at v) (4 * x + r) 0 ≡ byte_limit z (4 * x + r)
    in_place v r l e (yes q) =
        rw (q, g.place)
        (get_or-set_same limits (4 * x + 3) v 0 (omega (arith, g.long)) ∙ e ∙ sym (limit_last z x ∙ limit_own z x (omega arith)))
    in_place v r l e (no n) =
        let m : ¬ (r ≡ 3) = n in
        get_or-set_other limits at (4 * x + r) v 0 (λ q. omega (arith, g.place))
        ∙ g.ones (4 * x + r) (omega arith) (omega arith) ∙ sym (limit_one z x r (omega arith))

    -- no limit passes 204
    pub limit_fits : ((y : ℕ) → y < z.branches → z.step * y ≤ 204) → limit + z.step ≤ 204
    limit_fits ring = omega (arith, g.last, ring (x + 1) (omega arith), mul-suc z.step x, ap (λ (n : ℕ). z.step * n) (add-one x))

    pub limiting_more : {v : ℕ} → v ≡ limit + z.step → Limiting z (set limits at v) v (at + 4) (x + 1)
    limiting_more {v} q =
        let e : v ≡ z.step * (x + 1) = omega (arith, q, g.last, mul-suc z.step x, ap (λ (n : ℕ). z.step * n) (add-one x)) in
        record {
          here = omega arith;
          long = length-set limits at v ∙ g.long;
          place = omega (arith, g.place);
          last = e;
          made = λ i l. ⊎_elim
              (λ o. get_or-set_other limits at i v 0 (λ q. omega (arith, g.place)) ∙ g.made i o)
              (λ o. subst (λ (j : ℕ). get_or (set limits at v) j 0 ≡ byte_limit z j) (let y : 4 * x + (i - 4 * x) ≡ i = omega arith in y)
              (in_place v (i - 4 * x) (omega arith) e (ℕ_discrete (i - 4 * x) 3)))
              (either_side i (4 * x));
          ones = λ i l o. get_or-set_other limits at i v 0 (λ q. omega (arith, g.place)) ∙ g.ones i l (omega arith);
        }

  pub limiting_all : z.branches - 1 ≤ x → 0 < z.branches → Limits z limits
  limiting_all h p i l = ⊎_elim (λ o. g.made i o) (λ o. g.ones i l o ∙ sym (one i l o)) (either_side i (4 * x))
    where
      one : (i : ℕ) → i < 204 → 4 * x ≤ i → byte_limit z i ≡ 1
      one i l o = by_place (λ j. byte_limit z j ≡ 1) i (λ r t. go r t (ℕ_discrete r 3))
        where
          go : (r : ℕ) → r < 4 → Dec (r ≡ 3) → byte_limit z (4 * (i / 4) + r) ≡ 1
          go r t (yes q) = rw q (limit_last z (i / 4) ∙ limit_lacking z (i / 4) (omega arith))
          go r t (no n) = let m : ¬ (r ≡ 3) = n in limit_one z (i / 4) r (omega arith)

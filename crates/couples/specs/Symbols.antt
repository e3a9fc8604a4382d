-- From couples to symbols: couple c is symbols 2·c, its A, and 2·c + 1, its B. First, odd-numbered couples swap A and B; then output couple j is couple
-- P(j). Where P and M undo each other below N, so do the two rules of symbols below 2·N. Over any P and M.
use Rattle.std.specs.Prelude.{Bool, true, false, ◌≡◌, refl, ℕ, ◌+◌, ◌-◌, ◌*◌, ◌/◌, ◌%◌, ◌<◌, eqb}
use Rattle.std.proofs.Math.Bool.{cond}
use Rattle.std.proofs.Common.{sym, ◌∙◌, mod-lt, add-zero, arith}
use Rattle.std.proofs.Math.Path.{ap, ap₂}
use Rattle.std.proofs.Math.Nat.{div-add-mod}
use Rattle.laws.specs.Digits.{low, high, digits_below, high_below}
use Rattle.laws.specs.Perm.{Perm}
use Rattle.laws.specs.Walk.{Rule, bare_rule}

-- odd-numbered couples swap A and B: the symbol that stands at place x after it
unfoldable pub swapped : ℕ → ℕ
swapped x = cond (eqb (x / 2 % 2) 1) (2 * (x / 2) + (1 - x % 2)) x

-- symbol t mod 2 of couple p(t/2)
abbrev pub in_couple : (ℕ → ℕ) → ℕ → ℕ
in_couple p t = 2 * p (t / 2) + t % 2

-- output symbol t is the symbol that stands, after the swap, at its place in couple P(j), j being t/2
unfoldable pub symbol_l : (ℕ → ℕ) → ℕ → ℕ
symbol_l l t = swapped (in_couple l t)

-- input symbol k stands after the swap at swapped k, and goes with its couple
unfoldable pub symbol_m : (ℕ → ℕ) → ℕ → ℕ
symbol_m m k = in_couple m (swapped k)

-- the rule of the 2·N symbols of N couples that have a rule
abbrev pub symbol_rule : ℕ → Rule → Rule
symbol_rule n r = bare_rule (2 * n) (symbol_l r.l) (symbol_m r.m)

two : 0 < 2
two = omega arith

-- swapped twice, a symbol is where it was
pub swapped_twice : (x : ℕ) → swapped (swapped x) ≡ x
unfolding swapped
swapped_twice x = go (eqb (x / 2 % 2) 1) refl
  where
    go : (b : Bool) → eqb (x / 2 % 2) 1 ≡ b → swapped (cond b (2 * (x / 2) + (1 - x % 2)) x) ≡ x
    go true e =
        let h = high 2 (x / 2) {b = 1 - x % 2} (omega arith) in
        let l = low 2 (x / 2) {b = 1 - x % 2} (omega arith) in
        ap₂ (λ (c s : ℕ). cond (eqb (c % 2) 1) (2 * c + (1 - s)) (2 * (x / 2) + (1 - x % 2))) h l
        ∙ rw e (omega (arith, div-add-mod x 2, mod-lt x two))
    go false e = rw e

swapped_below : (n x : ℕ) → x < 2 * n → swapped x < 2 * n
unfolding swapped
swapped_below n x h = go (eqb (x / 2 % 2) 1)
  where
    go : (b : Bool) → cond b (2 * (x / 2) + (1 - x % 2)) x < 2 * n
    go true = digits_below 2 (x / 2) (1 - x % 2) (high_below 2 n x two h) (omega arith)
    go false = h

-- the two symbols of output couple j: of an even-numbered couple its A and its B, of an odd-numbered one its B and its A
module _ (l : ℕ → ℕ) (j : ℕ) where
  pub symbol_at : (b : ℕ) → b < 2 → symbol_l l (2 * j + b) ≡ cond (eqb (l j % 2) 1) (2 * l j + (1 - b)) (2 * l j + b)
  unfolding symbol_l swapped
  symbol_at b h =
      ap₂ (λ (c s : ℕ). swapped (2 * l c + s)) (high 2 j h) (low 2 j h)
      ∙ ap₂ (λ (c s : ℕ). cond (eqb (c % 2) 1) (2 * c + (1 - s)) (2 * l j + b)) (high 2 (l j) h) (low 2 (l j) h)

  first_is : symbol_l l (2 * j) ≡ cond (eqb (l j % 2) 1) (2 * l j + 1) (2 * l j + 0)
  first_is = ap (symbol_l l) (sym (add-zero (2 * j))) ∙ symbol_at 0 (omega arith)

  pub pair_even : l j % 2 ≡ 0 → (symbol_l l (2 * j) ≡ 2 * l j) × (symbol_l l (2 * j + 1) ≡ 2 * l j + 1)
  pair_even e = (first_is ∙ rw e (add-zero (2 * l j)), symbol_at 1 (omega arith) ∙ rw e)

  pub pair_odd : l j % 2 ≡ 1 → (symbol_l l (2 * j) ≡ 2 * l j + 1) × (symbol_l l (2 * j + 1) ≡ 2 * l j)
  pair_odd e = (first_is ∙ rw e, symbol_at 1 (omega arith) ∙ rw e (add-zero (2 * l j)))

-- whole couples moved
module _ {n : ℕ} {l m : ℕ → ℕ} (p : Perm n l m) where
  in_couples : Perm (2 * n) (in_couple l) (in_couple m)
  in_couples = record {
    l_below = λ t h. digits_below 2 (l (t / 2)) (t % 2) (p.l_below (t / 2) (high_below 2 n t two h)) (mod-lt t two);
    m_below = λ k h. digits_below 2 (m (k / 2)) (k % 2) (p.m_below (k / 2) (high_below 2 n k two h)) (mod-lt k two);
    l_of_m = λ k h. at l m (p.l_of_m (k / 2) (high_below 2 n k two h));
    m_of_l = λ t h. at m l (p.m_of_l (t / 2) (high_below 2 n t two h));
  }
    where
      at : (f g : ℕ → ℕ) {x : ℕ} → f (g (x / 2)) ≡ x / 2 → in_couple f (in_couple g x) ≡ x
      at f g {x} e =
          ap₂ (λ (c s : ℕ). 2 * f c + s) (high 2 (g (x / 2)) (mod-lt x two)) (low 2 (g (x / 2)) (mod-lt x two))
          ∙ ap (λ (c : ℕ). 2 * c + x % 2) e
          ∙ div-add-mod x 2

  -- each symbol once
  pub symbols_once : Perm (2 * n) (symbol_l l) (symbol_m m)
  unfolding symbol_l symbol_m
  symbols_once = let q = in_couples in record {
    l_below = λ t h. swapped_below n (in_couple l t) (q.l_below t h);
    m_below = λ k h. q.m_below (swapped k) (swapped_below n k h);
    l_of_m = λ k h. ap swapped (q.l_of_m (swapped k) (swapped_below n k h)) ∙ swapped_twice k;
    m_of_l = λ t h. ap (in_couple m) (swapped_twice (in_couple l t)) ∙ q.m_of_l t h;
  }

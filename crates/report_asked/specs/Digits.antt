-- A line's number in plain words: a line says v exactly where it is one to four bytes, each a digit, and v is what they are in decimal. Rests on Lines.
use Rattle.std.specs.Prelude.{ℕ, suc, ◌+◌, ◌*◌, ◌-◌, ◌^◌, ◌≤◌, ◌<◌, Bool, true, false, cond, List, [], ◌∷◌, ◌↔◌, ◌≡◌, refl, eqb, ltb, length, Some, None}
use Rattle.std.proofs.Common.{sym, ap, ◌∙◌, arith, le-ltb, ltb-false, ne_eqb}
use Rattle.std.proofs.Math.Nat.{pow-succ', pow-le-pow_right}
use Rattle.std.proofs.lemmas.Bool.{eqb-false}
use Rattle.numbers.specs.Decimal.{digit_of, read_from, said_by}
use Rattle.report_asked.specs.Lines.{ended, number_in}

-- each byte is a digit, `0` to `9`
abbrev pub Digits : List ℕ → Type 0
Digits [] = Unit {0}
Digits (b ∷ bs) = ((48 ≤ b) × (b ≤ 57)) × Digits bs

-- what digits are in decimal, behind digits that are v
abbrev pub decimal_from : ℕ → List ℕ → ℕ
decimal_from v [] = v
decimal_from v (b ∷ bs) = decimal_from (v * 10 + (b - 48)) bs

-- one to four digits that are v
pub record Says (s : List ℕ) (v : ℕ) : Type 0 where
  pub some : 1 ≤ length s
  pub few : length s ≤ 4
  pub digits : Digits s
  pub decimal : v ≡ decimal_from 0 s

-- a byte that is a digit
digit_is : (b : ℕ) → 48 ≤ b → b ≤ 57 → digit_of b ≡ b - 48
unfolding digit_of
digit_is b l h = simp (le-ltb b 48 l, le-ltb 57 b h)

digit_only : (b : ℕ) → ltb 9 (digit_of b) ≡ false → (48 ≤ b) × (b ≤ 57)
unfolding digit_of
digit_only b e = go (ltb b 48) (ltb 57 b) refl refl e
  where
    go : (p q : Bool) → ltb b 48 ≡ p → ltb 57 b ≡ q → ltb 9 (cond p 10 (cond q 10 (b - 48))) ≡ false → (48 ≤ b) × (b ≤ 57)
    go true q m n e = let z = ltb-false 9 10 e in absurd (omega arith)
    go false true m n e = let z = ltb-false 9 10 e in absurd (omega arith)
    go false false m n e = (ltb-false b 48 m, ltb-false 57 b n)

-- what is read is digits, and what they are
read_only : (s : List ℕ) (v u : ℕ) → read_from v s ≡ Some u → Digits s × (u ≡ decimal_from v s)
unfolding read_from
read_only [] v u e = (tt, let z : u ≡ v = cc in z)
read_only (b ∷ bs) v u e =
    go (ltb 9 (digit_of b)) (ltb 4294967295 (v * 10 + digit_of b)) refl e (read_only bs (v * 10 + digit_of b) u)
  where
    go : (p q : Bool) → ltb 9 (digit_of b) ≡ p → cond p None (cond q None (read_from (v * 10 + digit_of b) bs)) ≡ Some u
        → (read_from (v * 10 + digit_of b) bs ≡ Some u → Digits bs × (u ≡ decimal_from (v * 10 + digit_of b) bs))
        → Digits (b ∷ bs) × (u ≡ decimal_from v (b ∷ bs))
    go true q m e r = let z : ◌≡◌ {A = ℕ} 0 1 = cc in absurd (omega arith)
    go false true m e r = let z : ◌≡◌ {A = ℕ} 0 1 = cc in absurd (omega arith)
    go false false m e r =
        let d = digit_only b m in
        let w = r e in
        ((d, w.0), w.1 ∙ ap (λ (x : ℕ). decimal_from (v * 10 + x) bs) (digit_is b d.0 d.1))

-- digits are read: k of them before, at most four in all
read_digits : (s : List ℕ) (v k : ℕ) → v < 10 ^ k → k + length s ≤ 4 → Digits s → read_from v s ≡ Some (decimal_from v s)
unfolding read_from
read_digits [] v k h l d = refl
read_digits (b ∷ bs) v k h l d =
    let e = digit_is b d.0.0 d.0.1 in
    let p : 10 ^ suc k ≡ 10 * 10 ^ k = pow-succ' 10 k in
    let one : 0 < 10 = omega arith in
    let four : suc k ≤ 4 = omega arith in
    let m : 10 ^ suc k ≤ 10 ^ 4 = pow-le-pow_right one four in
    let x : v * 10 + (b - 48) < 10 ^ suc k = omega (arith, d.0.0, d.0.1) in
    rw e (simp (le-ltb 9 (b - 48) (omega (arith, d.0.1)), le-ltb 4294967295 (v * 10 + (b - 48)) (omega arith))
    (read_digits bs (v * 10 + (b - 48)) (suc k) x (omega arith) d.1))

pub number_exactly : (s : List ℕ) (v : ℕ) → (number_in s ≡ Some v) ↔ Says s v
unfolding number_in said_by
number_exactly s v = (λ e. only (ltb 4 (length s)) (eqb (length s) 0) refl refl e, λ y. said y)
  where
    only : (p q : Bool) → ltb 4 (length s) ≡ p → eqb (length s) 0 ≡ q → cond p None (cond q None (cond (ltb 10 (length s)) None (read_from 0 s))) ≡ Some v
        → Says s v
    only true q m n e = let z : ◌≡◌ {A = ℕ} 0 1 = cc in absurd (omega arith)
    only false true m n e = let z : ◌≡◌ {A = ℕ} 0 1 = cc in absurd (omega arith)
    only false false m n e =
        let l = ltb-false 4 (length s) m in
        let w = read_only s 0 v (simp (le-ltb 10 (length s) (omega arith)) at e) in
        record { some = omega (arith, eqb-false (length s) 0 n); few = l; digits = w.0; decimal = w.1 }

    said : Says s v → number_in s ≡ Some v
    said y =
        let f = y.few in
        let o = y.some in
        simp (le-ltb 4 (length s) f, ne_eqb (length s) 0 (λ z. let w : 1 ≤ 0 = omega (arith, z) in omega arith), le-ltb 10 (length s) (omega arith))
        (read_digits s 0 0 (omega arith) (omega arith) y.digits ∙ ap Some (sym y.decimal))

-- digits have no LF
digits_unbroken : (s : List ℕ) → Digits s → ended s ≡ false
unfolding ended
digits_unbroken [] d = refl
digits_unbroken (b ∷ bs) d = rw (ne_eqb b 10 (λ z. let w = d.0.0 in omega arith)) (digits_unbroken bs d.1)

pub number_unbroken : (s : List ℕ) {v : ℕ} → number_in s ≡ Some v → ended s ≡ false
number_unbroken s {v} e = digits_unbroken s ((number_exactly s v).0 e).digits

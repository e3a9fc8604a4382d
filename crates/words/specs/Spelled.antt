-- A number that is spelled in decimal digits, as the kit's `io::decimal` spells it, is read as that number.
use Rattle.std.specs.Prelude.{ℕ, zero, suc, ◌+◌, ◌*◌, ◌/◌, ◌%◌, ◌^◌, ◌≤◌, ◌<◌, ◌≡◌, refl, Bool, true, false, cond, List, [], ◌∷◌, ◌++◌, ltb, length, Some, None}
use Rattle.std.proofs.Common.{ap, ◌∙◌, div-add-mod', mod-lt, add-one, arith, ne_eqb, lt-ltb, le-ltb, length-append}
use Rattle.io.specs.Digits.{hex_digit_ascii, last_digits}
use Rattle.numbers.specs.Decimal.{digit_of, read_from, said_by}

-- a digit's glyph says the digit
glyph_says : (d : ℕ) → d < 10 → digit_of (hex_digit_ascii d) ≡ d
unfolding digit_of
glyph_says d h = simp (lt-ltb d 10 h, le-ltb (48 + d) 48 (omega arith), le-ltb 57 (48 + d) (omega arith)) (omega arith)

-- a byte after a word that says u
read_last : (xs : List ℕ) (v u b : ℕ) → read_from v xs ≡ Some u → read_from v (xs ++ (b ∷ [])) ≡ read_from u (b ∷ [])
unfolding read_from
read_last [] v u b e = let z : v ≡ u = cc in rw z
read_last (x ∷ xs) v u b e = go (ltb 9 (digit_of x)) (ltb 4294967295 (v * 10 + digit_of x)) e (read_last xs (v * 10 + digit_of x) u b)
  where
    go : (p q : Bool) → cond p None (cond q None (read_from (v * 10 + digit_of x) xs)) ≡ Some u
        → (read_from (v * 10 + digit_of x) xs ≡ Some u → read_from (v * 10 + digit_of x) (xs ++ (b ∷ [])) ≡ read_from u (b ∷ []))
        → cond p None (cond q None (read_from (v * 10 + digit_of x) (xs ++ (b ∷ [])))) ≡ read_from u (b ∷ [])
    go true q e rest = let z : ◌≡◌ {A = ℕ} 0 1 = cc in absurd (omega arith)
    go false true e rest = let z : ◌≡◌ {A = ℕ} 0 1 = cc in absurd (omega arith)
    go false false e rest = rest e

-- one more digit
read_digit : (u d : ℕ) → d < 10 → u * 10 + d ≤ 4294967295 → read_from u (hex_digit_ascii d ∷ []) ≡ Some (u * 10 + d)
unfolding read_from
read_digit u d h l = rw (glyph_says d h) (simp (le-ltb 9 d (omega arith), le-ltb 4294967295 (u * 10 + d) l))

pub read_digits : (k n : ℕ) → n < 10 ^ k → n ≤ 4294967295 → read_from 0 (last_digits 10 k n) ≡ Some n
unfolding read_from
read_digits zero n h l = let z : n ≡ 0 = omega arith in rw z
read_digits (suc k) n h l =
    let whole : n / 10 * 10 + n % 10 ≡ n = div-add-mod' n 10 in
    let last : n % 10 < 10 = mod-lt n (let z : 0 < 10 = omega arith in z) in
    let front : n / 10 < 10 ^ k = omega (arith, h, whole) in
    read_last (last_digits 10 k (n / 10)) 0 (n / 10) (hex_digit_ascii (n % 10)) (read_digits k (n / 10) front (omega (arith, whole)))
    ∙ read_digit (n / 10) (n % 10) last (omega (arith, whole))
    ∙ ap Some whole

length_digits : (k n : ℕ) → length (last_digits 10 k n) ≡ k
length_digits zero n = refl
length_digits (suc k) n = length-append (last_digits 10 k (n / 10)) (hex_digit_ascii (n % 10) ∷ []) ∙ ap (λ (x : ℕ). x + 1) (length_digits k (n / 10)) ∙ add-one k

-- one to ten digits of a number of 32 bits are read as it
pub spelled : (k n : ℕ) → 0 < k → k ≤ 10 → n < 10 ^ k → n ≤ 4294967295 → said_by (last_digits 10 k n) ≡ Some n
unfolding said_by
spelled k n some few h l =
    let e = length_digits k n in
    rw e (simp (ne_eqb k 0 (λ z. let y : 0 < 0 = omega (arith, z) in omega arith), le-ltb 10 k few) (read_digits k n h l))

-- Text behind text, and numbers as text: what is put in parts is put as a whole, and a number is put as its decimal digits. Rests on Gathered.
use Rattle.std.specs.Prelude.{ℕ, zero, suc, ◌+◌, ◌*◌, ◌-◌, ◌/◌, ◌%◌, ◌^◌, ◌≤◌, ◌<◌, min, ◌≡◌, refl, Bool, true, false, cond, List, [], ◌∷◌, ◌++◌, ltb, set}
use Rattle.std.proofs.Common.{sym, ap, ap₂, subst, ◌∙◌, mod-eq_of_lt, mod-lt, div-lt_iff_lt-mul, le-div_iff_mul-le, arith, lt-ltb, le-ltb}
use Rattle.std.proofs.Math.Nat.{pow-succ', one-le-pow}
use Rattle.io.specs.Digits.{hex_digit_ascii, last_digits, IsDigitCount}
use Rattle.words.specs.Gathered.{waiting, gathered, Put, PutNumber}

waiting_join : (s t : List ℕ) (at : ℕ) → waiting at (s ++ t) ≡ waiting (waiting at s) t
unfolding waiting
waiting_join [] t at = refl
waiting_join (b ∷ bs) t at = go (ltb at 4096) (waiting_join bs t (at + 1)) (waiting_join bs t 1)
  where
    go : (x : Bool) → waiting (at + 1) (bs ++ t) ≡ waiting (waiting (at + 1) bs) t → waiting 1 (bs ++ t) ≡ waiting (waiting 1 bs) t
        → cond x (waiting (at + 1) (bs ++ t)) (waiting 1 (bs ++ t)) ≡ waiting (cond x (waiting (at + 1) bs) (waiting 1 bs)) t
    go true p q = p
    go false p q = q

gathered_join : (s t room : List ℕ) (at : ℕ) → gathered room at (s ++ t) ≡ gathered (gathered room at s) (waiting at s) t
unfolding gathered waiting
gathered_join [] t room at = refl
gathered_join (b ∷ bs) t room at = go (ltb at 4096) (gathered_join bs t (set room at b) (at + 1)) (gathered_join bs t (set room 0 b) 1)
  where
    go : (x : Bool) → gathered (set room at b) (at + 1) (bs ++ t) ≡ gathered (gathered (set room at b) (at + 1) bs) (waiting (at + 1) bs) t
        → gathered (set room 0 b) 1 (bs ++ t) ≡ gathered (gathered (set room 0 b) 1 bs) (waiting 1 bs) t
        → cond x (gathered (set room at b) (at + 1) (bs ++ t)) (gathered (set room 0 b) 1 (bs ++ t))
        ≡ gathered (cond x (gathered (set room at b) (at + 1) bs) (gathered (set room 0 b) 1 bs)) (cond x (waiting (at + 1) bs) (waiting 1 bs)) t
    go true p q = p
    go false p q = q

-- no text, the same text, and a text behind another
pub put_nothing : (room : List ℕ) (at : ℕ) → at ≤ 4096 → Put room at [] room at
unfolding gathered waiting
put_nothing room at h = record { text = refl; count = omega arith; few = h }

pub put_as : {room after s t : List ℕ} {from r : ℕ} → s ≡ t → Put room from s after r → Put room from t after r
put_as {room} {after} {s} {t} {from} {r} e p = subst (λ (x : List ℕ). Put room from x after r) e p

pub put_join : {room mid after s t : List ℕ} {from at r : ℕ} → Put room from s mid at → Put mid at t after r → Put room from (s ++ t) after r
put_join {room} {mid} {after} {s} {t} {from} {at} {r} p q =
    let f = p.few in
    let m : min at 4096 ≡ at = omega arith in
    record {
      text = q.text ∙ ap (λ (n : ℕ). gathered mid n t) (m ∙ p.count) ∙ ap (λ (l : List ℕ). gathered l (waiting (min from 4096) s) t) p.text
          ∙ sym (gathered_join s t room (min from 4096));
      count = q.count ∙ ap (λ (n : ℕ). waiting n t) (m ∙ p.count) ∙ sym (waiting_join s t (min from 4096));
      few = q.few;
    }

-- n in decimal, of at most so many digits: the last stands behind those of n / 10
unfoldable pub decimal_in : ℕ → ℕ → List ℕ
decimal_in zero n = []
decimal_in (suc m) n = cond (ltb n 10) ((48 + n) ∷ []) (decimal_in m (n / 10) ++ ((48 + n % 10) ∷ []))

-- n in decimal
unfoldable pub decimal : ℕ → List ℕ
decimal n = decimal_in (suc n) n

-- the fewest digits that hold n are those
glyph_is : (d : ℕ) → d < 10 → hex_digit_ascii d ≡ 48 + d
glyph_is d h = rw (lt-ltb d 10 h)

powers_hold : (j n : ℕ) → IsDigitCount 10 1 n (suc (suc j)) → 10 ^ suc j ≤ n
powers_hold j n f = let e : suc (suc j) - 1 ≡ suc j = omega arith in rw e at (f.2 (omega arith))

fewest_decimal : (k m n : ℕ) → IsDigitCount 10 1 n k → k ≤ m → last_digits 10 k n ≡ decimal_in m n
unfolding decimal_in
fewest_decimal zero m n f l = absurd (let z = f.0 in omega arith)
fewest_decimal (suc k) zero n f l = absurd (omega arith)
fewest_decimal (suc zero) (suc m) n f l =
    let h : n < 10 = f.1 in
    rw (lt-ltb n 10 h) (ap (λ (d : ℕ). hex_digit_ascii d ∷ []) (mod-eq_of_lt h) ∙ ap (λ (b : ℕ). b ∷ []) (glyph_is n h))
fewest_decimal (suc (suc j)) (suc m) n f l =
    let ten : 0 < 10 = omega arith in
    let h = powers_hold j n f in
    let p : 10 ^ suc j ≡ 10 * 10 ^ j = pow-succ' 10 j in
    let q : 10 ^ suc (suc j) ≡ 10 * 10 ^ suc j = pow-succ' 10 (suc j) in
    let one : 1 ≤ 10 ^ j = one-le-pow j 10 ten in
    let big : 10 ≤ n = omega arith in
    let less : n / 10 < 10 ^ suc j = (div-lt_iff_lt-mul ten).1 (let z : n < 10 ^ suc j * 10 = omega (arith, f.1) in z) in
    let most : 10 ^ j ≤ n / 10 = (le-div_iff_mul-le ten).1 (let z : 10 ^ j * 10 ≤ n = omega arith in z) in
    let next : IsDigitCount 10 1 (n / 10) (suc j) = (omega arith, less, λ t. let e : suc j - 1 ≡ j = omega arith in rw e most) in
    rw (le-ltb n 10 big)
    (ap₂ (λ (l : List ℕ) (b : ℕ). l ++ (b ∷ [])) (fewest_decimal (suc j) m (n / 10) next (omega arith)) (glyph_is (n % 10) (mod-lt n ten)))

below_power : (i : ℕ) → i < 10 ^ i
below_power zero = omega arith
below_power (suc i) = omega (arith, pow-succ' 10 i, below_power i)

fewest_few : (k n : ℕ) → IsDigitCount 10 1 n k → k ≤ suc n
fewest_few zero n f = omega arith
fewest_few (suc zero) n f = omega arith
fewest_few (suc (suc j)) n f = omega (arith, powers_hold j n f, below_power (suc j))

-- so a number is put as its decimal digits
pub number_put : {room after : List ℕ} {from n r : ℕ} → PutNumber room from n after r → Put room from (decimal n) after r
unfolding decimal
number_put {n = n} p =
    put_as (fewest_decimal p.places (suc n) n p.fewest (fewest_few p.places n p.fewest)) p.put

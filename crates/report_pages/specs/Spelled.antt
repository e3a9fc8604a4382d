-- A number in decimal, in plain words: it is digits, they are the number, and none but 0 begins with a nought. And what stands in a line of the report. Rests
-- on Text, on Puts of crate words and on Digits of crate report_asked.
use Rattle.std.specs.Prelude.{ℕ, zero, suc, ◌+◌, ◌*◌, ◌-◌, ◌/◌, ◌%◌, ◌≤◌, ◌<◌, Bool, true, false, cond, List, [], ◌∷◌, ◌++◌, ◌≡◌, refl, ltb, length, get_or}
use Rattle.std.proofs.Common.{div-add-mod', mod-lt, arith, length-append, ltb-true, ltb-false}
use Rattle.words.specs.Puts.{decimal, decimal_in}
use Rattle.wcdma_report.specs.declared.Figures.{Figures}
use Rattle.wcdma_report.specs.declared.Totals.{Totals}
use Rattle.wcdma_report.specs.Report.{figures}
use Rattle.report_asked.specs.Digits.{Digits, decimal_from}
use Rattle.report_pages.specs.Text.{space, end, field_text, row_text, rows_text, total_text}

-- a digit behind digits
digits_on : (s : List ℕ) (b : ℕ) → Digits s → 48 ≤ b → b ≤ 57 → Digits (s ++ (b ∷ []))
digits_on [] b d l h = ((l, h), tt)
digits_on (x ∷ s) b d l h = (d.0, digits_on s b d.1 l h)

decimal_on : (s : List ℕ) (v b : ℕ) → decimal_from v (s ++ (b ∷ [])) ≡ decimal_from v s * 10 + (b - 48)
decimal_on [] v b = refl
decimal_on (x ∷ s) v b = decimal_on s (v * 10 + (x - 48)) b

first_on : (s t : List ℕ) → 0 < length s → get_or (s ++ t) 0 0 ≡ get_or s 0 0
first_on [] t h = absurd (omega arith)
first_on (x ∷ s) t h = refl

-- n in decimal
pub record Spells (s : List ℕ) (n : ℕ) : Type 0 where
  pub some : 0 < length s
  pub digits : Digits s
  pub decimal_is : decimal_from 0 s ≡ n
  pub no_nought : 0 < n → 48 < get_or s 0 0

spells_in : (m n : ℕ) → n < m → Spells (decimal_in m n) n
unfolding decimal_in
spells_in zero n h = absurd (omega arith)
spells_in (suc m) n h = go (ltb n 10) refl (spells_in m (n / 10))
  where
    whole : n / 10 * 10 + n % 10 ≡ n
    whole = div-add-mod' n 10

    last : n % 10 < 10
    last = mod-lt n (let z : 0 < 10 = omega arith in z)

    go : (b : Bool) → ltb n 10 ≡ b → (n / 10 < m → Spells (decimal_in m (n / 10)) (n / 10))
        → Spells (cond b ((48 + n) ∷ []) (decimal_in m (n / 10) ++ ((48 + n % 10) ∷ []))) n
    go true e r =
        let l = ltb-true n 10 e in
        record { some = omega arith; digits = ((omega arith, omega arith), tt); decimal_is = omega arith; no_nought = λ z. omega arith }
    go false e r =
        let l = ltb-false n 10 e in
        let s = r (omega (arith, whole)) in
        record {
          some = omega (arith, length-append (decimal_in m (n / 10)) ((48 + n % 10) ∷ []), s.some);
          digits = digits_on (decimal_in m (n / 10)) (48 + n % 10) s.digits (omega arith) (omega (arith, last));
          decimal_is = omega (arith, decimal_on (decimal_in m (n / 10)) 0 (48 + n % 10), s.decimal_is, whole);
          no_nought = λ z. let f = first_on (decimal_in m (n / 10)) ((48 + n % 10) ∷ []) s.some in omega (arith, s.no_nought (omega (arith, whole, last)));
        }

pub spells : (n : ℕ) → Spells (decimal n) n
unfolding decimal
spells n = spells_in (suc n) n (omega arith)

-- a line, the lines of a range, and the last line, number by number
pub row_is : (f : Figures) → row_text f
    ≡ (decimal f.k ++ space)
    ++ ((decimal f.r ++ space) ++ ((decimal f.c ++ space) ++ ((decimal f.cells ++ space) ++ (decimal f.pads ++ end))))
unfolding row_text field_text
row_is f = refl

pub rows_are : (first : ℕ) → (rows_text first 0 ≡ []) × ((n : ℕ) → rows_text first (suc n) ≡ rows_text first n ++ row_text (figures (first + n)))
unfolding rows_text
rows_are first = (refl, λ n. refl)

-- "total "
unfoldable pub total_word : List ℕ
total_word = 116 ∷ 111 ∷ 116 ∷ 97 ∷ 108 ∷ 32 ∷ []

pub total_is : (t : Totals) → total_text t
    ≡ total_word ++ ((decimal t.sizes ++ space) ++ ((decimal t.cells ++ space) ++ (decimal t.pads ++ end)))
unfolding total_text field_text total_word
total_is t = refl

-- From what the calls found in the bytes to what they say of them. Rests on Asked and Split.
use Rattle.std.specs.Prelude.{ℕ, ◌+◌, ◌-◌, ◌<◌, Bool, true, false, List, ◌≡◌, length, take, drop, position, nat_eq, Option, Some, None, is_some}
use Rattle.std.proofs.Math.Bool.{not}
use Rattle.std.proofs.Math.Path.{sym, ap}
use Rattle.std.proofs.Common.{◌∙◌, arith, length-drop, take_all, eq-eqb, ne_eqb}
use Rattle.laws.specs.Outcome.{done, refused}
use Rattle.wcdma_report.specs.Report.{is_size, is_range}
use Rattle.report_asked.specs.Lines.{line_of, ended, behind, number_in, begins}
use Rattle.report_asked.specs.Asked.{range, range_of, asked_by, asked_last, settled_by}
use Rattle.report_asked.specs.Split.{take_line, drop_line, ended_before, line_ends, line_open}

-- bytes whose first line isn't over
module _ (s : List ℕ) (found : None ≡ position (λ b. nat_eq b 10) s) where
  pub read_unended : refused 3 ≡ asked_by s
  unfolding asked_by
  read_unended = simp (line_open s found)

  pub settled_unended : {b : Bool} → b ≡ begins s → not b ≡ settled_by s
  unfolding settled_by
  settled_unended q = simp (line_open s found, q)

-- n is the number that the first line says
module _ (s : List ℕ) {n : Option ℕ} (said : n ≡ number_in (line_of s)) (first : ℕ) where
  pub last_none : n ≡ None → refused 3 ≡ asked_last first s
  unfolding range_of
  last_none q = rw (← said, q)

  pub last_out : {last : ℕ} → n ≡ Some last → is_range first last ≡ false → refused 3 ≡ asked_last first s
  unfolding range_of
  last_out q r = rw (← said, q, r)

  pub last_in : {last : ℕ} → n ≡ Some last → is_range first last ≡ true → done (range first last) ≡ asked_last first s
  unfolding range_of
  last_in q r = rw (← said, q, r)

-- e is where the first line of s ends in LF, and n the number that it says
module _ (s : List ℕ) {e : ℕ} (found : Some e ≡ position (λ b. nat_eq b 10) s) where
  at : e ≡ length (line_of s)
  at = (line_ends s found).0

  pub within : e < length s
  within = (line_ends s found).1

  over : ended s ≡ true
  over = ended_before s (omega (arith, at, within))

  behind_is : take (length s - (e + 1)) (drop (e + 1) s) ≡ behind s
  behind_is =
      take_all (length s - (e + 1)) (drop (e + 1) s) (simp length-drop (omega (arith, within)))
      ∙ ap (λ (k : ℕ). drop (k + 1) s) at ∙ drop_line s

  module _ {n : Option ℕ} (said : n ≡ number_in (take e s)) where
    said_is : number_in (line_of s) ≡ n
    said_is = ap number_in (sym (take_line s)) ∙ ap (λ (k : ℕ). number_in (take k s)) (sym at) ∙ sym said

    pub read_none : n ≡ None → refused 3 ≡ asked_by s
    unfolding asked_by range_of
    read_none q = rw (over, said_is, q)

    pub settled_none : n ≡ None → true ≡ settled_by s
    unfolding settled_by
    settled_none q = rw (over, said_is, q)

    module _ {first : ℕ} (q : n ≡ Some first) where
      pub read_first : asked_last first (take (length s - (e + 1)) (drop (e + 1) s)) ≡ asked_by s
      unfolding asked_by
      read_first = rw (behind_is, over, said_is, q)

      pub settled_out : is_size first ≡ false → true ≡ settled_by s
      unfolding settled_by
      settled_out r = rw (over, said_is, q, r)

      pub settled_in : is_size first ≡ true → {b : Bool} → b ≡ begins (take (length s - (e + 1)) (drop (e + 1) s)) → not b ≡ settled_by s
      unfolding settled_by
      settled_in r t = rw (over, said_is, q, r) (ap not (t ∙ ap begins behind_is))

-- whether a line may begin so
module _ (s : List ℕ) where
  pub begins_empty : length s ≡ 0 → true ≡ begins s
  unfolding begins
  begins_empty h = simp (eq-eqb (length s) 0 h)

  pub begins_number : (length s ≡ 0 → ⊥) → is_some (number_in s) ≡ begins s
  unfolding begins
  begins_number some = simp (ne_eqb (length s) 0 some)

-- Bytes that settle what is asked for: whatever follows them, it stays. Bytes that don't: they are fewer than ten, and begin two lines of one to four
-- digits. Rests on Asked and Joined.
use Rattle.std.specs.Prelude.{ℕ, ◌≤◌, Bool, cond, not, ◌||◌, List, [], ◌∷◌, ◌++◌, ◌≡◌, length, Option, Some, None, is_some}
use Rattle.std.proofs.Math.Bool.{true, false}
use Rattle.std.proofs.lemmas.Bool.{false≢true, eqb-false, not-true, not-false}
use Rattle.std.proofs.Common.{append-nil, append_assoc, sym, ap, ◌∙◌, arith, length-append, ne_eqb}
use Rattle.std.proofs.Math.Path.{refl}
use Rattle.std.proofs.Math.Dec.{eqb}
use Rattle.laws.specs.Outcome.{Outcome, refused}
use Rattle.numbers.specs.Decimal.{digit_of, read_from, said_by}
use Rattle.wcdma_report.specs.Report.{is_size}
use Rattle.report_asked.specs.declared.Range.{Range}
use Rattle.report_asked.specs.Lines.{line_of, ended, behind, number_in, begins}
use Rattle.report_asked.specs.Asked.{range_of, asked_by, is_size_in, settled_by}
use Rattle.report_asked.specs.Digits.{Says, number_exactly}
use Rattle.report_asked.specs.Joined.{line_on, wrong_on, line_whole, line_cut, cut_over}

-- a number, read back from the test for one
number_wrong : (n : Option ℕ) → is_some n ≡ false → n ≡ None
number_wrong (Some v) e = absurd (false≢true (sym e))
number_wrong None e = refl

-- bytes as no line may begin: some, and no number
module _ (s : List ℕ) where
  no_beginning : begins s ≡ false → (length s ≡ 0 → ⊥) × (number_in s ≡ None)
  unfolding begins
  no_beginning e = go (eqb (length s) 0) refl e
    where
      go : (x : Bool) → eqb (length s) 0 ≡ x → x || is_some (number_in s) ≡ false → (length s ≡ 0 → ⊥) × (number_in s ≡ None)
      go true q e = absurd (false≢true (sym e))
      go false q e = (eqb-false (length s) 0 q, number_wrong (number_in s) e)

-- a beginning of some bytes is a number, and so at most four bytes too
begun_number : (b : ℕ) (bs : List ℕ) → begins (b ∷ bs) ≡ true → (v : ℕ) × (number_in (b ∷ bs) ≡ Some v)
unfolding begins
begun_number b bs e = go (number_in (b ∷ bs)) refl (simp (ne_eqb (length (b ∷ bs)) 0 (λ z. omega arith)) at e)
  where
    go : (n : Option ℕ) → number_in (b ∷ bs) ≡ n → is_some n ≡ true → (v : ℕ) × (number_in (b ∷ bs) ≡ Some v)
    go (Some v) q e = (v, q)
    go None q e = absurd (false≢true e)

begins_short : (s : List ℕ) → begins s ≡ true → length s ≤ 4
begins_short [] e = omega arith
begins_short (b ∷ bs) e = let n = begun_number b bs e in ((number_exactly (b ∷ bs) n.0).0 n.1).few

-- a first that is no size is refused, whatever the last is
range_out : (a : ℕ) (n : Option ℕ) → is_size a ≡ false → range_of (Some a) n ≡ refused 3
unfolding range_of
range_out a (Some b) e = rw e
range_out a None e = refl

-- the second line's number stays
last_stays : (s t : List ℕ) → begins s ≡ false → number_in (line_of (s ++ t)) ≡ number_in (line_of s)
last_stays s t e = go (ended s) refl
  where
    go : (x : Bool) → ended s ≡ x → number_in (line_of (s ++ t)) ≡ number_in (line_of s)
    go true q = ap number_in (cut_over s t q).line_is
    go false q =
        let w = no_beginning s e in
        ap number_in (line_on t s q) ∙ wrong_on (line_of t) s w.0 w.1 ∙ sym w.1 ∙ ap number_in (sym (line_whole s q))

-- whatever follows, what is asked for stays
pub settled_stays : (s t : List ℕ) → settled_by s ≡ true → asked_by (s ++ t) ≡ asked_by s
unfolding settled_by asked_by range_of
settled_stays s t e = go (ended s) refl e
  where
    none_yet : ended s ≡ false → begins s ≡ false → asked_by (s ++ t) ≡ refused 3
    none_yet q b =
        let w = no_beginning s b in
        let n : number_in (line_of (s ++ t)) ≡ None = ap number_in (line_on t s q) ∙ wrong_on (line_of t) s w.0 w.1 in
        rw n (either (ended (s ++ t)))
      where
        either : (x : Bool) → cond {A = Outcome ℕ Range} x (refused 3) (refused 3) ≡ refused 3
        either true = refl
        either false = refl

    over : (n : Option ℕ) → ended s ≡ true → number_in (line_of s) ≡ n → cond (is_size_in n) (not (begins (behind s))) true ≡ true
        → range_of n (number_in (line_of (behind s ++ t))) ≡ range_of n (number_in (line_of (behind s)))
    over None q m h = refl
    over (Some a) q m h = size (is_size a) refl h
      where
        size : (x : Bool) → is_size a ≡ x → cond x (not (begins (behind s))) true ≡ true
            → range_of (Some a) (number_in (line_of (behind s ++ t))) ≡ range_of (Some a) (number_in (line_of (behind s)))
        size true z h = ap (range_of (Some a)) (last_stays (behind s) t (not-true (begins (behind s)) h))
        size false z h = range_out a (number_in (line_of (behind s ++ t))) z ∙ sym (range_out a (number_in (line_of (behind s))) z)

    go : (x : Bool) → ended s ≡ x → cond x (cond (is_size_in (number_in (line_of s))) (not (begins (behind s))) true) (not (begins s)) ≡ true
        → asked_by (s ++ t) ≡ cond x (range_of (number_in (line_of s)) (number_in (line_of (behind s)))) (refused 3)
    go true q h =
        let c = cut_over s t q in
        rw (c.ends, c.line_is, c.behind_is) (over (number_in (line_of s)) q refl h)
    go false q h = none_yet q (not-true (begins s) h)

-- a line's beginning goes on to a number, with `0` where it is none yet
record Whole (s : List ℕ) : Type 0 where
  rest : List ℕ
  v : ℕ
  says : number_in (s ++ rest) ≡ Some v

nought : number_in (48 ∷ []) ≡ Some 0
unfolding number_in said_by read_from digit_of
nought = refl

whole_of : (s : List ℕ) → begins s ≡ true → Whole s
whole_of [] e = record { rest = 48 ∷ []; v = 0; says = nought }
whole_of (b ∷ bs) e =
    let n = begun_number b bs e in
    record { rest = []; v = n.0; says = ap number_in (append-nil (b ∷ bs)) ∙ n.1 }

-- bytes that go on to two lines, of one to four digits each and an LF between them, with nothing behind the second
pub record Going (s : List ℕ) : Type 0 where
  pub more : List ℕ
  pub first : ℕ
  pub last : ℕ
  pub first_line : List ℕ
  pub last_line : List ℕ
  pub first_says : Says first_line first
  pub last_says : Says last_line last
  pub whole : s ++ more ≡ first_line ++ (10 ∷ last_line)

-- the first line isn't over: it goes on to its end, and `0` behind it
first_goes : (s : List ℕ) → begins s ≡ true → Going s
first_goes s b =
    let w = whole_of s b in
    record {
      more = w.rest ++ (10 ∷ 48 ∷ []);
      first = w.v;
      last = 0;
      first_line = s ++ w.rest;
      last_line = 48 ∷ [];
      first_says = (number_exactly (s ++ w.rest) w.v).0 w.says;
      last_says = (number_exactly (48 ∷ []) 0).0 nought;
      whole = sym (append_assoc s w.rest (10 ∷ 48 ∷ []));
    }

-- the first line is over, and the second isn't: that goes on
last_goes : (s : List ℕ) {a : ℕ} → ended s ≡ true → number_in (line_of s) ≡ Some a → begins (behind s) ≡ true → Going s
last_goes s {a} q n b =
    let w = whole_of (behind s) b in
    record {
      more = w.rest;
      first = a;
      last = w.v;
      first_line = line_of s;
      last_line = behind s ++ w.rest;
      first_says = (number_exactly (line_of s) a).0 n;
      last_says = (number_exactly (behind s ++ w.rest) w.v).0 w.says;
      whole = ap (λ (l : List ℕ). l ++ w.rest) (line_cut s q) ∙ append_assoc (line_of s) (10 ∷ behind s) w.rest;
    }

-- bytes that don't settle it: fewer than ten, and the beginning of two lines with nothing behind them
pub record Open (s : List ℕ) : Type 0 where
  pub short : length s ≤ 9
  pub goes : Going s

pub open_is : (s : List ℕ) → settled_by s ≡ false → Open s
unfolding settled_by
open_is s e = go (ended s) refl e
  where
    over : (n : Option ℕ) → ended s ≡ true → number_in (line_of s) ≡ n → cond (is_size_in n) (not (begins (behind s))) true ≡ false → Open s
    over None q m h = absurd (false≢true (sym h))
    over (Some a) q m h = size (is_size a) h
      where
        last : begins (behind s) ≡ true → Open s
        last b =
            let l : length s ≡ length (line_of s ++ (10 ∷ behind s)) = ap length (line_cut s q) in
            let f = ((number_exactly (line_of s) a).0 m).few in
            record {
              short = omega (arith, l, length-append (line_of s) (10 ∷ behind s), begins_short (behind s) b);
              goes = last_goes s q m b;
            }

        size : (x : Bool) → cond x (not (begins (behind s))) true ≡ false → Open s
        size true h = last (not-false (begins (behind s)) h)
        size false h = absurd (false≢true (sym h))

    go : (x : Bool) → ended s ≡ x → cond x (cond (is_size_in (number_in (line_of s))) (not (begins (behind s))) true) (not (begins s)) ≡ false → Open s
    go true q h = over (number_in (line_of s)) q refl h
    go false q h =
        let b = not-false (begins s) h in
        record { short = omega (arith, begins_short s b); goes = first_goes s b }

-- What is asked for, in the sentences of request 11: a first and a last are asked for exactly where the bytes are two lines that say them and
-- 40 ≤ first ≤ last ≤ 5,114, and all else is refused with 3. Rests on Asked, Digits and Joined.
use Rattle.std.specs.Prelude.{ℕ, Bool, true, false, cond, not, List, [], ◌∷◌, ◌++◌, ◌↔◌, ◌⊎◌, ◌≡◌, refl, Option, Some, None}
use Rattle.std.proofs.Common.{append-nil, inl, inr, sym, ap, ◌∙◌, arith}
use Rattle.std.proofs.lemmas.Bool.{not-false}
use Rattle.laws.specs.Outcome.{Outcome, done, refused, clear, stopped, settle, done_clear}
use Rattle.wcdma_report.specs.Report.{is_range, totals_lines, Between}
use Rattle.wcdma_report.specs.Sized.{is_range_lem, range_is}
use Rattle.report_asked.specs.declared.Range.{Range}
use Rattle.report_asked.specs.Lines.{line_of, ended, behind, number_in}
use Rattle.report_asked.specs.Asked.{range, range_of, asked_by}
use Rattle.report_asked.specs.Digits.{Says, number_exactly, number_unbroken}
use Rattle.report_asked.specs.Joined.{line_whole, line_cut, cut_at}

-- the end of the bytes, or an LF and whatever follows it
abbrev pub Over : List ℕ → Type 0
Over rest = (rest ≡ []) ⊎ ((after : List ℕ) × (rest ≡ 10 ∷ after))

-- two lines: one to four digits and an LF; then one to four digits, and the end or an LF
pub record TwoLines (s : List ℕ) (first last : ℕ) : Type 0 where
  pub first_line : List ℕ
  pub last_line : List ℕ
  pub rest : List ℕ
  pub first_says : Says first_line first
  pub last_says : Says last_line last
  pub whole : s ≡ first_line ++ (10 ∷ (last_line ++ rest))
  pub over : Over rest

-- the second line, in what stands behind the first
record LastLine (u : List ℕ) (v : ℕ) : Type 0 where
  line : List ℕ
  rest : List ℕ
  says : Says line v
  whole : u ≡ line ++ rest
  over : Over rest

last_line : (u : List ℕ) {v : ℕ} → number_in (line_of u) ≡ Some v → LastLine u v
last_line u {v} e = go (ended u) refl
  where
    go : (x : Bool) → ended u ≡ x → LastLine u v
    go true q =
        record { line = line_of u; rest = 10 ∷ behind u; says = (number_exactly (line_of u) v).0 e; whole = line_cut u q; over = inr (behind u, refl) }
    go false q =
        record {
          line = u;
          rest = [];
          says = (number_exactly u v).0 (ap number_in (sym (line_whole u q)) ∙ e);
          whole = sym (append-nil u);
          over = inl refl;
        }

line_last : (l rest : List ℕ) {v : ℕ} → Says l v → Over rest → number_in (line_of (l ++ rest)) ≡ Some v
line_last l rest {v} y o = go o
  where
    n : number_in l ≡ Some v
    n = (number_exactly l v).1 y

    go : Over rest → number_in (line_of (l ++ rest)) ≡ Some v
    go (inl e) =
        ap (λ (x : List ℕ). number_in (line_of x)) (ap (λ (r : List ℕ). l ++ r) e ∙ append-nil l) ∙ ap number_in (line_whole l (number_unbroken l n)) ∙ n
    go (inr t) =
        ap (λ (r : List ℕ). number_in (line_of (l ++ r))) t.1 ∙ ap number_in (cut_at l t.0 (number_unbroken l n)).line_is ∙ n

-- the numbers of two lines, where something is asked for by them
range_done : (m n : Option ℕ) {a b : ℕ} → range_of m n ≡ done (range a b) → (m ≡ Some a) × (n ≡ Some b) × Between a b
unfolding range_of
range_done None n e = let z : ◌≡◌ {A = ℕ} 0 1 = cc in absurd (omega arith)
range_done (Some x) None e = let z : ◌≡◌ {A = ℕ} 0 1 = cc in absurd (omega arith)
range_done (Some x) (Some y) {a} {b} e =
    let d = done_clear (λ k. k) (range x y) (totals_lines x y) (range a b) e in
    let p : x ≡ a = ap (λ (r : Range). r.first) d.1 in
    let q : y ≡ b = ap (λ (r : Range). r.last) d.1 in
    (ap Some p, ap Some q, rw (p, q) at (is_range_lem x y (not-false (is_range x y) d.0.0)))

range_is_done : {a b : ℕ} → Between a b → range_of (Some a) (Some b) ≡ done (range a b)
unfolding range_of
range_is_done b = rw (range_is b)

-- .. and where nothing is, it is 3
range_3 : (m n : Option ℕ) {k : ℕ} → range_of m n ≡ refused k → k ≡ 3
unfolding range_of
range_3 None n {k} e = let z : 3 ≡ k = cc in sym z
range_3 (Some x) None {k} e = let z : 3 ≡ k = cc in sym z
range_3 (Some x) (Some y) {k} e = go (is_range x y) e
  where
    go : (t : Bool) → settle (cond (not t) (stopped 3) clear) (λ j. refused j) (done (range x y)) ≡ refused k → k ≡ 3
    go true e = let z : ◌≡◌ {A = ℕ} 0 1 = cc in absurd (omega arith)
    go false e = let z : ◌≡◌ {A = ℕ} 3 k = cc in sym z

pub asked_exactly : (s : List ℕ) (first last : ℕ) → (asked_by s ≡ done (range first last)) ↔ (TwoLines s first last × Between first last)
unfolding asked_by
asked_exactly s first last = (λ e. only (ended s) refl e, λ w. said w.0 w.1)
  where
    only : (x : Bool) → ended s ≡ x → cond x (range_of (number_in (line_of s)) (number_in (line_of (behind s)))) (refused 3) ≡ done (range first last)
        → TwoLines s first last × Between first last
    only false q e = let z : ◌≡◌ {A = ℕ} 0 1 = cc in absurd (omega arith)
    only true q e =
        let d = range_done (number_in (line_of s)) (number_in (line_of (behind s))) e in
        let l = last_line (behind s) d.1 in (
          record {
            first_line = line_of s;
            last_line = l.line;
            rest = l.rest;
            first_says = (number_exactly (line_of s) first).0 d.0;
            last_says = l.says;
            whole = line_cut s q ∙ ap (λ (u : List ℕ). line_of s ++ (10 ∷ u)) l.whole;
            over = l.over;
          },
          d.2,
        )

    said : TwoLines s first last → Between first last → asked_by s ≡ done (range first last)
    said t b =
        let n = (number_exactly t.first_line first).1 t.first_says in
        let c = cut_at t.first_line (t.last_line ++ t.rest) (number_unbroken t.first_line n) in
        let m = line_last t.last_line t.rest t.last_says t.over in
        rw (t.whole, c.ends, c.line_is, c.behind_is, n, m) (range_is_done b)

pub refused_exactly : (s : List ℕ) (k : ℕ)
    → (asked_by s ≡ refused k) ↔ ((k ≡ 3) × ((first last : ℕ) → TwoLines s first last → Between first last → ⊥))
unfolding asked_by
refused_exactly s k = (λ e. (three (ended s) e, λ a b t w. neither e ((asked_exactly s a b).1 (t, w))), λ w. so (asked_by s) refl w.0 w.1)
  where
    three : {j : ℕ} (x : Bool) → cond x (range_of (number_in (line_of s)) (number_in (line_of (behind s)))) (refused 3) ≡ refused j → j ≡ 3
    three true e = range_3 (number_in (line_of s)) (number_in (line_of (behind s))) e
    three {j} false e = let z : ◌≡◌ {A = ℕ} 3 j = cc in sym z

    neither : {r : Range} → asked_by s ≡ refused k → asked_by s ≡ done r → ⊥
    neither e d = let z : ◌≡◌ {A = ℕ} 0 1 = cc in absurd (omega arith)

    so : (o : Outcome ℕ Range) → asked_by s ≡ o → k ≡ 3 → ((first last : ℕ) → TwoLines s first last → Between first last → ⊥) → asked_by s ≡ refused k
    so (done r) q e h = let w = (asked_exactly s r.first r.last).0 q in absurd (h r.first r.last w.0 w.1)
    so (refused j) q e h = q ∙ ap refused (three (ended s) q ∙ sym e)

-- What stands behind each return of adding a block: its judgement, the table, the values, the loop that adds.
use Rattle.std.specs.Prelude.{ℕ, ◌*◌, ◌<◌, Bool, false, not, List, [], ◌∷◌, ◌++◌, Result, Ok, Err, ◌≡◌, Float, length, get_or}
use Rattle.std.proofs.Common.{append_assoc, ap, ap₂, ◌∙◌, arith, ltb-false}
use Rattle.std.proofs.Math.Path.{sym}
use Rattle.std.specs.Float.Ieee.{nan}
use Rattle.laws.specs.Outcome.{Outcome, done, refused, say, line, Ruling, clear, stopped, settle, first, after, first_clear, refused_front, kept_front, done_front, done_clear}
use Rattle.laws.specs.Run.{run, run_same}
use Rattle.laws.specs.Move.{scatter, scatter_same}
use Rattle.laws.specs.Loop.{by}
use Rattle.laws.specs.Perm.{Perm, once}
use Rattle.laws.specs.Walk.{Rule}
use Rattle.sets.specs.declared.Set.{Set}
use Rattle.sets.specs.declared.Refusal.{Refusal}
use Rattle.sets.specs.Set.{family_of, is_coupled}
use Rattle.sets.specs.Verdict.{set_lines, refusal}
use Rattle.families.specs.Rules.{L, M, lawful}
use Rattle.families.specs.Symbols.{symbols_of, symbols_plain, block_plain}
use Rattle.tables.specs.Answer.{length_lines, block_lines, moved_of}
use Rattle.tables.specs.Passed.{Judged, Tabled}
use Rattle.tables.proofs.Passed.{block_served, answer_one}
use Rattle.positions.specs.declared.Running.{Running}
use Rattle.positions.specs.Heard.{Reception, Kept, held, heard}
use Rattle.adders.specs.Any.{any_none}
use Rattle.adders.specs.Lines.{heard_at, is_full, value_lines, lines_same, ruled, ruled_clear, ruled_stopped}
use Rattle.adders.specs.Adding.{Fitting, Ready, sums_by, counts_by}
use Rattle.adders.specs.Lengths.{one_off, off_both, both_on}
use Rattle.combine.specs.Answer.{lent_lines, coupled_line, plain_of, add_lines, added_of, sums_of, counts_of}

-- past the first test the set is of no couples
pub is_plain : (s : Set) → done tt ≡ plain_of s → is_coupled (family_of s) ≡ false
is_plain s e = (done_clear (refusal s) tt (coupled_line s ∷ []) tt (sym e)).0.0

-- all that is lent is n long
pub record Long (n : ℕ) (b : Reception) (h : Kept) : Type 0 where
  pub received : length b.received ≡ n
  pub present : length b.present ≡ n
  pub sums : length h.sums ≡ n
  pub counts : length h.counts ≡ n

-- what adding a block answers, and what it leaves of the sums and the counts
pub record Added (s : Set) (b : Reception) (h : Kept) (r : Result (Unit {0}) Refusal) (new_sums : List Float) (new_counts : List ℕ) : Type 0 where
  pub answer : say r ≡ added_of s b h
  pub sums : new_sums ≡ sums_of s b h
  pub counts : new_counts ≡ counts_of s b h

module _ (s : Set) (b : Reception) (h : Kept) where
  -- the lengths as `tables` judges them
  abbrev pub input_of : ℕ
  input_of = one_off s.n (length b.received) (length b.present)

  abbrev pub output_of : ℕ
  output_of = one_off s.n (length h.sums) (length h.counts)

  -- of a set of couples: 1, and all is as it was
  couples_keep : {x : Refusal} {B : Type 0} → refused x ≡ plain_of s → (new old : B) → old ≡ after (add_lines s b h) new old
  unfolding add_lines
  couples_keep e new old = sym (kept_front (refusal s) tt (coupled_line s ∷ []) (set_lines s ++ lent_lines s b h) (sym e) new old)

  pub couples_refused : {x : Refusal} → refused x ≡ plain_of s → Added s b h (Err x) h.sums h.counts
  unfolding added_of sums_of counts_of add_lines
  couples_refused e = record {
    answer = sym (refused_front (refusal s) tt (coupled_line s ∷ []) (set_lines s ++ lent_lines s b h) (sym e) tt);
    sums = couples_keep e _ h.sums;
    counts = couples_keep e _ h.counts;
  }

  -- of any other: the lines of a block of these lengths, and those of its values behind them
  pub lines_are : is_coupled (family_of s) ≡ false → first (add_lines s b h) ≡ first (block_lines s s.n input_of output_of ++ value_lines (L s) s.n b h)
  unfolding add_lines block_lines
  lines_are c =
      rw c
      (ap first (ap₂ (λ (x y : Bool). set_lines s ++ (line 5 (not x) ∷ line 6 (not y) ∷ value_lines (L s) s.n b h))
      (sym (off_both s.n (length b.received) (length b.present))) (sym (off_both s.n (length h.sums) (length h.counts)))
      ∙ sym (append_assoc (set_lines s) (length_lines s.n input_of output_of) (value_lines (L s) s.n b h))))

  -- judged by these, and nothing is in the way
  pub record Lent : Type 0 where
    pub plain : is_coupled (family_of s) ≡ false
    pub judged_so : Judged s s.n input_of output_of

  -- then every length is N
  pub all_long : Lent → Long s.n b h
  all_long e =
      let i = both_on s.n (length b.received) (length b.present) e.judged_so.input in
      let o = both_on s.n (length h.sums) (length h.counts) e.judged_so.output in
      record { received = i.0; present = i.1; sums = o.0; counts = o.1 }

  -- what judging says is of these lengths
  module _ (c : is_coupled (family_of s) ≡ false) where
    pub said_so : {i o : ℕ} {x : Outcome Refusal (Unit {0})} → i ≡ input_of → o ≡ output_of → x ≡ moved_of s (symbols_of s * 1) i o
        → x ≡ moved_of s s.n input_of output_of
    said_so {i} {o} p q e = e ∙ answer_one s i o ∙ ap (λ (n : ℕ). moved_of s n i o) (symbols_plain s c) ∙ ap₂ (moved_of s s.n) p q

    -- the block is not taken: so is the call refused, and all is as it was
    module _ {x : Refusal} (e : refused x ≡ moved_of s s.n input_of output_of) where
      says_so : refused x ≡ added_of s b h
      unfolding added_of
      says_so =
          sym (ap (λ (r : Ruling). settle r (λ k. refused (refusal s k)) (done tt)) (lines_are c)
          ∙ refused_front (refusal s) tt (block_lines s s.n input_of output_of) (value_lines (L s) s.n b h) (sym e) tt)

      kept_then : {B : Type 0} (new old : B) → old ≡ after (add_lines s b h) new old
      kept_then {B} new old =
          sym (ap (λ (r : Ruling). settle r (λ k. old) new) (lines_are c)
          ∙ kept_front (refusal s) tt (block_lines s s.n input_of output_of) (value_lines (L s) s.n b h) (sym e) new old)

      pub block_refused : Added s b h (Err x) h.sums h.counts
      unfolding sums_of counts_of
      block_refused = record { answer = says_so; sums = kept_then _ h.sums; counts = kept_then _ h.counts }

  -- it is, and the table holds L: all is as long as it must be, and the values decide
  module _ {table : List ℕ} (e : Lent) (t : Tabled s table) where
    perm : Perm s.n (L s) (M s)
    perm = (lawful s e.judged_so.accepted).perm

    -- of such a set the symbols of a block are its positions
    holds : (k : ℕ) → k < s.n → by table k ≡ L s k
    holds k l = t.holds k (omega (arith, symbols_plain s e.plain)) ∙ ap (λ (r : Rule). r.l k) (block_plain s e.plain)

    long : Long s.n b h
    long = all_long e

    pub fits_table : Fitting table b h
    fits_table = record {
      presences = long.present ∙ sym long.received;
      sums = long.sums ∙ sym long.received;
      counts = long.counts ∙ sym long.received;
      room = omega (arith, t.room, symbols_plain s e.plain, long.received);
      within = λ k l. let z = symbols_plain s e.plain in omega (arith, long.received, t.within k (omega (arith, long.received)));
    }

    -- the lines by the table are the lines by L
    by_values : first (add_lines s b h) ≡ first (value_lines (by table) (length b.received) b h)
    by_values =
        lines_are e.plain
        ∙ done_front (refusal s) tt tt (block_lines s s.n input_of output_of) (value_lines (L s) s.n b h)
        (block_served s s.n e.judged_so.accepted e.judged_so.input e.judged_so.output)
        ∙ ap first (sym (lines_same (by table) (L s) s.n b h holds) ∙ ap (λ (n : ℕ). value_lines (by table) n b h) (sym long.received))

    -- a line of the values applies
    module _ {number : ℕ} (j : Err number ≡ ruled (first (value_lines (by table) (length b.received) b h))) where
      stops : first (add_lines s b h) ≡ stopped number
      stops = by_values ∙ ruled_stopped (first (value_lines (by table) (length b.received) b h)) number (sym j)

      pub values_refused : {x : Refusal} → x ≡ refusal s number → Added s b h (Err x) h.sums h.counts
      unfolding added_of sums_of counts_of
      values_refused q = record { answer = rw stops (ap refused q); sums = rw stops; counts = rw stops }

    -- none does: the block may be added, and what the loop leaves is what the call promises
    module _ (j : Ok tt ≡ ruled (first (value_lines (by table) (length b.received) b h))) where
      goes : first (value_lines (by table) (length b.received) b h) ≡ clear
      goes = ruled_clear (first (value_lines (by table) (length b.received) b h)) (sym j)

      pub ready : Ready table b h
      ready = record {
        fitting = fits_table;
        once = λ i k hi hk q.
            let a : i < s.n = omega (arith, long.received) in
            let c : k < s.n = omega (arith, long.received) in
            once perm i k a c (sym (holds i a) ∙ q ∙ holds k c);
        spare = λ k l.
            ltb-false 65535 (heard_at (by table) b h k).count
            (any_none (is_full (by table) b h) (length b.received) (first_clear (value_lines (by table) (length b.received) b h) goes).1.1.0 k l);
      }

      -- what the table scatters, L does
      by_table : {A : Type 0} (part : Running → A) (z : A) (old : List A)
          → scatter (by table) (length b.received) z (run (λ t. part (heard_at (by table) b h t)) 0 (length b.received)) old
          ≡ scatter (L s) s.n z (run (λ t. part (heard_at (L s) b h t)) 0 s.n) old
      by_table part z old =
          ap (λ (n : ℕ). scatter (by table) n z (run (λ t. part (heard_at (by table) b h t)) 0 n) old) long.received
          ∙ ap (λ (xs : List _). scatter (by table) s.n z xs old)
          (run_same (λ t. part (heard_at (by table) b h t)) (λ t. part (heard_at (L s) b h t)) 0 s.n
          (λ i g. ap (λ (k : ℕ). part (heard (get_or b.present i 0) (get_or b.received i nan) (held h k))) (holds i (omega arith))))
          ∙ scatter_same (by table) (L s) s.n z (run (λ t. part (heard_at (L s) b h t)) 0 s.n) old holds

      pub values_done : {gotSums : List Float} {gotCounts : List ℕ} → gotSums ≡ sums_by (by table) (length b.received) b h
          → gotCounts ≡ counts_by (by table) (length b.received) b h → Added s b h (Ok tt) gotSums gotCounts
      unfolding added_of sums_of counts_of
      values_done p q = record {
        answer = rw (by_values ∙ goes);
        sums = p ∙ by_table (λ x. x.sum) nan h.sums ∙ rw (by_values ∙ goes);
        counts = q ∙ by_table (λ x. x.count) 0 h.counts ∙ rw (by_values ∙ goes);
      }

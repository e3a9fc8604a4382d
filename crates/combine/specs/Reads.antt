-- What stands behind each return of a reading: 1 of couples, the test of the set, which tells 1, 2, 3, 16, 11 and 10, then the position and the two lengths.
use Rattle.std.specs.Prelude.{ℕ, ◌≤◌, ◌<◌, false, not, List, [], ◌∷◌, ◌++◌, ◌≢◌, ◌≡◌, leb, length}
use Rattle.std.proofs.Math.Path.{sym}
use Rattle.std.proofs.Common.{ap, ◌∙◌}
use borrow.Author.Tests.{eq-eqb, ne_eqb, le-leb, lt-leb}
use Rattle.laws.specs.Outcome.{done, refused, Line, line, first, refused_front}
use Rattle.sets.specs.declared.Set.{Set}
use Rattle.sets.specs.declared.Refusal.{Refusal}
use Rattle.sets.specs.Set.{family_of, is_coupled}
use Rattle.sets.specs.Verdict.{set_lines, refusal, verdict_of}
use Rattle.sets.specs.Admits.{Accepted}
use Rattle.sets.proofs.Admits.{accepted_front, set_refused}
use Rattle.positions.specs.Heard.{Kept, held}
use Rattle.combine.specs.Answer.{coupled_line, plain_of, told_of, both_long, read_lines, read_of}
use Rattle.adders.specs.Lengths.{one_off, off_both}

module _ (s : Set) (h : Kept) (k : ℕ) where
  abbrev behind : List Line
  behind = line 4 (leb s.n k) ∷ line 6 (not (both_long s.n h.sums h.counts)) ∷ []

  -- of couples: 1
  pub is_one : {x : Refusal} → refused x ≡ plain_of s → refused x ≡ read_of s h k
  unfolding read_of read_lines
  is_one e = sym (refused_front (refusal s) tt (coupled_line s ∷ []) (set_lines s ++ behind) (sym e) (told_of (held h k)))

  module _ (c : is_coupled (family_of s) ≡ false) where
    pub set_refuses : {x : Refusal} → verdict_of s ≡ refused x → refused x ≡ read_of s h k
    unfolding read_of read_lines
    set_refuses e = rw c (set_refused s behind (told_of (held h k)) e)

    module _ (a : Accepted s) where
      front : first (read_lines s h k) ≡ first behind
      unfolding read_lines
      front = rw c (accepted_front s behind a)

      pub is_four : {x : Refusal} → s.n ≤ k → x ≡ refusal s 4 → refused x ≡ read_of s h k
      unfolding read_of
      is_four l q = rw (front, le-leb s.n k l) (ap refused q)

      module _ (l : k < s.n) where
        pub is_six : {x : Refusal} → one_off s.n (length h.sums) (length h.counts) ≢ s.n → x ≡ refusal s 6 → refused x ≡ read_of s h k
        unfolding read_of
        is_six n q = rw (front, lt-leb s.n k l, sym (off_both s.n (length h.sums) (length h.counts)) ∙ ne_eqb _ s.n n) (ap refused q)

        pub is_told : one_off s.n (length h.sums) (length h.counts) ≡ s.n → done (told_of (held h k)) ≡ read_of s h k
        unfolding read_of
        is_told e = rw (front, lt-leb s.n k l, sym (off_both s.n (length h.sums) (length h.counts)) ∙ eq-eqb _ s.n e)

-- What the number given back tells: 0 is given exactly when the call that is served says done, and any other number is that of the first
-- line that applies. An out-parameter is like any lent buffer.
use Rattle.std.specs.Prelude.{ℕ, suc, ◌+◌, Bool, true, false, cond, List, [], ◌∷◌, ◌++◌, ◌↔◌, ◌≢◌, ◌≡◌, refl, length}
use Rattle.std.proofs.Common.{sym, ◌∙◌, arith}
use Rattle.laws.specs.declared.Way.{Way}
use Rattle.laws.specs.Outcome.{done, refused, Line, Ruling, clear, stopped, first, settle, judged, after, First, first_stopped, stopped_first}
use Rattle.sets.specs.declared.Set.{Set}
use Rattle.sets.specs.Set.{size_of}
use Rattle.sets.specs.Stream.{stream_lines}
use Rattle.sets.specs.Beside.{beside_lines}
use Rattle.sets.specs.Verdict.{size_lines, set_lines, verdict_of, refusal, refusal_number}
use Rattle.walks.specs.declared.Walk.{Walk}
use Rattle.families.specs.Rules.{rule_in}
use Rattle.walks.specs.declared.Values.{Values}
use Rattle.walks.specs.Answer.{walk_lines, one_lines, walk_list, walk_cells, walk_next, walk_values, walked_of, found_of}
use Rattle.tables.specs.Answer.{block_lines, moved_of}
use Rattle.kinds.specs.declared.Stream.{Stream}
use Rattle.kinds.specs.Kinds.{start_record}
use Rattle.streams.specs.Fed.{fed_record}
use Rattle.streams.specs.Answers.{start_lines, started_of, Call, lines_of, says}
use Rattle.flat.specs.Flat.{stream_of, stream_list, number_by, number_of, stream_number_of, out_of, stream_out}
use Rattle.flat.specs.Flat as flattened

-- no line has the number 0
abbrev pub Numbered : List Line → Type 0
Numbered [] = Unit {0}
Numbered (l ∷ ls) = (l.number ≢ 0) × Numbered ls

stopped_numbered : (ls : List Line) (k : ℕ) → Numbered ls → first ls ≡ stopped k → k ≢ 0
stopped_numbered [] k h e = let z : ◌≡◌ {A = ℕ} 0 1 = cc in absurd (omega arith)
stopped_numbered (l ∷ ls) k h e = go l.applies e (stopped_numbered ls k h.1)
  where
    go : (b : Bool) → cond b (stopped l.number) (first ls) ≡ stopped k → (first ls ≡ stopped k → k ≢ 0) → k ≢ 0
    go true e r q = let z : l.number ≡ k = cc in h.0 (z ∙ q)
    go false e r q = r e q

-- over any kind of refusal that keeps its number
module _ {R A : Type 0} (number : R → ℕ) (give : ℕ → R) (given : (k : ℕ) → number (give k) ≡ k) (ls : List Line) (a : A) (h : Numbered ls) where
  pub zero_is_done : (number_by number (judged give ls a) ≡ 0) ↔ (judged give ls a ≡ done a)
  zero_is_done = go (first ls) refl
    where
      go : (r : Ruling) → first ls ≡ r
          → (number_by number (settle r (λ k. refused (give k)) (done a)) ≡ 0) ↔ (settle r (λ k. refused (give k)) (done a) ≡ done a)
      go clear e = (λ q. refl, λ q. refl)
      go (stopped k) e =
          (λ q. absurd (stopped_numbered ls k h e (sym (given k) ∙ q)), λ q. let z : ◌≡◌ {A = ℕ} 0 1 = cc in absurd (omega arith))

  -- any other number is that of the first line that applies
  pub number_is_first : (k : ℕ) → k ≢ 0 → (number_by number (judged give ls a) ≡ k) ↔ First ls k
  number_is_first k p = go (first ls) refl
    where
      go : (r : Ruling) → first ls ≡ r → (number_by number (settle r (λ k. refused (give k)) (done a)) ≡ k) ↔ First ls k
      go clear e = (λ q. absurd (p (sym q)), λ f. let z = stopped_first ls k f in let y : ◌≡◌ {A = ℕ} 0 1 = cc in absurd (omega arith))
      go (stopped j) e =
          (λ q. first_stopped ls k (e ∙ rw (sym (given j) ∙ q)), λ f. let z = stopped_first ls k f in let y : j ≡ k = cc in given j ∙ y)

-- an out-parameter after a call is what any lent buffer is: the new value where no line applies, else the old one
pub out_is_after : {R A B : Type 0} (give : ℕ → R) (ls : List Line) (a : A) (part : A → B) (old : B) → out_of (judged give ls a) part old ≡ after ls (part a) old
out_is_after give ls a part old = go (first ls)
  where
    go : (r : Ruling) → out_of (settle r (λ k. refused (give k)) (done a)) part old ≡ settle r (λ k. old) (part a)
    go clear = refl
    go (stopped k) = refl

-- the lines of each kind of call

pub positive : (k : ℕ) → suc k ≢ 0
positive k q = omega arith

pub numbered_join : (ls ms : List Line) → Numbered ls → Numbered ms → Numbered (ls ++ ms)
numbered_join [] ms h k = k
numbered_join (l ∷ ls) ms h k = (h.0, numbered_join ls ms h.1 k)

pub set_numbered : (s : Set) → Numbered (set_lines s)
unfolding set_lines
set_numbered s =
    numbered_join (size_lines (size_of s)) (stream_lines s ++ beside_lines s) (positive 0, (positive 1, (positive 2, tt)))
    (numbered_join (stream_lines s) (beside_lines s) (positive 15, tt) (positive 10, (positive 9, tt)))

one_numbered : (s : Set) (x : ℕ) → Numbered (one_lines s x)
unfolding one_lines
one_numbered s x = numbered_join (set_lines s) _ (set_numbered s) (positive 3, tt)

walk_numbered : (way : Way) (w : Walk) → Numbered (walk_lines way w)
unfolding walk_lines
walk_numbered way w = (positive 0, numbered_join (set_lines w.set) _ (set_numbered w.set) (positive 8, tt))

block_numbered : (s : Set) (total i o : ℕ) → Numbered (block_lines s total i o)
unfolding block_lines
block_numbered s total i o = numbered_join (set_lines s) _ (set_numbered s) (positive 4, (positive 5, tt))

-- 0 is given exactly when the call says done: the test, an address, a walk, a block of any length ..
module _ (s : Set) where
  pub test_zero : (number_of (verdict_of s) ≡ 0) ↔ (verdict_of s ≡ done tt)
  unfolding verdict_of
  test_zero = zero_is_done (λ x. x.number) (refusal s) (refusal_number s) (set_lines s) tt (set_numbered s)

  pub address_zero : (way : Way) (x : ℕ) → (number_of (found_of way s x) ≡ 0) ↔ (found_of way s x ≡ done ((rule_in way s).l x))
  unfolding found_of
  address_zero way x = zero_is_done (λ x. x.number) (refusal s) (refusal_number s) (one_lines s x) ((rule_in way s).l x) (one_numbered s x)

  pub block_zero : (total i o : ℕ) → (number_of (moved_of s total i o) ≡ 0) ↔ (moved_of s total i o ≡ done tt)
  block_zero total i o = zero_is_done (λ x. x.number) (refusal s) (refusal_number s) (block_lines s total i o) tt (block_numbered s total i o)

pub walk_zero : (way : Way) (w : Walk) (room : ℕ) → (number_of (walked_of way w room) ≡ 0) ↔ (walked_of way w room ≡ done (walk_values way w room))
unfolding walked_of
walk_zero way w room =
    zero_is_done (λ x. x.number) (refusal w.set) (refusal_number w.set) (walk_lines way w) (walk_values way w room) (walk_numbered way w)

-- .. and a stream's start and feed
start_numbered : (k : ℕ) (store : List ℕ) → Numbered (start_lines k store)
start_numbered k store = (positive 8, (positive 6, tt))

feed_numbered : (c : Call ℕ) → Numbered (lines_of c)
feed_numbered c = (positive 8, (positive 6, (positive 8, (positive 5, tt))))

pub start_zero : (k : ℕ) (store : List ℕ) → (stream_number_of (started_of k store) ≡ 0) ↔ (started_of k store ≡ done (start_record k))
start_zero k store = zero_is_done (λ n. n) (λ n. n) (λ n. refl) (start_lines k store) (start_record k) (start_numbered k store)

pub feed_zero : (c : Call ℕ) → (stream_number_of (says c) ≡ 0) ↔ (says c ≡ done (fed_record c.way c.stream c.input))
feed_zero c = zero_is_done (λ n. n) (λ n. n) (λ n. refl) (lines_of c) (fed_record c.way c.stream c.input) (feed_numbered c)

-- and any other number exactly when the call is refused with it: its line is the first that applies (its sentences are Condition 1's)
module _ (s : Set) (k : ℕ) (p : k ≢ 0) where
  pub test_first : (number_of (verdict_of s) ≡ k) ↔ First (set_lines s) k
  unfolding verdict_of
  test_first = number_is_first (λ x. x.number) (refusal s) (refusal_number s) (set_lines s) tt (set_numbered s) k p

  pub address_first : (way : Way) (x : ℕ) → (number_of (found_of way s x) ≡ k) ↔ First (one_lines s x) k
  unfolding found_of
  address_first way x = number_is_first (λ x. x.number) (refusal s) (refusal_number s) (one_lines s x) ((rule_in way s).l x) (one_numbered s x) k p

  pub block_first : (total i o : ℕ) → (number_of (moved_of s total i o) ≡ k) ↔ First (block_lines s total i o) k
  block_first total i o = number_is_first (λ x. x.number) (refusal s) (refusal_number s) (block_lines s total i o) tt (block_numbered s total i o) k p

pub walk_first : (way : Way) (w : Walk) (room k : ℕ) → k ≢ 0 → (number_of (walked_of way w room) ≡ k) ↔ First (walk_lines way w) k
unfolding walked_of
walk_first way w room k p =
    number_is_first (λ x. x.number) (refusal w.set) (refusal_number w.set) (walk_lines way w) (walk_values way w room) (walk_numbered way w) k p

pub start_first : (k : ℕ) (store : List ℕ) (n : ℕ) → n ≢ 0 → (stream_number_of (started_of k store) ≡ n) ↔ First (start_lines k store) n
start_first k store n p = number_is_first (λ i. i) (λ i. i) (λ i. refl) (start_lines k store) (start_record k) (start_numbered k store) n p

pub feed_first : (c : Call ℕ) (n : ℕ) → n ≢ 0 → (stream_number_of (says c) ≡ n) ↔ First (lines_of c) n
feed_first c n p = number_is_first (λ i. i) (λ i. i) (λ i. refl) (lines_of c) (fed_record c.way c.stream c.input) (feed_numbered c) n p

-- an out-parameter of each call is what any lent buffer is: the address ..
pub address_out : (way : Way) (s : Set) (x old : ℕ) → out_of (found_of way s x) (λ a. a) old ≡ after (one_lines s x) ((rule_in way s).l x) old
unfolding found_of
address_out way s x old = out_is_after (refusal s) (one_lines s x) ((rule_in way s).l x) (λ a. a) old

-- .. the next cell, the addresses written and the cells examined ..
module _ (way : Way) (w : Walk) (room old : ℕ) where
  walk_out : (part : Values → ℕ) → out_of (walked_of way w room) part old ≡ after (walk_lines way w) (part (walk_values way w room)) old
  unfolding walked_of
  walk_out part = out_is_after (refusal w.set) (walk_lines way w) (walk_values way w room) part old

  pub walk_outs : (out_of (walked_of way w room) (λ v. v.next.cell) old ≡ after (walk_lines way w) (w.cell + walk_cells way w room) old)
      × (out_of (walked_of way w room) (λ v. v.written) old ≡ after (walk_lines way w) (length (walk_list way w room)) old)
      × (out_of (walked_of way w room) (λ v. v.cells) old ≡ after (walk_lines way w) (walk_cells way w room) old)
  unfolding walk_values walk_next
  walk_outs = (walk_out (λ v. v.next.cell), walk_out (λ v. v.written), walk_out (λ v. v.cells))

-- .. and the numbers of a stream's record: a refused start, too, leaves them as they were
pub start_out : (k : ℕ) (store old : List ℕ) → stream_out (started_of k store) old ≡ after (start_lines k store) (stream_list (start_record k)) old
start_out k store old = out_is_after (λ n. n) (start_lines k store) (start_record k) stream_list old

pub feed_out : (c : Call ℕ) (old : List ℕ) → stream_out (says c) old ≡ after (lines_of c) (stream_list (fed_record c.way c.stream c.input)) old
feed_out c old = out_is_after (λ n. n) (lines_of c) (fed_record c.way c.stream c.input) stream_list old

-- and a record that C has been handed and lends again is that record
pub record_back : (s : Stream) → length s.places ≡ 51 → stream_of (stream_list s) ≡ s
record_back s l = flattened.lent_again s l

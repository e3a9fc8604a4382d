-- Behind the test of a set: a refused set is refused by every call, and of an accepted one what its leaf says is the answer; of an address, where the
-- position is below N.
use Rattle.std.specs.Prelude.{ℕ, ◌≤◌, ◌<◌, Bool, List, ◌∷◌, ◌++◌, ◌≡◌, length}
use Rattle.std.proofs.Math.Bool.{true, false, cond}
use Rattle.std.proofs.Math.Path.{refl, sym, ap}
use Rattle.std.proofs.Common.{◌∙◌, arith}
use borrow.Author.Tests.{le-leb, lt-leb}
use Rattle.laws.specs.declared.Way.{Way}
use Rattle.laws.specs.Outcome.{Outcome, say, done, refused, line, first, Ruling, settle, judged, after, kept_front}
use Rattle.laws.specs.Walk.{Leaf, walk_counts, leaf_lines, n_le}
use Rattle.laws.specs.Leaves.{carry, carry_judged}
use Rattle.sets.specs.declared.Set.{Set}
use Rattle.sets.specs.declared.Refusal.{Refusal}
use Rattle.sets.specs.Set.{family_of}
use Rattle.sets.specs.Verdict.{set_lines, refusal, verdict_of}
use Rattle.walks.specs.declared.Walk.{Walk}
use Rattle.walks.specs.declared.Values.{Values}
use Rattle.families.specs.Rules.{rule_in, barred, lawful_way}
use Rattle.sets.specs.Admits.{Accepted}
use Rattle.sets.proofs.Admits.{accepted_front, set_refused}
use Rattle.families.specs.Taken.{way_lines, WalkLeaf}
use Rattle.walks.specs.Answer.{walk_lines, one_lines, walk_next, walk_slice, walk_values, walked_of, slice_of, found_of}
use Rattle.walks.specs.Passed.{onward}

-- a set that is refused is refused by its walk, with 1 where that is not had, and no slice changes
module _ (way : Way) (w : Walk) {x : Refusal} (e : verdict_of w.set ≡ refused x) where
  pub refused_answer : {y : Refusal} (room : ℕ) → y ≡ cond (barred way (family_of w.set)) (refusal w.set 1) x → refused y ≡ walked_of way w room
  unfolding walked_of walk_lines
  refused_answer {y} room q = go (barred way (family_of w.set)) refl q
    where
      go : (b : Bool) → barred way (family_of w.set) ≡ b → y ≡ cond b (refusal w.set 1) x
          → refused y ≡ judged (refusal w.set) (line 1 b ∷ (set_lines w.set ++ leaf_lines (rule_in way w.set) w.cell)) (walk_values way w room)
      go true o q = ap refused q
      go false o q = ap refused q ∙ set_refused w.set _ _ e

  pub refused_slice : (old : List ℕ) → old ≡ slice_of way w old
  unfolding slice_of walk_lines verdict_of
  refused_slice old = go (barred way (family_of w.set))
    where
      go : (b : Bool) → old ≡ after (line 1 b ∷ (set_lines w.set ++ leaf_lines (rule_in way w.set) w.cell)) (walk_slice way w old) old
      go true = refl
      go false = sym (kept_front (refusal w.set) tt (set_lines w.set) _ e _ old)

-- of an accepted one only the leaf's lines are left to test
only_leaf : (way : Way) (w : Walk) → Accepted w.set → first (walk_lines way w) ≡ first (way_lines way w.set w.cell)
unfolding walk_lines
only_leaf way w e = rw (accepted_front w.set (leaf_lines (rule_in way w.set) w.cell) e)

-- then the answer and the slice are the leaf's, carried on
module _ (way : Way) (w : Walk) (e : Accepted w.set) {old new : List ℕ} {leaf : Leaf} (o : WalkLeaf way w.set w.cell old new leaf) where
  pub leaf_answer : {r : Outcome Refusal Values} → r ≡ carry (refusal w.set) (onward w) (say leaf) → r ≡ walked_of way w (length old)
  unfolding walked_of walk_values walk_next
  leaf_answer says =
      let counts = walk_counts w.set.n (rule_in way w.set) w.cell (length old) in
      says ∙ ap (carry (refusal w.set) (onward w)) o.answer
      ∙ carry_judged (refusal w.set) (onward w) (way_lines way w.set w.cell) counts
      ∙ ap (λ (x : Ruling). settle x (λ k. refused (refusal w.set k)) (done (onward w counts))) (sym (only_leaf way w e))

  pub leaf_slice : new ≡ slice_of way w old
  unfolding slice_of
  leaf_slice = o.slice ∙ ap (λ (x : Ruling). settle x (λ k. old) (walk_slice way w old)) (sym (only_leaf way w e))

-- one address: a refused set, a position that is N or more, or the address
module _ (way : Way) (s : Set) (x : ℕ) where
  pub one_refused : {y : Refusal} → verdict_of s ≡ refused y → refused y ≡ found_of way s x
  unfolding found_of one_lines
  one_refused e = set_refused s _ ((rule_in way s).l x) e

  module _ (e : Accepted s) where
    pub one_past : {y : Refusal} → s.n ≤ x → y ≡ refusal s 4 → refused y ≡ found_of way s x
    unfolding found_of one_lines
    one_past h q = rw (accepted_front s _ e, le-leb s.n x h) (ap refused q)

    pub one_found : {a : ℕ} → x < s.n → a ≡ (rule_in way s).l x → done a ≡ found_of way s x
    unfolding found_of one_lines
    one_found h q = rw (accepted_front s _ e, lt-leb s.n x h) (ap done q)

    -- which fits 16 bits
    pub one_small : x < s.n → (rule_in way s).l x < 65536
    one_small h = let w = lawful_way way s e in omega (arith, w.perm.l_below x h, n_le w, w.small)

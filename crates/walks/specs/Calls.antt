-- Condition 3 for the walks, both ways: any list of calls, those that are accepted handing the record on, refused ones of either way and with any record
-- between, joined is one walk: the same list, the same end, the same cells. A call goes through the definitions that the contracts
-- cite.
use Rattle.std.specs.Prelude.{ℕ, ◌+◌, ◌≡◌, length, drop}
use mathlib.Core.List.{List, [], ◌∷◌, ◌++◌}
use Rattle.std.proofs.Math.Path.{sym, ap}
use Rattle.std.proofs.Common.{ap₂, ◌∙◌, zero-add, add_assoc}
use Rattle.std.proofs.Math.Nat.{add-zero}
use Rattle.std.proofs.Math.ListN.{take}
use Rattle.std.proofs.Math.Seq.{take-append_seam}
use borrow.Author.Tests.{ltb-false, le-ltb}
use Rattle.laws.specs.declared.Way.{Way}
use Rattle.laws.specs.Outcome.{Outcome, done, refused, part_or, first_clear, clear_first, clear_front, clear_back, clear_then, done_clear, answer_clear}
use Rattle.laws.specs.Pieces as pieces
use Rattle.laws.specs.Walk.{leaf_lines}
use Rattle.laws.specs.Walk as along
use Rattle.sets.specs.declared.Refusal.{Refusal}
use Rattle.sets.specs.Verdict.{set_lines, refusal}
use Rattle.walks.specs.declared.Walk.{Walk}
use Rattle.walks.specs.declared.Values.{Values}
use Rattle.families.specs.Rules.{rule_in}
use Rattle.walks.specs.Answer.{walk_lines, walk_list, walk_cells, walk_next, walk_values, walked_of, slice_of}

-- a call: for L or for M, the record it is given, and the slice that is lent to it
pub record Call : Type 0 where
  pub way : Way
  pub walk : Walk
  pub slice : List ℕ

-- what a call answers
abbrev pub answer : Call → Outcome Refusal Values
answer c = walked_of c.way c.walk (length c.slice)

-- and leaves in the slice
abbrev pub left : Call → List ℕ
left c = slice_of c.way c.walk c.slice

-- the addresses that calls wrote, one call after the other
abbrev pub joined : List Call → List ℕ
joined [] = []
joined (c ∷ cs) = part_or (answer c) (λ v. take v.written (left c)) [] ++ joined cs

-- the room that the accepted ones had
abbrev pub rooms : List Call → ℕ
rooms [] = 0
rooms (c ∷ cs) = part_or (answer c) (λ v. length c.slice) 0 + rooms cs

-- the cells that they examined
abbrev pub examined : List Call → ℕ
examined [] = 0
examined (c ∷ cs) = part_or (answer c) (λ v. v.cells) 0 + examined cs

-- the record after them
abbrev pub ended : Walk → List Call → Walk
ended w [] = w
ended w (c ∷ cs) = part_or (answer c) (λ v. ended v.next cs) (ended w cs)

module _ (way : Way) where
  -- calls that hand the record w on: an accepted one is made for the way, with the record in hand, and gives the next; the others, for L or for M
  -- and with any record, are refused
  pub data Handed : Walk → List Call → Type 0 where
    none : {w : Walk} → Handed w []
    taken : {w : Walk} {old : List ℕ} {v : Values} {cs : List Call} → walked_of way w (length old) ≡ done v → Handed v.next cs
        → Handed w (record { way = way; walk = w; slice = old } ∷ cs)
    stray : {w : Walk} {c : Call} {x : Refusal} {cs : List Call} → answer c ≡ refused x → Handed w cs → Handed w (c ∷ cs)

  -- they are one walk with all their room
  pub record OneWalk (w : Walk) (cs : List Call) : Type 0 where
    pub list : joined cs ≡ walk_list way w (rooms cs)
    pub end : ended w cs ≡ walk_next way w (rooms cs)
    pub cells : examined cs ≡ walk_cells way w (rooms cs)

  at_cell : (w : Walk) {a b : ℕ} → a ≡ b → ◌≡◌ {A = Walk} (record { set = w.set; cell = a }) (record { set = w.set; cell = b })
  at_cell w e = ap (λ (c : ℕ). record { set = w.set; cell = c }) e

  no_room : (w : Walk) → OneWalk w []
  unfolding walk_next
  no_room w = record {
    list = sym (pieces.no_list w.set.n (rule_in way w.set) w.cell);
    end = at_cell w (sym (ap (λ (c : ℕ). w.cell + c) (pieces.no_cells w.set.n (rule_in way w.set) w.cell) ∙ add-zero w.cell));
    cells = sym (pieces.no_cells w.set.n (rule_in way w.set) w.cell);
  }

  -- what an accepted call gave
  module _ (w : Walk) (old : List ℕ) (v : Values) (e : walked_of way w (length old) ≡ done v) where
    its_values : v ≡ walk_values way w (length old)
    unfolding walked_of
    its_values = sym (done_clear (refusal w.set) (walk_values way w (length old)) (walk_lines way w) v e).1

    its_slice : take v.written (slice_of way w old) ≡ walk_list way w (length old)
    unfolding slice_of walked_of along.walk_slice walk_values
    its_slice =
        ap (λ (x : Values). take x.written (slice_of way w old)) its_values
        ∙ rw (answer_clear (refusal w.set) (walk_values way w (length old)) (walk_lines way w) e)
        (take-append_seam (walk_list way w (length old)) (drop (length (walk_list way w (length old))) old))

  -- an accepted call, then the others
  one_more : (w : Walk) (old : List ℕ) (v : Values) (cs : List Call) → walked_of way w (length old) ≡ done v → OneWalk v.next cs
      → OneWalk w (record { way = way; walk = w; slice = old } ∷ cs)
  unfolding walk_values walk_next
  one_more w old v cs e r =
      let q = its_values w old v e in
      let next : v.next ≡ walk_next way w (length old) = ap (λ (x : Values). x.next) q in
      let k : v.cells ≡ walk_cells way w (length old) = ap (λ (x : Values). x.cells) q in
      let n = w.set.n in
      let rule = rule_in way w.set in
      let more = rooms cs in record {
        list = rw e
            (ap₂ (λ (a b : List ℕ). a ++ b) (its_slice w old v e) (r.list ∙ ap (λ (x : Walk). walk_list way x more) next)
            ∙ sym (pieces.list_cut n rule w.cell (length old) more));
        end = rw e
            (r.end ∙ ap (λ (x : Walk). walk_next way x more) next
            ∙ at_cell w (add_assoc w.cell (walk_cells way w (length old)) (walk_cells way (walk_next way w (length old)) more)
            ∙ ap (λ (c : ℕ). w.cell + c) (sym (pieces.cells_cut n rule w.cell (length old) more))));
        cells = rw e
            (ap₂ (λ (a b : ℕ). a + b) k (r.cells ∙ ap (λ (x : Walk). walk_cells way x more) next)
            ∙ sym (pieces.cells_cut n rule w.cell (length old) more));
      }

  -- a refused call, then the others
  passed_by : (w : Walk) (c : Call) (x : Refusal) (cs : List Call) → answer c ≡ refused x → OneWalk w cs → OneWalk w (c ∷ cs)
  passed_by w c x cs e r = record {
    list = rw e (r.list ∙ ap (walk_list way w) (sym (zero-add (rooms cs))));
    end = rw e (r.end ∙ ap (walk_next way w) (sym (zero-add (rooms cs))));
    cells = rw e (zero-add (examined cs) ∙ r.cells ∙ ap (walk_cells way w) (sym (zero-add (rooms cs))));
  }

  pub walk_cut : {w : Walk} {cs : List Call} → Handed w cs → OneWalk w cs
  walk_cut (none {w}) = no_room w
  walk_cut (taken {w} {old} {v} {cs} e h) = one_more w old v cs e (walk_cut h)
  walk_cut (stray {w} {c} {x} {cs} e h) = passed_by w c x cs e (walk_cut h)

  -- a record that an accepted walk gives back is accepted again, whatever the room
  pub goes_on : (w : Walk) (room more : ℕ) {v : Values} → walked_of way w room ≡ done v
      → walked_of way v.next more ≡ done (walk_values way v.next more)
  unfolding walked_of walk_lines walk_values walk_next
  goes_on w room more {v} e =
      let done = done_clear (refusal w.set) (walk_values way w room) (walk_lines way w) v e in
      let back = first_clear (leaf_lines (rule_in way w.set) w.cell) (clear_back (set_lines w.set) _ (clear_first (set_lines w.set ++ leaf_lines (rule_in way w.set) w.cell) done.0.1)) in
      let h = pieces.cells_within w.set.n (rule_in way w.set) w.cell room (ltb-false _ _ back.0) in
      rw (sym done.1)
      (rw (
        done.0.0,
        clear_then (set_lines w.set) _ (clear_front (set_lines w.set) _ (clear_first (set_lines w.set ++ leaf_lines (rule_in way w.set) w.cell) done.0.1)),
        le-ltb (rule_in way w.set).total (w.cell + walk_cells way w room) h,
      ))

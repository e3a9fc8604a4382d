-- What the calls on a set answer, either way: their lines in the order of document 01, with 16 of request 4 and 11 and 10 of request 6
-- after 3, and without 8, by request 7: 1, 2, 3, 16, 11, 10, 4, 9; their values, and the slice after a walk. A way is a parameter, so that both
-- walks and both addresses have one definition.
use Rattle.std.specs.Prelude.{ℕ, ◌+◌, List, [], ◌∷◌, ◌++◌, leb, length}
use Rattle.laws.specs.declared.Way.{Way}
use Rattle.laws.specs.Outcome.{Outcome, Line, line, judged, after}
use Rattle.laws.specs.Walk.{leaf_lines}
use Rattle.laws.specs.Walk as along
use Rattle.sets.specs.declared.Set.{Set}
use Rattle.sets.specs.declared.Refusal.{Refusal}
use Rattle.sets.specs.Set.{family_of}
use Rattle.sets.specs.Verdict.{set_lines, refusal}
use Rattle.walks.specs.declared.Walk.{Walk}
use Rattle.walks.specs.declared.Values.{Values}
use Rattle.families.specs.Rules.{rule_in, barred}

-- a walk: 1 also where the way is M's and M is not walked, and that stands where 1 does; then 1, 2, 3, 16, 11, 10, and 9, a cell
-- past the total
unfoldable pub walk_lines : Way → Walk → List Line
walk_lines way w = line 1 (barred way (family_of w.set)) ∷ (set_lines w.set ++ leaf_lines (rule_in way w.set) w.cell)

-- one address, either way: 1, 2, 3, 16, 11, 10, and 4, a position that is N or more
unfoldable pub one_lines : Set → ℕ → List Line
one_lines s x = set_lines s ++ (line 4 (leb s.n x) ∷ [])

-- a walk with room for so many addresses: what it writes, the cells it examines, the padding it passes, the slice after it
module _ (way : Way) (w : Walk) where
  abbrev pub walk_list : ℕ → List ℕ
  walk_list = along.walk_list w.set.n (rule_in way w.set) w.cell

  abbrev pub walk_cells : ℕ → ℕ
  walk_cells = along.walk_cells w.set.n (rule_in way w.set) w.cell

  abbrev pub walk_padding : ℕ → ℕ
  walk_padding = along.walk_padding w.set.n (rule_in way w.set) w.cell

  abbrev pub walk_slice : List ℕ → List ℕ
  walk_slice = along.walk_slice w.set.n (rule_in way w.set) w.cell

  -- the record that it gives back
  unfoldable pub walk_next : ℕ → Walk
  walk_next room = record { set = w.set; cell = w.cell + walk_cells room }

-- the values of a walk: addresses written, the record, cells examined
abbrev pub values : ℕ → Walk → ℕ → Values
values k n c = record { written = k; next = n; cells = c }

unfoldable pub walk_values : Way → Walk → ℕ → Values
walk_values way w room = values (length (walk_list way w room)) (walk_next way w room) (walk_cells way w room)

-- what a walk has to say, with room for so many addresses, and the slice after it
unfoldable pub walked_of : Way → Walk → ℕ → Outcome Refusal Values
walked_of way w room = judged (refusal w.set) (walk_lines way w) (walk_values way w room)

unfoldable pub slice_of : Way → Walk → List ℕ → List ℕ
slice_of way w old = after (walk_lines way w) (walk_slice way w old) old

-- what a call for one address has to say: L(x), or M(x)
unfoldable pub found_of : Way → Set → ℕ → Outcome Refusal ℕ
found_of way s x = judged (refusal s) (one_lines s x) ((rule_in way s).l x)

-- A walk along a rule: what it is, where it ends, and that in pieces it is the walk as a whole. Over any rule, from any cell, with any room.
-- Rests on Walk, Cut and Ends.
use Rattle.std.specs.Prelude.{ℕ, ◌+◌, ◌-◌, ◌≤◌, [], ◌++◌, ◌≡◌, length, take}
use Rattle.std.proofs.Common.{sym, ◌∙◌, arith}
use Rattle.std.proofs.Math.Path.{ap}
use Rattle.laws.specs.Keep.{keep, wrote, steps}
use Rattle.laws.specs.Cut.{cut, cut_steps, steps_are, steps_le, wrote_take}
use Rattle.laws.specs.Ends.{EndsAt, steps_end}
use Rattle.laws.specs.Written.{wrote_no_room, steps_no_room}
use Rattle.laws.specs.Once.{inside}
use Rattle.laws.specs.Walk.{Rule, walk_list, walk_cells, walk_padding}

module _ (n : ℕ) (r : Rule) (cell : ℕ) where
  -- the first of the addresses that pass the test among the cells from there to the total
  pub walk_list_lem : (room : ℕ) → walk_list n r cell room ≡ take room (keep r.address (inside n) cell (r.total - cell))
  unfolding walk_list
  walk_list_lem room = wrote_take r.address (inside n) cell (r.total - cell) room

  -- cells examined are addresses written and padding passed
  pub cells_are : (room : ℕ) → walk_cells n r cell room ≡ length (walk_list n r cell room) + walk_padding n r cell room
  unfolding walk_list walk_cells walk_padding
  cells_are room = steps_are r.address (inside n) cell (r.total - cell) room

  -- it ends at the total, or right after its room is full
  pub walk_ends : (room : ℕ) → EndsAt r.address (inside n) cell (r.total - cell) room (walk_cells n r cell room)
  unfolding walk_cells
  walk_ends room = steps_end r.address (inside n) cell (r.total - cell) room

  pub cells_within : (room : ℕ) → cell ≤ r.total → cell + walk_cells n r cell room ≤ r.total
  unfolding walk_cells
  cells_within room h = omega (arith, steps_le r.address (inside n) cell (r.total - cell) room)

  -- with no room it moves nothing
  pub no_list : walk_list n r cell 0 ≡ []
  unfolding walk_list
  no_list = wrote_no_room r.address (inside n) r.total cell (r.total - cell)

  pub no_cells : walk_cells n r cell 0 ≡ 0
  unfolding walk_cells
  no_cells = steps_no_room r.address (inside n) r.total cell (r.total - cell)

  -- with room for a and then b: a walk with room for a, and from there one with room for b
  left : (a : ℕ) → r.total - (cell + walk_cells n r cell a) ≡ r.total - cell - walk_cells n r cell a
  left a = omega arith

  pub list_cut : (a b : ℕ) → walk_list n r cell (a + b) ≡ walk_list n r cell a ++ walk_list n r (cell + walk_cells n r cell a) b
  unfolding walk_list walk_cells
  list_cut a b =
      cut r.address (inside n) cell (r.total - cell) a b
      ∙ ap (λ (m : ℕ). walk_list n r cell a ++ wrote r.address (inside n) (cell + walk_cells n r cell a) m b) (sym (left a))

  pub cells_cut : (a b : ℕ) → walk_cells n r cell (a + b) ≡ walk_cells n r cell a + walk_cells n r (cell + walk_cells n r cell a) b
  unfolding walk_cells
  cells_cut a b =
      cut_steps r.address (inside n) cell (r.total - cell) a b
      ∙ ap (λ (m : ℕ). walk_cells n r cell a + steps r.address (inside n) (cell + walk_cells n r cell a) m b) (sym (left a))

-- A family of interleavers is one rule, and a walk along it is one thing for every family: which addresses it writes, which cells it examines,
-- what it leaves in the slice, and when it is refused. Every leaf walk promises `LeafOf`; what stands above the families rests on `Lawful` and on
-- no formula.
use Rattle.std.specs.Prelude.{ℕ, min, ◌+◌, ◌-◌, ◌≤◌, ◌<◌, ◌≡◌, ltb, Result}
use mathlib.Core.List.{List, [], ◌∷◌, ◌++◌}
use Rattle.std.proofs.Math.Path.{sym, ap}
use Rattle.std.proofs.Common.{◌∙◌, zero-add, lt-ltb}
use Rattle.std.proofs.Math.Nat.{sub-zero, min-eq_right}
use native.Mathlib.Omega.{arith}
use Rattle.std.proofs.Math.ListN.{length, take, drop}
use Rattle.std.proofs.Math.Seq.{drop-append_seam}
use Rattle.laws.specs.declared.Way.{Way}
use Rattle.laws.specs.declared.Way.TheVariants.{Interleaver, Deinterleaver}
use Rattle.laws.specs.declared.Went.{Went}
use Rattle.laws.specs.Outcome.{say, Line, line, judged, after}
use Rattle.laws.specs.Run.{run, length_run, take_run, drop_run}
use Rattle.laws.specs.Perm.{Perm, swapped}
use Rattle.laws.specs.Keep.{keep, wrote, steps, padding}
use Rattle.laws.specs.Cut.{kept_or_padding, wrote_take, keep_cut}
use Rattle.laws.specs.Once.{inside}
use Rattle.laws.specs.Bare.{keep_bare, steps_bare}
use Rattle.laws.specs.Loop.{by, by_run}

-- the rule of a block of N: the cell total, and the address of a cell, which is padding exactly when its address is N or more; L, output t
-- holds input L(t); M, input k goes to output M(k)
pub record Rule : Type 0 where
  pub total : ℕ
  pub address : ℕ → ℕ
  pub l : ℕ → ℕ
  pub m : ℕ → ℕ

-- a rule without padding: a cell is an output position
abbrev pub bare_rule : ℕ → (ℕ → ℕ) → (ℕ → ℕ) → Rule
bare_rule n l m = record { total = n; address = l; l = l; m = m }

-- the rule the other way round: a cell is an input position, and M is walked
abbrev pub back : ℕ → Rule → Rule
back n r = bare_rule n r.m r.l

-- what the walk of a way goes along: L, over the cells, or M, over the input positions
abbrev pub in_way : Way → ℕ → Rule → Rule
in_way Interleaver n r = r
in_way Deinterleaver n r = back n r

-- a walk along a rule from a cell, with room for so many addresses
module _ (n : ℕ) (r : Rule) (cell : ℕ) where
  -- the addresses that it writes: cell by cell, all that are not padding, until the room is full or no cell is left
  unfoldable pub walk_list : ℕ → List ℕ
  walk_list room = wrote r.address (inside n) cell (r.total - cell) room

  -- the cells that it examines
  unfoldable pub walk_cells : ℕ → ℕ
  walk_cells room = steps r.address (inside n) cell (r.total - cell) room

  -- the padding that it passes, by the test on each address from the old cell to the new
  unfoldable pub walk_padding : ℕ → ℕ
  walk_padding room = padding r.address (inside n) cell (walk_cells room)

  -- the slice after it: the addresses, and then what stood there
  unfoldable pub walk_slice : List ℕ → List ℕ
  walk_slice old = walk_list (length old) ++ drop (length (walk_list (length old))) old

-- how many addresses, no padding, stand before a cell
unfoldable pub passed_by : ℕ → Rule → ℕ → ℕ
passed_by n r cell = length (keep r.address (inside n) 0 cell)

-- what a leaf walk answers: what it counts, or the number of its refusal
abbrev pub Leaf : Type 0
Leaf = Result Went ℕ

-- what it counts
abbrev pub went : ℕ → ℕ → Went
went w c = record { written = w; cells = c }

abbrev pub walk_counts : ℕ → Rule → ℕ → ℕ → Went
walk_counts n r cell room = went (length (walk_list n r cell room)) (walk_cells n r cell room)

-- what it may be refused for: 9, that the cell is past the total
abbrev pub leaf_lines : Rule → ℕ → List Line
leaf_lines r cell = line 9 (ltb r.total cell) ∷ []

-- what every leaf walk promises, from any cell
pub record LeafOf (n : ℕ) (r : Rule) (cell : ℕ) (old new : List ℕ) (leaf : Leaf) : Type 0 where
  pub answer : say leaf ≡ judged (λ k. k) (leaf_lines r cell) (walk_counts n r cell (length old))
  pub slice : new ≡ after (leaf_lines r cell) (walk_slice n r cell old) old

-- the laws of a family: L and M undo each other below N; the addresses that are no padding are L, at 0 to N - 1; cells fit 16 bits
pub record Lawful (n : ℕ) (r : Rule) : Type 0 where
  pub perm : Perm n r.l r.m
  pub list : keep r.address (inside n) 0 r.total ≡ run r.l 0 n
  pub small : r.total < 65536

-- without padding, where L and M undo each other
pub bare_lawful : {n : ℕ} {l m : ℕ → ℕ} → Perm n l m → n < 65536 → Lawful n (bare_rule n l m)
bare_lawful {n} {l} p h = record {
  perm = p;
  list = keep_bare l (inside n) 0 n (λ x lo hi. lt-ltb (l x) n (p.l_below x (omega arith)));
  small = h;
}

-- without padding, what is behind a cell are the cells
pub bare_behind : {n : ℕ} {f : ℕ → ℕ} (m : ℕ → ℕ) (cell : ℕ) → ((x : ℕ) → x < n → f x < n) → cell ≤ n → passed_by n (bare_rule n f m) cell ≡ cell
unfolding passed_by
bare_behind {n} {f} m cell below h =
    ap length (keep_bare f (inside n) 0 cell (λ x l o. lt-ltb (f x) n (below x (omega arith)))) ∙ length_run f 0 cell

-- and a walk examines as many cells as it has room for, or as there are left
pub bare_cells : {n : ℕ} {f : ℕ → ℕ} (m : ℕ → ℕ) (cell room : ℕ) → ((x : ℕ) → x < n → f x < n)
    → walk_cells n (bare_rule n f m) cell room ≡ min room (n - cell)
unfolding walk_cells
bare_cells {n} {f} m cell room below =
    steps_bare f (inside n) cell (n - cell) room (λ x l o. lt-ltb (f x) n (below x (omega arith)))

module _ {n : ℕ} {r : Rule} (h : Lawful n r) where
  pub n_le : n ≤ r.total
  n_le = omega (arith, kept_or_padding r.address (inside n) 0 r.total, ap length h.list, length_run r.l 0 n)

  -- M is lawful where L is
  pub lawful_back : Lawful n (back n r)
  lawful_back = bare_lawful (swapped h.perm) (omega (arith, n_le, h.small))

  pub lawful_in : (way : Way) → Lawful n (in_way way n r)
  lawful_in Interleaver = h
  lawful_in Deinterleaver = lawful_back

  -- from cell 0 a walk writes L, as much of it as there is room for ..
  first_list : (room : ℕ) → walk_list n r 0 room ≡ run r.l 0 (min room n)
  unfolding walk_list
  first_list room =
      wrote_take r.address (inside n) 0 (r.total - 0) room
      ∙ ap (λ (m : ℕ). take room (keep r.address (inside n) 0 m)) (sub-zero r.total)
      ∙ ap (take room) h.list
      ∙ take_run r.l 0 n room

  -- .. and all of it with room for N
  pub whole_list : (room : ℕ) → n ≤ room → walk_list n r 0 room ≡ run r.l 0 n
  whole_list room o = first_list room ∙ ap (run r.l 0) (min-eq_right o)

  -- from any cell, with any room, it writes L on from as many as are no padding before that cell
  pub walk_from : (cell room : ℕ) → cell ≤ r.total
      → walk_list n r cell room ≡ run r.l (passed_by n r cell) (min room (n - passed_by n r cell))
  unfolding walk_list passed_by
  walk_from cell room o =
      let front = keep r.address (inside n) 0 cell in
      let back = keep r.address (inside n) cell (r.total - cell) in
      let e : front ++ back ≡ run r.l 0 n =
      sym (ap (λ (c : ℕ). front ++ keep r.address (inside n) c (r.total - cell)) (zero-add cell))
      ∙ sym (keep_cut r.address (inside n) 0 cell (r.total - cell))
      ∙ ap (keep r.address (inside n) 0) (let w : cell + (r.total - cell) ≡ r.total = omega arith in w)
      ∙ h.list in
      wrote_take r.address (inside n) cell (r.total - cell) room
      ∙ ap (take room) (sym (drop-append_seam front back) ∙ ap (drop (length front)) e ∙ drop_run r.l 0 n (length front))
      ∙ take_run r.l (0 + length front) (n - length front) room
      ∙ ap (λ (c : ℕ). run r.l c (min room (n - length front))) (zero-add (length front))

  -- and a table that a walk from cell 0 filled is L, as far as it goes
  pub table_is : (old : List ℕ) (t : ℕ) → t < length old → t < n → by (walk_slice n r 0 old) t ≡ r.l t
  unfolding walk_slice
  table_is old t o l =
      by_run r.l 0 (min (length old) n) (walk_slice n r 0 old) (drop (length (walk_list n r 0 (length old))) old)
      (ap (λ (x : List ℕ). x ++ drop (length (walk_list n r 0 (length old))) old) (first_list (length old))) t (omega arith)
      ∙ ap r.l (zero-add t)

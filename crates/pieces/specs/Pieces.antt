-- Where a walk for L stands between two pieces, and what the next piece holds. Rests on the laws of every accepted set (families).
use Rattle.std.specs.Prelude.{ℕ, min, ◌+◌, ◌-◌, ◌≤◌, Ok, Err, ◌≡◌, refl}
use mathlib.Core.List.{List, ◌++◌}
use Rattle.std.proofs.Math.Path.{sym, ap}
use Rattle.std.proofs.Common.{◌∙◌, zero-add, le-ltb}
use native.Mathlib.Omega.{arith}
use Rattle.std.proofs.Math.ListN.{length, take, drop, length-append}
use Rattle.std.proofs.Math.Seq.{take-append_seam}
use Rattle.laws.specs.declared.Way.TheVariants.{Interleaver}
use Rattle.laws.specs.declared.Went.{Went}
use Rattle.laws.specs.Run.{run, length_run}
use Rattle.laws.specs.Keep.{keep, steps}
use Rattle.laws.specs.Cut.{keep_cut, wrote_keep}
use Rattle.laws.specs.Once.{inside}
use Rattle.laws.specs.Pieces.{cells_within}
use Rattle.laws.specs.Walk.{Rule, Lawful, walk_counts, walk_list, walk_cells, walk_slice, passed_by, walk_from}
use Rattle.sets.specs.declared.Set.{Set}
use Rattle.sets.specs.Admits.{Accepted}
use Rattle.families.specs.Rules.{rule_of, L, lawful}
use Rattle.families.specs.Taken.{WalkLeaf, leaf_had}
use Rattle.pieces.specs.declared.Standing.{Standing}

-- L of a set: at 0 to N - 1
abbrev pub list_of : Set → List ℕ
list_of s = run (L s) 0 s.n

-- the addresses before the cell are as many as were written
pub record Stands (s : Set) (w : Standing) : Type 0 where
  pub within : w.cell ≤ (rule_of s).total
  pub behind : passed_by s.n (rule_of s) w.cell ≡ w.at
  pub inside : w.at ≤ s.n

-- the next piece: L on from there, until the slice is full or the list has ended
pub record Pieced (s : Set) (from : Standing) (old new : List ℕ) (w : Standing) : Type 0 where
  pub stands : Stands s w
  pub moved : w.at ≡ from.at + min (length old) (s.n - from.at)
  pub list : take (w.at - from.at) new ≡ run (L s) from.at (w.at - from.at)

-- what is behind a cell, as the walk goes on
module _ (n : ℕ) (r : Rule) where
  passed_cut : (cell more : ℕ) → passed_by n r (cell + more) ≡ passed_by n r cell + length (keep r.address (inside n) cell more)
  unfolding passed_by
  passed_cut cell more =
      ap length (keep_cut r.address (inside n) 0 cell more ∙ ap (λ (c : ℕ). keep r.address (inside n) 0 cell ++ keep r.address (inside n) c more) (zero-add cell))
      ∙ length-append (keep r.address (inside n) 0 cell) (keep r.address (inside n) cell more)

  passed_on : (cell room : ℕ) → passed_by n r (cell + walk_cells n r cell room) ≡ passed_by n r cell + length (walk_list n r cell room)
  unfolding walk_cells walk_list
  passed_on cell room =
      passed_cut cell (steps r.address (inside n) cell (r.total - cell) room)
      ∙ ap (λ (l : List ℕ). passed_by n r cell + length l) (sym (wrote_keep r.address (inside n) cell (r.total - cell) room))

  passed_in : Lawful n r → (cell : ℕ) → cell ≤ r.total → passed_by n r cell ≤ n
  unfolding passed_by
  passed_in h cell l =
      let e : cell + (r.total - cell) ≡ r.total = omega arith in
      omega (arith, sym (passed_cut cell (r.total - cell)) ∙ ap (λ (c : ℕ). length (keep r.address (inside n) 0 c)) e ∙ ap length h.list ∙ length_run r.l 0 n)

pub stands_first : (s : Set) → Stands s (record { at = 0; cell = 0 })
unfolding passed_by keep
stands_first s = record { within = omega arith; behind = refl; inside = omega arith }

module _ (s : Set) (e : Accepted s) {w : Standing} (h : Stands s w) where
  -- a walk from there is not refused
  module _ {old new : List ℕ} where
    pub goes : {k : ℕ} → WalkLeaf Interleaver s w.cell old new (Err k) → ⊥
    goes l =
        let q = rw (le-ltb (rule_of s).total w.cell h.within) at (leaf_had Interleaver s refl l).answer in
        let z : ◌≡◌ {A = ℕ} 0 1 = cc in omega arith

    -- and writes the next piece
    module _ {c : Went} (l : WalkLeaf Interleaver s w.cell old new (Ok c)) where
      says : ◌≡◌ {A = Went} c (walk_counts s.n (rule_of s) w.cell (length old))
      says =
          let q = rw (le-ltb (rule_of s).total w.cell h.within) at (leaf_had Interleaver s refl l).answer in cc

      written_is : c.written ≡ length (walk_list s.n (rule_of s) w.cell (length old))
      written_is = ap (λ (c : Went). c.written) says

      cells_are : c.cells ≡ walk_cells s.n (rule_of s) w.cell (length old)
      cells_are = ap (λ (c : Went). c.cells) says

      list_is : walk_list s.n (rule_of s) w.cell (length old) ≡ run (L s) w.at (min (length old) (s.n - w.at))
      list_is =
          walk_from (lawful s e) w.cell (length old) h.within
          ∙ ap (λ (a : ℕ). run (L s) a (min (length old) (s.n - a))) h.behind

      pub written_min : c.written ≡ min (length old) (s.n - w.at)
      written_min = written_is ∙ ap length list_is ∙ length_run (L s) w.at (min (length old) (s.n - w.at))

      slice_is : new ≡ walk_slice s.n (rule_of s) w.cell old
      slice_is = rw (le-ltb (rule_of s).total w.cell h.within) at (leaf_had Interleaver s refl l).slice

      written_list : take c.written new ≡ run (L s) w.at c.written
      unfolding walk_slice
      written_list =
          let front = walk_list s.n (rule_of s) w.cell (length old) in
          ap (take c.written) slice_is
          ∙ ap (λ (k : ℕ). take k (front ++ drop (length front) old)) written_is
          ∙ take-append_seam front (drop (length front) old)
          ∙ list_is ∙ ap (run (L s) w.at) (sym written_min)

      -- cells fit
      pub cells_in : w.cell + c.cells ≤ (rule_of s).total
      cells_in = rw cells_are (cells_within s.n (rule_of s) w.cell (length old) h.within)

      behind_next : passed_by s.n (rule_of s) (w.cell + c.cells)
          ≡ passed_by s.n (rule_of s) w.cell + length (walk_list s.n (rule_of s) w.cell (length old))
      behind_next = rw cells_are (passed_on s.n (rule_of s) w.cell (length old))

      pub piece_next : Pieced s w old new (record { at = w.at + c.written; cell = w.cell + c.cells })
      piece_next = record {
        stands = record {
          within = cells_in;
          behind = omega (arith, behind_next, h.behind, written_is);
          inside = omega (arith, written_min, h.inside);
        };
        moved = omega (arith, written_min);
        list = rw (let k : w.at + c.written - w.at ≡ c.written = omega arith in k) written_list;
      }

-- cells fit 16 bits
pub cells_small : (s : Set) → Accepted s → (rule_of s).total ≤ 65535
cells_small s e = omega (arith, (lawful s e).small)

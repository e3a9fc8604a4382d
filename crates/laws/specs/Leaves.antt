-- From what a leaf function did to what it promises, and from its answer to what stands above it: the numbers fit, and the call's answer is the
-- leaf's, carried on. Rests on Walk.
use Rattle.std.specs.Prelude.{ℕ, ◌+◌, ◌-◌, ◌≤◌, ◌<◌, List, ◌≡◌, refl, length, Ok, Err}
use Rattle.std.proofs.Common.{sym, ap, ap₂, ◌∙◌, arith, lt-ltb, le-ltb, ltb-false}
use Rattle.laws.specs.declared.Went.{Went}
use Rattle.laws.specs.Outcome.{Outcome, say, done, refused, Line, first, Ruling, clear, stopped, settle, judged, after, done_clear}
use Rattle.laws.specs.Lanes.{Ran}
use Rattle.laws.specs.Cut.{steps_are, steps_le}
use Rattle.laws.specs.Once.{inside}
use Rattle.laws.specs.Loop.{by}
use Rattle.laws.specs.Bare.{ran_written, ran_cells, ran_slice}
use Rattle.laws.specs.Walk.{Rule, bare_rule, walk_list, walk_cells, walk_slice, Leaf, went, walk_counts, leaf_lines, LeafOf, Lawful, table_is}

-- a ruling, and what it makes of an answer and of a slice
module _ {A : Type 0} (ls : List Line) (a : A) where
  stop_says : {k : ℕ} → first ls ≡ stopped k → refused k ≡ judged (λ k. k) ls a
  stop_says e = rw e

  stop_keeps : {k : ℕ} {old : A} → first ls ≡ stopped k → old ≡ after ls a old
  stop_keeps e = rw e

  clear_says : {b : A} → first ls ≡ clear → b ≡ a → done b ≡ judged (λ k. k) ls a
  clear_says e p = rw e (ap done p)

  clear_leaves : {b : A} (old : A) → first ls ≡ clear → b ≡ a → b ≡ after ls a old
  clear_leaves old e p = rw e p

-- a walk: refused by 9, or done
module _ {n : ℕ} {r : Rule} {cell : ℕ} {old : List ℕ} where
  pub leaf_past : r.total < cell → LeafOf n r cell old old (Err 9)
  leaf_past h =
      let e : first (leaf_lines r cell) ≡ stopped 9 = rw (lt-ltb r.total cell h) in
      record { answer = stop_says (leaf_lines r cell) _ e; slice = stop_keeps (leaf_lines r cell) _ e }

  pub leaf_went : {new : List ℕ} {a b : ℕ} → cell ≤ r.total → a ≡ length (walk_list n r cell (length old)) → b ≡ walk_cells n r cell (length old)
      → new ≡ walk_slice n r cell old → LeafOf n r cell old new (Ok (went a b))
  leaf_went h p q s =
      let c : first (leaf_lines r cell) ≡ clear = rw (le-ltb r.total cell h) in
      record { answer = clear_says (leaf_lines r cell) _ c (ap₂ went p q); slice = clear_leaves (leaf_lines r cell) _ old c s }

-- a walk of a rule without padding, over N cells
pub ran_leaf : {l m : ℕ → ℕ} {n cell count : ℕ} {old new : List ℕ} → ((x : ℕ) → x < n → l x < n) → cell ≤ n → Ran l n cell old new count
    → LeafOf n (bare_rule n l m) cell old new (Ok (went count count))
unfolding walk_list walk_cells walk_slice
ran_leaf below h r = leaf_went h (ran_written below r) (ran_cells below r) (ran_slice below r)

-- what an answer tells: nothing was in the way, and the counts
record WentWell (n : ℕ) (r : Rule) (cell : ℕ) (old : List ℕ) (a b : ℕ) : Type 0 where
  pub within : cell ≤ r.total
  pub written : a ≡ length (walk_list n r cell (length old))
  pub cells : b ≡ walk_cells n r cell (length old)

went_well : {n : ℕ} {r : Rule} {cell : ℕ} {old new : List ℕ} {leaf : Leaf} {a b : ℕ} → leaf ≡ Ok (went a b) → LeafOf n r cell old new leaf
    → WentWell n r cell old a b
went_well {n} {r} {cell} {old} {new} {leaf} {a} {b} e o =
    let q = done_clear (λ k. k) (walk_counts n r cell (length old)) (leaf_lines r cell) (went a b) (sym o.answer ∙ ap say e) in
    record {
      within = ltb-false r.total cell q.0.0;
      written = sym (ap (λ (c : Went). c.written) q.1);
      cells = sym (ap (λ (c : Went). c.cells) q.1);
    }

-- from cell 0 nothing is in the way, whatever the answer: the slice is that of the walk ..
pub from_first : {n : ℕ} {r : Rule} {old new : List ℕ} {leaf : Leaf} → LeafOf n r 0 old new leaf → new ≡ walk_slice n r 0 old
from_first {n} {r} {old} o = o.slice ∙ rw (le-ltb r.total 0 (omega arith))

-- .. and holds L, as far as it goes
pub holds_l : {n : ℕ} {r : Rule} {old new : List ℕ} {leaf : Leaf} → Lawful n r → LeafOf n r 0 old new leaf
    → (t : ℕ) → t < length old → t < n → by new t ≡ r.l t
holds_l {n} {r} {old} h o t room l = ap (λ (xs : List ℕ). by xs t) (from_first o) ∙ table_is h old t room l

-- the numbers of an answer fit 16 bits
abbrev pub Fits : ℕ → Leaf → Type 0
Fits cell (Ok w) = (w.written < 65536) × (cell + w.cells < 65536)
Fits cell (Err k) = Unit {0}

pub leaf_fits : {n : ℕ} {r : Rule} → Lawful n r → {cell : ℕ} {old new : List ℕ} (leaf : Leaf) → LeafOf n r cell old new leaf → Fits cell leaf
unfolding walk_list walk_cells
leaf_fits {n} {r} h {cell} {old} (Ok x) o =
    let w = went_well {a = x.written} {b = x.cells} refl o in
    let s = steps_le r.address (inside n) cell (r.total - cell) (length old) in (
      omega (arith, w.written, steps_are r.address (inside n) cell (r.total - cell) (length old), h.small),
      omega (arith, w.cells, w.within, h.small),
    )
leaf_fits h (Err k) o = tt

-- an answer carried on: with the refusal of its number, and other values
abbrev pub carry : {A B R : Type 0} → (ℕ → R) → (A → B) → Outcome ℕ A → Outcome R B
carry give f (done a) = done (f a)
carry give f (refused k) = refused (give k)

pub carry_judged : {A B R : Type 0} (give : ℕ → R) (f : A → B) (ls : List Line) (a : A) → carry give f (judged (λ k. k) ls a) ≡ judged give ls (f a)
carry_judged give f ls a = go (first ls)
  where
    go : (x : Ruling) → carry give f (settle x (λ k. refused k) (done a)) ≡ settle x (λ k. refused (give k)) (done (f a))
    go clear = refl
    go (stopped k) = refl

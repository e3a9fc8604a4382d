-- An accepted set of a family, and what the leaf of its walk promises: 1 where the walk is not had, else what the leaf of its rule does.
-- Rests on Rules.
use Rattle.std.specs.Prelude.{ℕ, Bool, true, false, ◌||◌, List, ◌∷◌, ◌≡◌, refl, length, Ok, Err}
use Rattle.std.proofs.Common.{true≢false, arith}
use Rattle.std.proofs.lemmas.Bool.{false≢true}
use Rattle.laws.specs.declared.Way.{Way}
use Rattle.laws.specs.Outcome.{say, Line, line, judged, after}
use Rattle.laws.specs.Walk.{Leaf, walk_counts, leaf_lines, LeafOf}
use Rattle.laws.specs.Walk as along
use Rattle.laws.specs.Leaves.{Fits, leaf_fits}
use Rattle.sets.specs.declared.Set.{Set}
use Rattle.profiles.specs.declared.Family.{Family}
use Rattle.sets.specs.Set.{family_of, is_turbo, is_spatial, is_quadratic, is_coupled}
use Rattle.profiles.specs.declared.Family.TheVariants.{Carrier, Spatial, Turbo, Quadratic, Coupled}
use Rattle.sets.specs.Admits.{Accepted}
use Rattle.families.specs.Rules.{rule_in, one_way, barred, lawful_way}

-- a set that the test accepts, and its family
pub record Taken (s : Set) (family : Family) : Type 0 where
  pub accepted : Accepted s
  pub which : family_of s ≡ family

-- the family, by the questions (those of the quadratic interleaver and of couples are in specs/Beside.antt of sets)
pub the_turbo : (s : Set) → is_turbo (family_of s) ≡ true → family_of s ≡ Turbo
the_turbo s e = go (family_of s) e
  where
    go : (f : Family) → is_turbo f ≡ true → f ≡ Turbo
    go Carrier e = absurd (false≢true e)
    go Spatial e = absurd (false≢true e)
    go Turbo e = refl
    go Quadratic e = absurd (false≢true e)
    go Coupled e = absurd (false≢true e)

pub the_spatial : (s : Set) → is_spatial (family_of s) ≡ true → family_of s ≡ Spatial
the_spatial s e = go (family_of s) e
  where
    go : (f : Family) → is_spatial f ≡ true → f ≡ Spatial
    go Carrier e = absurd (false≢true e)
    go Spatial e = refl
    go Turbo e = absurd (false≢true e)
    go Quadratic e = absurd (false≢true e)
    go Coupled e = absurd (false≢true e)

pub the_carrier : (s : Set) → is_turbo (family_of s) ≡ false → is_spatial (family_of s) ≡ false → is_quadratic (family_of s) ≡ false → is_coupled (family_of s) ≡ false
    → family_of s ≡ Carrier
the_carrier s e o u v = go (family_of s) e o u v
  where
    go : (f : Family) → is_turbo f ≡ false → is_spatial f ≡ false → is_quadratic f ≡ false → is_coupled f ≡ false → f ≡ Carrier
    go Carrier e o u v = refl
    go Spatial e o u v = absurd (true≢false o)
    go Turbo e o u v = absurd (true≢false e)
    go Quadratic e o u v = absurd (true≢false u)
    go Coupled e o u v = absurd (true≢false v)

-- the families whose M is not walked
pub one_way_lem : (f : Family) → (is_turbo f || (is_quadratic f || is_coupled f)) ≡ one_way f
one_way_lem Carrier = refl
one_way_lem Spatial = refl
one_way_lem Turbo = refl
one_way_lem Quadratic = refl
one_way_lem Coupled = refl

-- and the walk of a way is had
pub record Walkable (way : Way) (s : Set) : Type 0 where
  pub accepted : Accepted s
  pub had : barred way (family_of s) ≡ false

-- what the leaf of a walk promises of an accepted set: 1 where the walk is not had, else what its rule's leaf does
abbrev pub way_lines : Way → Set → ℕ → List Line
way_lines way s cell = line 1 (barred way (family_of s)) ∷ leaf_lines (rule_in way s) cell

pub record WalkLeaf (way : Way) (s : Set) (cell : ℕ) (old new : List ℕ) (leaf : Leaf) : Type 0 where
  pub answer : say leaf ≡ judged (λ k. k) (way_lines way s cell) (walk_counts s.n (rule_in way s) cell (length old))
  pub slice : new ≡ after (way_lines way s cell) (along.walk_slice s.n (rule_in way s) cell old) old

module _ (way : Way) (s : Set) {cell : ℕ} {old new : List ℕ} {leaf : Leaf} (o : barred way (family_of s) ≡ false) where
  pub had_leaf : LeafOf s.n (rule_in way s) cell old new leaf → WalkLeaf way s cell old new leaf
  had_leaf l = record { answer = rw o l.answer; slice = rw o l.slice }

  pub leaf_had : WalkLeaf way s cell old new leaf → LeafOf s.n (rule_in way s) cell old new leaf
  leaf_had l = record { answer = rw o at l.answer; slice = rw o at l.slice }

pub barred_leaf : (way : Way) (s : Set) {cell : ℕ} {old : List ℕ} → barred way (family_of s) ≡ true → WalkLeaf way s cell old old (Err 1)
barred_leaf way s b = record { answer = rw b; slice = rw b }

-- its numbers fit
pub walk_leaf_fits : (way : Way) (s : Set) {cell : ℕ} {old new : List ℕ} (leaf : Leaf) → Accepted s → WalkLeaf way s cell old new leaf → Fits cell leaf
walk_leaf_fits way s (Err k) e l = tt
walk_leaf_fits way s {cell} {old} (Ok w) e l = go (barred way (family_of s)) refl
  where
    go : (b : Bool) → barred way (family_of s) ≡ b → Fits cell (Ok w)
    go false o = leaf_fits (lawful_way way s e) (Ok w) (leaf_had way s o l)
    go true o = let q = rw o at l.answer in let z : ◌≡◌ {A = ℕ} 0 1 = cc in absurd (omega arith)

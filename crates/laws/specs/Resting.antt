-- A walk by one state that is written in parts, of which none knows what it is a part of: whichever rule of a family the walk goes by, from whichever
-- cell, it has gone on. Over any state and any family of rules. Rests on Stepped.
use Rattle.std.specs.Prelude.{List, ◌≡◌, refl, ℕ, ◌+◌, ◌≤◌, ◌<◌, length, set}
use Rattle.std.proofs.Common.{subst, ◌∙◌, le_antisymm, arith, length-set}
use Rattle.laws.specs.Stepped.{Stepped, stepped_next}

-- rules, by x, that one kind of state walks: Kept and At as in Stepped, and the entry that a state gives
pub record Family (S X : Type 0) : Type 1 where
  pub Kept : X → Type 0
  pub rule : X → ℕ → ℕ
  pub At : X → ℕ → S → Type 0
  pub entry : S → ℕ
  pub entry_is : (x : X) (t : ℕ) (at : S) → At x t at → entry at ≡ rule x t

-- the walk by rule x over n cells, from a cell on
abbrev pub WalkOf : {S X : Type 0} → Family S X → ℕ → X → ℕ → ℕ → List ℕ → List ℕ → S → ℕ → Type 0
WalkOf w n x = Stepped (w.Kept x) (w.rule x) (w.At x) n

-- one cell on, whatever the rule and the cell
abbrev pub StepOf : {S X : Type 0} → Family S X → S → S → Type 0
StepOf {S} {X} w at next = (x : X) (t : ℕ) → w.Kept x → w.At x t at → w.At x (t + 1) next

module _ {S X : Type 0} (w : Family S X) {n : ℕ} (x : X) {cell count i : ℕ} {old out : List ℕ} {at next : S} where
  -- an entry more ..
  pub walk_one : i < count → StepOf w at next → WalkOf w n x cell count old out at i
      → WalkOf w n x cell count old (set out i (w.entry at)) next (i + 1)
  walk_one h one g = stepped_next g h (w.entry_is x (cell + i) at g.state) (one x (cell + i) g.kept g.state)

-- .. and two
pub walk_two : {S X : Type 0} (w : Family S X) {n : ℕ} (x : X) {cell count i : ℕ} {old out : List ℕ} {at second third : S} → i + 2 ≤ count
    → StepOf w at second → StepOf w second third → WalkOf w n x cell count old out at i
    → WalkOf w n x cell count old (set (set out i (w.entry at)) (i + 1) (w.entry second)) third (i + 2)
walk_two w {n} x {cell} {count} {i} {old} {out} {at} {second} {third} h one two g =
    subst (λ (k : ℕ). WalkOf w n x cell count old (set (set out i (w.entry at)) (i + 1) (w.entry second)) third k) (omega arith)
    (walk_one w x (omega arith) two (walk_one w x (omega arith) one g))

-- the rest of a walk, which was at entry `from` with `old` in the slice, at entry i: whatever it is the rest of, it has gone on. In is where a state
-- can be stepped
pub record Resting {S X : Type 0} (w : Family S X) (In : S → Type 0) (n count from : ℕ) (start : S) (old new : List ℕ) (at : S) (i : ℕ) : Type 0 where
  pub within : In at
  pub far : i ≤ count
  pub room : count ≤ length new
  pub long : length new ≡ length old
  pub gone_on : (x : X) (cell : ℕ) (out₀ : List ℕ) → WalkOf w n x cell count out₀ old start from → WalkOf w n x cell count out₀ new at i

module _ {S X : Type 0} {w : Family S X} {In : S → Type 0} {n count from : ℕ} {start : S} {old : List ℕ} where
  pub rest_first : In start → from ≤ count → count ≤ length old → Resting w In n count from start old old start from
  rest_first p h r = record { within = p; far = h; room = r; long = refl; gone_on = λ x cell out₀ g. g }

  module _ {i : ℕ} {at : S} {new : List ℕ} (r : Resting w In n count from start old new at i) where
    pub rest_next : {next : S} → i < count → StepOf w at next → In next → Resting w In n count from start old (set new i (w.entry at)) next (i + 1)
    rest_next h one p = record {
      within = p;
      far = omega arith;
      room = omega (arith, r.room, length-set new i (w.entry at));
      long = length-set new i (w.entry at) ∙ r.long;
      gone_on = λ x cell out₀ g. walk_one w x h one (r.gone_on x cell out₀ g);
    }

    pub rest_all : count ≤ i → (x : X) (cell : ℕ) (out₀ : List ℕ) → WalkOf w n x cell count out₀ old start from
        → WalkOf w n x cell count out₀ new at count
    rest_all h x cell out₀ g =
        subst (λ (k : ℕ). WalkOf w n x cell count out₀ new at k) (le_antisymm r.far h) (r.gone_on x cell out₀ g)

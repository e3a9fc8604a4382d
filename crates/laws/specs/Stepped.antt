-- Writing a rule into a slice by one state that steps from cell to cell: At x is what the state is at cell x, and Kept is what the set-up
-- made and no pass changes. Over any rule and any state. Rests on Fill.
use Rattle.std.specs.Prelude.{◌≡◌, List, ◌++◌, ℕ, min, ◌+◌, ◌-◌, ◌≤◌, ◌<◌, length, set, drop}
use Rattle.std.proofs.Common.{ap, ◌∙◌, subst, le_antisymm, arith}
use Rattle.laws.specs.Run.{run}
use Rattle.laws.specs.Fill.{Filled, filled_none, filled_more}
use Rattle.laws.specs.Lanes.{Ran}

-- the loop over n cells from a cell on, at entry i of count
pub record Stepped {S : Type 0} (Kept : Type 0) (f : ℕ → ℕ) (At : ℕ → S → Type 0) (n cell count : ℕ) (out₀ out : List ℕ) (at : S) (i : ℕ)
    : Type 0 where
  pub kept : Kept
  pub count_is : count ≡ min (length out₀) (n - cell)
  pub far : i ≤ count
  pub filled : Filled f cell out₀ out i
  pub state : At (cell + i) at

module _ {S : Type 0} {Kept : Type 0} {f : ℕ → ℕ} {At : ℕ → S → Type 0} {n cell count : ℕ} {out₀ : List ℕ} where
  pub stepped_first : {at : S} → Kept → count ≡ min (length out₀) (n - cell) → At cell at → Stepped Kept f At n cell count out₀ out₀ at 0
  stepped_first {at} k e p = record {
    kept = k;
    count_is = e;
    far = omega arith;
    filled = filled_none f cell out₀;
    state = subst (λ (x : ℕ). At x at) (omega arith) p;
  }

  module _ {out : List ℕ} {at : S} {i : ℕ} (g : Stepped Kept f At n cell count out₀ out at i) where
    pub long : length out ≡ length out₀
    long = g.filled.long

    pub room : count ≤ length out
    room = omega (arith, g.count_is, long)

    pub stepped_next : i < count → {v : ℕ} {next : S} → v ≡ f (cell + i) → At (cell + i + 1) next
        → Stepped Kept f At n cell count out₀ (set out i v) next (i + 1)
    stepped_next h {v} {next} e p = record {
      kept = g.kept;
      count_is = g.count_is;
      far = omega arith;
      filled = filled_more f cell out₀ out i v g.filled (omega (arith, g.count_is)) e;
      state = subst (λ (x : ℕ). At x next) (omega arith) p;
    }

    pub stepped_all : count ≤ i → Ran f n cell out₀ out count
    stepped_all h = record {
      count_is = g.count_is;
      list_is = g.filled.list ∙ ap (λ (k : ℕ). run f cell k ++ drop k out₀) (le_antisymm g.far h);
    }

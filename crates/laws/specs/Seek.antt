-- Looking for the place of a value along a rule, by one state that steps from place to place; At and Kept as in Stepped. Over any rule and
-- any state. Rests on Position.
use Rattle.std.specs.Prelude.{◌≡◌, ℕ, ◌+◌, ◌≤◌, ◌<◌, length, drop}
use Rattle.std.proofs.Common.{sym, ap, ◌∙◌, zero-add, add-zero, le_antisymm, arith}
use Rattle.laws.specs.Run.{run, length_run}
use Rattle.laws.specs.Position.{position, position_here, position_later, position_end}
use Rattle.laws.specs.Shared.{run_at}

-- a is not the value of a place before t
pub record Seeking {S : Type 0} (Kept : Type 0) (f : ℕ → ℕ) (At : ℕ → S → Type 0) (a n : ℕ) (at : S) (t : ℕ) : Type 0 where
  pub kept : Kept
  pub far : t ≤ n
  pub state : At t at
  pub left : position a (run f 0 n) ≡ t + position a (drop t (run f 0 n))

module _ {S : Type 0} {Kept : Type 0} {f : ℕ → ℕ} {At : ℕ → S → Type 0} {a n : ℕ} where
  pub seek_first : {at : S} → Kept → At 0 at → Seeking Kept f At a n at 0
  seek_first k p = record { kept = k; far = omega arith; state = p; left = sym (zero-add (position a (run f 0 n))) }

  module _ {at : S} {t : ℕ} (g : Seeking Kept f At a n at t) where
    before_end : t < n → t < length (run f 0 n)
    before_end h = omega (arith, length_run f 0 n)

    -- this is its place
    pub seek_here : t < n → f t ≡ a → t ≡ position a (run f 0 n)
    seek_here h e =
        sym (g.left ∙ ap (λ (x : ℕ). t + x) (position_here a (run f 0 n) t (before_end h) (run_at f n t h ∙ e)) ∙ add-zero t)

    -- it is not, and the state steps on
    pub seek_next : t < n → (f t ≡ a → ⊥) → {next : S} → At (t + 1) next → Seeking Kept f At a n next (t + 1)
    seek_next h z p = record {
      kept = g.kept;
      far = omega arith;
      state = p;
      left = omega (arith, g.left, position_later a (run f 0 n) t (before_end h) (λ e. z (sym (run_at f n t h) ∙ e)));
    }

    -- no place has the value
    pub seek_end : n ≤ t → t ≡ position a (run f 0 n)
    seek_end h =
        sym (g.left ∙ ap (λ (x : ℕ). t + x) (position_end a (run f 0 n) t (le_antisymm g.far h ∙ sym (length_run f 0 n))) ∙ add-zero t)

-- A walk that meets no padding writes the rule itself, cell after cell. Rests on Keep and Cut.
use Prim.Native.Nat.{ℕ, zero, suc, min, ◌+◌, ◌-◌, ◌≤◌, ◌<◌}
use Rattle.std.specs.Prelude.{Bool, true, ◌≡◌, length, drop}
use mathlib.Core.List.{List, ◌∷◌, ◌++◌}
use Rattle.std.proofs.Math.Path.{refl}
use Rattle.std.proofs.Common.{sym, ap, ◌∙◌, lt-ltb}
use native.Mathlib.Omega.{arith}
use Rattle.laws.specs.Run.{run, length_run}
use Rattle.laws.specs.Lanes.{Ran}
use Rattle.laws.specs.Once.{inside}
use Rattle.laws.specs.Keep.{keep, wrote, steps}
use Rattle.laws.specs.Cut.{wrote_keep}

module _ {A : Type 0} (f : ℕ → A) (ok : A → Bool) where
  -- none of the n cells from c on is padding
  abbrev pub Bare : ℕ → ℕ → Type 0
  Bare c n = (x : ℕ) → c ≤ x → x < c + n → ok (f x) ≡ true

  pub keep_bare : (c n : ℕ) → Bare c n → keep f ok c n ≡ run f c n
  unfolding keep
  keep_bare c zero h = refl
  keep_bare c (suc n) h =
      rw (h c (omega arith) (omega arith)) (ap (λ (l : List A). f c ∷ l) (keep_bare (suc c) n (λ x l m. h x (omega arith) (omega arith))))

  pub steps_bare : (c n room : ℕ) → Bare c n → steps f ok c n room ≡ min room n
  unfolding steps
  steps_bare c zero room h = omega arith
  steps_bare c (suc n) zero h = omega arith
  steps_bare c (suc n) (suc room) h =
      rw (h c (omega arith) (omega arith)) (omega (arith, steps_bare (suc c) n room (λ x l m. h x (omega arith) (omega arith))))

  pub wrote_bare : (c n room : ℕ) → Bare c n → wrote f ok c n room ≡ run f c (min room n)
  wrote_bare c n room h =
      wrote_keep f ok c n room
      ∙ ap (λ (m : ℕ). keep f ok c m) (steps_bare c n room h)
      ∙ keep_bare c (min room n) (λ x l m. h x l (omega arith))

-- a walk of a rule whose entries are all below n, over n cells
module _ {f : ℕ → ℕ} {n : ℕ} (below : (x : ℕ) → x < n → f x < n) {cell count : ℕ} {old new : List ℕ} (r : Ran f n cell old new count) where
  bare : Bare f (inside n) cell (n - cell)
  bare x l h = lt-ltb (f x) n (below x (omega arith))

  list : wrote f (inside n) cell (n - cell) (length old) ≡ run f cell count
  list = wrote_bare f (inside n) cell (n - cell) (length old) bare ∙ ap (run f cell) (sym r.count_is)

  pub ran_written : count ≡ length (wrote f (inside n) cell (n - cell) (length old))
  ran_written = sym (ap length list ∙ length_run f cell count)

  pub ran_cells : count ≡ steps f (inside n) cell (n - cell) (length old)
  ran_cells = r.count_is ∙ sym (steps_bare f (inside n) cell (n - cell) (length old) bare)

  pub ran_slice : new ≡ wrote f (inside n) cell (n - cell) (length old) ++ drop (length (wrote f (inside n) cell (n - cell) (length old))) old
  ran_slice = r.list_is ∙ ap (λ (l : List ℕ). l ++ drop count old) (sym list) ∙ ap (λ (k : ℕ). wrote f (inside n) cell (n - cell) (length old) ++ drop k old) ran_written

-- A wrong build, stated as a definition: one that takes a value of zero for padding and skips it; and where it differs. Both sides are computed, for
-- two symbols that change places.
use Rattle.std.specs.Prelude.{ℕ, ◌-◌, cond, List, [], ◌∷◌, ◌≡◌, refl, eqb, get_or}
use Rattle.laws.specs.Run.{run}
use Rattle.laws.specs.Move.{gather}

-- out[t] = in[f t], but where that is 0 the output keeps what it held
unfoldable pub zero_skipped : (ℕ → ℕ) → ℕ → List ℕ → List ℕ → List ℕ
zero_skipped f n xs old = run (λ t. cond (eqb (get_or xs (f t) 0) 0) (get_or old t 0) (get_or xs (f t) 0)) 0 n

-- 0 and 5 into an output of 7s: 5 and 0, where this build leaves 5 and 7
pub zero_moved : gather {A = ℕ} (λ t. 1 - t) 2 0 (0 ∷ 5 ∷ []) ≡ 5 ∷ 0 ∷ []
unfolding gather
zero_moved = refl

pub zero_lost : zero_skipped (λ t. 1 - t) 2 (0 ∷ 5 ∷ []) (7 ∷ 7 ∷ []) ≡ 5 ∷ 7 ∷ []
unfolding zero_skipped
zero_lost = refl

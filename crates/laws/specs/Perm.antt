-- Two rules that undo each other below n: each number below n is used exactly once, either way.
use Rattle.std.specs.Prelude.{◌≡◌, ℕ, ◌<◌}
use Rattle.std.proofs.Common.{sym, ap, ◌∙◌}

pub record Perm (n : ℕ) (l m : ℕ → ℕ) : Type 0 where
  pub l_below : (t : ℕ) → t < n → l t < n
  pub m_below : (k : ℕ) → k < n → m k < n
  pub l_of_m : (k : ℕ) → k < n → l (m k) ≡ k
  pub m_of_l : (t : ℕ) → t < n → m (l t) ≡ t

-- the same the other way round
pub swapped : {n : ℕ} {l m : ℕ → ℕ} → Perm n l m → Perm n m l
swapped p = record { l_below = p.m_below; m_below = p.l_below; l_of_m = p.m_of_l; m_of_l = p.l_of_m }

-- no number twice
pub once : {n : ℕ} {l m : ℕ → ℕ} → Perm n l m → (i j : ℕ) → i < n → j < n → l i ≡ l j → i ≡ j
once {m = m} p i j hi hj e = sym (p.m_of_l i hi) ∙ ap m e ∙ p.m_of_l j hj

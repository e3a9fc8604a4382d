-- What value t makes of position L(t), stored there for every t, is by input index what position k becomes by value M(k).
use Rattle.std.specs.Prelude.{ℕ, ◌<◌, List, ◌≡◌, length}
use Rattle.std.proofs.Math.Path.{ap}
use Rattle.std.proofs.Common.{◌∙◌, zero-add, arith}
use Rattle.std.specs.Float.{nan}
use Rattle.std.proofs.Math.ListN.{get_or}
use Rattle.laws.specs.Perm.{Perm}
use Rattle.laws.specs.Run.{run, get_or_run, run_same}
use Rattle.laws.specs.Move.{gather, scatter, scatter_is}
use Rattle.sets.specs.declared.Set.{Set}
use Rattle.families.specs.Rules.{L, M}
use Rattle.positions.specs.declared.Running.{Running}
use Rattle.positions.specs.Heard.{Reception, Kept, held, heard}
use Rattle.adders.specs.Lines.{heard_at}

-- position k and the value that goes there
abbrev pub heard_in : Set → Reception → Kept → ℕ → Running
heard_in s b h k = heard (get_or b.present (M s k) 0) (get_or b.received (M s k) nan) (held h k)

module _ (s : Set) (b : Reception) (h : Kept) (perm : Perm s.n (L s) (M s)) {A : Type 0} (part : Running → A) where
  pub placed : (z : A) (old : List A) → length old ≡ s.n
      → scatter (L s) s.n z (run (λ t. part (heard_at (L s) b h t)) 0 s.n) old ≡ run (λ k. part (heard_in s b h k)) 0 s.n
  unfolding gather
  placed z old e =
      scatter_is perm z (run (λ t. part (heard_at (L s) b h t)) 0 s.n) old e
      ∙ run_same (λ k. get_or (run (λ t. part (heard_at (L s) b h t)) 0 s.n) (M s k) z) (λ k. part (heard_in s b h k)) 0 s.n (λ k l. at k (omega arith))
    where
      at : (k : ℕ) → k < s.n → get_or (run (λ t. part (heard_at (L s) b h t)) 0 s.n) (M s k) z ≡ part (heard_in s b h k)
      at k l =
          get_or_run (λ t. part (heard_at (L s) b h t)) 0 s.n (M s k) z (perm.m_below k l)
          ∙ ap (λ (t : ℕ). part (heard_at (L s) b h t)) (zero-add (M s k))
          ∙ ap (λ (x : ℕ). part (heard (get_or b.present (M s k) 0) (get_or b.received (M s k) nan) (held h x))) (perm.l_of_m k l)

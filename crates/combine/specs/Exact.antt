-- A position's sum is exact while all values that it received since its count was 0 are whole eighths and their magnitudes total at most 2,097,152.
use Rattle.std.specs.Prelude.{ℕ, ◌+◌, ◌*◌, ◌^◌, ◌<◌, ◌≤◌, false, true, List, [], ◌∷◌, ◌≡◌, Float, length}
use Rattle.std.proofs.Common.{sym, subst, add-zero, zero-add, add_assoc, arith, eq-eqb}
use Rattle.std.specs.Float.Ieee.{add}
use Rattle.std.specs.Float.{binary32}
use Rattle.std.specs.Float.Ieee.Exact.{HasValue}
use Rattle.sets.specs.declared.Set.{Set}
use Rattle.positions.specs.declared.Running.{Running}
use Rattle.positions.specs.Heard.{Reception, Kept, held}
use Rattle.combine.specs.Calls.{Calls, went_to, in_turn, sum_by, counted}
use Rattle.combine.specs.Eighths.{Worth, above, below, add_exact}

-- values that are whole eighths: those above zero total p of them, and those below n. (A zero of either sign is 0 of them.)
pub data Eighths : List Float → ℕ → ℕ → Type 0 where
  none : Eighths [] 0 0
  rise : (v : Float) (vs : List Float) (k p n : ℕ) → HasValue v false k 8 → Eighths vs p n → Eighths (v ∷ vs) (k + p) n
  fall : (v : Float) (vs : List Float) (k p n : ℕ) → HasValue v true k 8 → Eighths vs p n → Eighths (v ∷ vs) p (k + n)

-- others added to a value
in_turn_exact : (a : Float) (vs : List Float) (q o p n : ℕ) → Worth a q o → Eighths vs p n → q + o + (p + n) ≤ 2 ^ 24 → Worth (in_turn a vs) (q + p) (o + n)
in_turn_exact a _ q o _ _ w none l = rw (add-zero, add-zero) w
in_turn_exact a _ q o _ _ w (rise v vs k p n h r) l =
    rw (← add_assoc q k p)
    (in_turn_exact (add binary32 a v) vs (q + k) o p n
    (rw add-zero at (add_exact a v q o k 0 w (above v k k 0 h (omega arith)) (omega arith) (omega arith))) r (omega arith))
in_turn_exact a _ q o _ _ w (fall v vs k p n h r) l =
    rw (← add_assoc o k n)
    (in_turn_exact (add binary32 a v) vs q (o + k) p n
    (rw add-zero at (add_exact a v q o 0 k w (below v k 0 k h (omega arith)) (omega arith) (omega arith))) r (omega arith))

-- from a count of 0 on, where anything was received
from_none : (r : Running) (vs : List Float) (p n : ℕ) → r.count ≡ 0 → 0 < length vs → Eighths vs p n → p + n ≤ 2 ^ 24 → Worth (sum_by r vs) p n
from_none r _ _ _ c some none l = absurd (omega arith)
from_none r _ _ _ c some (rise v vs k p n h t) l =
    rw (eq-eqb r.count 0 c) (subst (Worth (in_turn v vs) (k + p)) (zero-add n) (in_turn_exact v vs k 0 p n (above v k k 0 h (omega arith)) t (omega arith)))
from_none r _ _ _ c some (fall v vs k p n h t) l =
    rw (eq-eqb r.count 0 c) (subst (λ (x : ℕ). Worth (in_turn v vs) x (k + n)) (zero-add p) (in_turn_exact v vs 0 k p n (below v k 0 k h (omega arith)) t (omega arith)))

pub sum_exact : (s : Set) (k : ℕ) → k < s.n → {h h' : Kept} {bs : List Reception} → Calls s h bs h' → (p n : ℕ) → (held h k).count ≡ 0 → 0 < length (went_to s bs k)
    → Eighths (went_to s bs k) p n → p + n ≤ 8 * 2097152 → Worth (held h' k).sum p n
sum_exact s k l {h} {h'} {bs} calls p n c some e m =
    subst (λ (x : Running). Worth x.sum p n) (sym (counted s k l calls)) (from_none (held h k) (went_to s bs k) p n c some e (omega arith))

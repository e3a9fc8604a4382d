-- The walks of a spatial stream over how far it is turned: what they write on either side of the seam, and that the turn of its numbers makes them
-- the walks of its rule. Rests on Third and Turned of crate carrier.
use Rattle.std.specs.Prelude.{ℕ, ◌+◌, ◌-◌, ◌*◌, ◌%◌, ◌≤◌, ◌<◌, List, ◌≡◌, length}
use Rattle.std.proofs.Common.{sym, ◌∙◌}
use Rattle.std.proofs.Math.Path.{ap}
use Rattle.std.proofs.Math.Nat.{mod-eq_of_lt, add-mod_right}
use native.Mathlib.Omega.{arith}
use Rattle.laws.specs.Loop.{by}
use Rattle.laws.specs.Walk.{Rule}
use Rattle.carrier.specs.Block.{Block, Whole, block}
use Rattle.carrier.specs.declared.Carrier.{Carrier}
use Rattle.carrier.specs.Formula.{carrier_l, carrier_m}
use Rattle.carrier.specs.Third.{turn, third_step, third_back, spatial_l, spatial_m, spatial_rule}
use Rattle.carrier.proofs.Once.{carrier_once}
use Rattle.carrier.proofs.Turned.{turn_below}
use Rattle.carrier_turned.specs.declared.stream.Stream.{Stream}

-- L and M of the two steps, turned by v
unfoldable pub turned_l : ℕ → ℕ → ℕ → ℕ → ℕ → ℕ
turned_l d n s v t = carrier_l d n s ((t + v) % n)

unfoldable pub turned_m : ℕ → ℕ → ℕ → ℕ → ℕ → ℕ
turned_m d n s v k = (carrier_m d n s k + n - v) % n

-- a turn of a block, and a cell of it, or the one behind its last
pub record Within (d n s v cell : ℕ) : Type 0 where
  pub at : Block d n s cell
  pub turn_in : v < n

pub within : (b : Carrier) {v cell : ℕ} → v < b.n → cell ≤ b.n → Within b.d b.n b.s v cell
within b h l = record { at = block b.whole l; turn_in = h }

-- the block of a stream: its turn, its rule, and what holds of it
abbrev pub turn_by : Stream → ℕ
turn_by b = turn b.bits b.r b.stream

abbrev pub rule_by : Stream → Rule
rule_by b = spatial_rule b.steps.d b.steps.n b.steps.s b.bits b.r b.stream

pub record Spatial (b : Stream) : Type 0 where
  pub whole : Whole b.steps.d b.steps.n b.steps.s
  pub first : 1 ≤ b.stream
  pub last : b.stream ≤ 4
  pub below : 3 * (b.r * b.bits) < b.steps.n

-- every block of a stream is one
pub spatial : (b : Stream) → Spatial b
spatial b = record { whole = b.steps.whole; first = b.turned.0; last = b.turned.1; below = b.turned.2 }

-- its turn is below N
pub turn_in : {b : Stream} → Spatial b → turn_by b < b.steps.n
turn_in {b} h = turn_below b.steps.n b.bits b.r b.stream h.first h.last h.below

-- the pass that takes the turn off: what it requires, and what it makes of an address
pub record TakenOff (n v : ℕ) (out : List ℕ) : Type 0 where
  pub small : n < 65536
  pub turn_in : v < n
  pub below : (y : ℕ) → y < length out → by out y < n

abbrev pub off : ℕ → ℕ → ℕ → ℕ
off n v a = (a + n - v) % n

-- one address: below the turn N is added, else the turn is taken off
pub off_up : (n v a : ℕ) → v < n → a < v → a + (n - v) ≡ off n v a
off_up n v a h o =
    let e : a + n - v ≡ a + (n - v) = omega arith in
    sym (ap (λ (x : ℕ). x % n) e ∙ mod-eq_of_lt (let l : a + (n - v) < n = omega arith in l))

pub off_down : (n v a : ℕ) → v < n → a < n → v ≤ a → a - v ≡ off n v a
off_down n v a h l o =
    let e : a + n - v ≡ a - v + n = omega arith in
    sym (ap (λ (x : ℕ). x % n) e ∙ add-mod_right (a - v) n ∙ mod-eq_of_lt (let l : a - v < n = omega arith in l))

-- one position: before the seam it lies the turn ahead, and from the seam on as far behind it
module _ (d n s v t : ℕ) (h : v < n) (l : t < n) where
  pub ahead : t < n - v → carrier_l d n s (t + v) ≡ turned_l d n s v t
  unfolding turned_l
  ahead o = ap (carrier_l d n s) (sym (mod-eq_of_lt (let e : t + v < n = omega arith in e)))

  pub behind : n - v ≤ t → carrier_l d n s (t - (n - v)) ≡ turned_l d n s v t
  unfolding turned_l
  behind o =
      let e : t + v ≡ t - (n - v) + n = omega arith in
      ap (carrier_l d n s) (sym (ap (λ (x : ℕ). x % n) e ∙ add-mod_right (t - (n - v)) n ∙ mod-eq_of_lt (let m : t - (n - v) < n = omega arith in m)))

-- the block of a stream, by its turn
module _ {b : Stream} (h : Spatial b) {v : ℕ} (e : v ≡ turn_by b) where
  pub turn_lt : v < b.steps.n
  turn_lt = rw e (turn_in h)

-- its rule is the two steps', turned by it
module _ (b : Stream) {v : ℕ} (e : v ≡ turn_by b) where
  pub l_by : (t : ℕ) → turned_l b.steps.d b.steps.n b.steps.s v t ≡ (rule_by b).l t
  unfolding turned_l spatial_l third_back
  l_by t = ap (λ (v : ℕ). carrier_l b.steps.d b.steps.n b.steps.s ((t + v) % b.steps.n)) e

  pub m_by : (k : ℕ) → turned_m b.steps.d b.steps.n b.steps.s v k ≡ (rule_by b).m k
  unfolding turned_m spatial_m third_step
  m_by k = ap (λ (v : ℕ). (carrier_m b.steps.d b.steps.n b.steps.s k + b.steps.n - v) % b.steps.n) e

-- M of the two steps at a position, and the turn taken off it
pub m_lt : {b : Stream} → Spatial b → {k a : ℕ} → k < b.steps.n → a ≡ carrier_m b.steps.d b.steps.n b.steps.s k → a < b.steps.n
m_lt h l e = rw e ((carrier_once h.whole.size).m_below _ l)

pub off_of : (b : Stream) (k : ℕ) {a : ℕ} (v : ℕ) → a ≡ carrier_m b.steps.d b.steps.n b.steps.s k → off b.steps.n v a ≡ turned_m b.steps.d b.steps.n b.steps.s v k
unfolding turned_m
off_of b k v e = ap (off b.steps.n v) e

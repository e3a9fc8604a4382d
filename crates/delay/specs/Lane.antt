-- Ring by ring: what the bytes of one ring do, from where a machine stands. Bytes of different rings never meet, so a feed may take the rings
-- one after the other. These are definitions.
use Rattle.std.specs.Prelude.{ℕ, suc, ◌+◌, ◌-◌, ◌*◌, ◌≤◌, ◌<◌, cond, List, ◌≡◌, length, get_or, take, leb, ltb}
use Rattle.laws.specs.declared.Way.{Way}
use Rattle.delay.specs.Machine.{Machine, machine, Stand, offset, run_output, run_store}
use Rattle.delay.specs.Slots.{Inside}
use Rattle.delay.specs.Bytes.{ring_at, row_at, slot_at}

-- the store when i bytes have passed
unfoldable pub past : Machine → Stand → List ℕ → List ℕ → ℕ → List ℕ
past M R store input i = run_store (slot_at M R) suc 0 store (take i input)

-- the bytes of ring x below i are moved, and nothing else is touched
pub record Lane (M : Machine) (R : Stand) (x : ℕ) (store input out store' out' : List ℕ) (i : ℕ) : Type 0 where
  pub long : length store' ≡ length store
  pub room : length out' ≡ length out
  pub turned : (p : ℕ) → Inside M.step x p → get_or store' p 0 ≡ get_or (past M R store input i) p 0
  pub still : (p : ℕ) → (Inside M.step x p → ⊥) → get_or store' p 0 ≡ get_or store p 0
  pub written : (m : ℕ) → m < i → m < length input → ring_at M R m ≡ x → get_or out' m 0 ≡ get_or (run_output (slot_at M R) suc 0 store input) m 0
  pub kept : (m : ℕ) → (ring_at M R m ≡ x → ⊥) → get_or out' m 0 ≡ get_or out m 0

-- byte k is the first of ring x
pub record Leads (M : Machine) (R : Stand) (x k : ℕ) : Type 0 where
  pub few : k < M.branches
  pub here : ring_at M R k ≡ x

-- row is the place of ring x when n bytes have passed: that of its next byte
pub record Next (M : Machine) (R : Stand) (x n row : ℕ) : Type 0 where
  pub byte : ℕ
  pub low : n ≤ byte
  pub high : byte < n + M.branches
  pub here : ring_at M R byte ≡ x
  pub stands : row ≡ row_at M R byte

-- ring x lies at places first to last - 1 of the store
pub record Ring (M : Machine) (x first last : ℕ) : Type 0 where
  pub some : 0 < x
  pub few : x < M.branches
  pub begins : first ≡ offset M.step x
  pub ends : last ≡ first + M.step * x

-- a place, or the ring's first where it is past the ring's last
unfoldable pub wrap_of : ℕ → ℕ → ℕ → ℕ
wrap_of place first last = cond (leb last place) first place

-- of rest bytes, each b-th from the first on is the ring's: left of them
pub record Left (b rest left : ℕ) : Type 0 where
  pub few : b * left < rest + b
  pub all : rest ≤ b * left

-- how many bytes a ring has in whole turns and rest bytes more, its first being byte k
unfoldable pub count_of : ℕ → ℕ → ℕ → ℕ
count_of turns rest k = cond (ltb k rest) (turns + 1) turns

-- what a ring's loop does, whatever the machine of b branches that has the ring: byte i is its first, and goes to place; its next goes to place'
pub record Turned (b first last i place : ℕ) (store input out store' out' : List ℕ) (place' : ℕ) : Type 0 where
  pub lane : (way : Way) (s : ℕ) (hb : 0 < b) (hs : 0 < s) (R : Stand) (x : ℕ) → Ring (machine b s hb hs way) x first last → length store ≡ offset s b
      → Leads (machine b s hb hs way) R x i → place ≡ first + row_at (machine b s hb hs way) R i
      → Lane (machine b s hb hs way) R x store input out store' out' (length input) × Next (machine b s hb hs way) R x (length input) (place' - first)
  pub long : length store' ≡ length store
  pub room : length out' ≡ length out
  pub low : first ≤ place'
  pub high : place' < last

-- and what the loop of ring 0 does
pub record Passed (b i : ℕ) (input out out' : List ℕ) : Type 0 where
  pub lane : (way : Way) (s : ℕ) (hb : 0 < b) (hs : 0 < s) (R : Stand) (store : List ℕ) → Leads (machine b s hb hs way) R 0 i
      → Lane (machine b s hb hs way) R 0 store input out store out' (length input)
  pub room : length out' ≡ length out

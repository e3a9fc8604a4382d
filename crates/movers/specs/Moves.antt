-- Symbols moved by a list, either way, over any element: out[t] = in[L(t)] to interleave, out[L(t)] = in[t] to deinterleave. To deinterleave by L is
-- to gather by M, so both ways gather. Rests on Move and Blind of `laws`.
use Rattle.std.specs.Prelude.{ℕ, ◌≤◌, ◌<◌, List, map, ◌≡◌, refl, length}
use Rattle.std.proofs.Common.{sym, subst, arith}
use Rattle.laws.specs.declared.Way.{Way}
use Rattle.laws.specs.declared.Way.TheVariants.{Interleaver, Deinterleaver}
use Rattle.laws.specs.Perm.{Perm, swapped}
use Rattle.laws.specs.Move.{gather, scatter, gather_same, scatter_same, gather_any, scatter_any, scatter_is}
use Rattle.laws.specs.Blind.{gather_blind, scatter_blind}
use Rattle.laws.specs.Loop.{Within}
use Rattle.laws.specs.Walk.{Rule, in_way}

-- the other way
abbrev pub other : Way → Way
other Interleaver = Deinterleaver
other Deinterleaver = Interleaver

-- the two lists of a way undo each other
pub perm_in : (way : Way) {n : ℕ} (r : Rule) → Perm n r.l r.m → Perm n (in_way way n r).l (in_way (other way) n r).l
perm_in Interleaver r p = p
perm_in Deinterleaver r p = swapped p

-- a table holds so many addresses, and input and output are that long
pub record Fitting {A : Type 0} (table : List ℕ) (src dst : List A) : Type 0 where
  pub same : length dst ≡ length src
  pub room : length src ≤ length table
  pub within : Within table (length src) (length src)

module _ {A : Type 0} where
  -- n symbols moved by a list; z is getD's default, which no accepted call reads
  abbrev pub moved_by : Way → (ℕ → ℕ) → ℕ → A → List A → List A → List A
  moved_by Interleaver l n z src dst = gather l n z src
  moved_by Deinterleaver l n z src dst = scatter l n z src dst

  -- by a list that is the same below n
  pub moved_same : (way : Way) (f g : ℕ → ℕ) (n : ℕ) (z : A) (src dst : List A) → ((t : ℕ) → t < n → f t ≡ g t)
      → moved_by way f n z src dst ≡ moved_by way g n z src dst
  moved_same Interleaver f g n z src dst e = gather_same f g n z src e
  moved_same Deinterleaver f g n z src dst e = scatter_same f g n z src dst e

  module _ (way : Way) {n : ℕ} (r : Rule) (p : Perm n r.l r.m) (src dst : List A) where
    -- it gathers by the list of the way, whatever stood in the output
    pub moved_is : (z : A) → length dst ≡ n → moved_by way r.l n z src dst ≡ gather (in_way way n r).l n z src
    moved_is z e = go way
      where
        go : (way : Way) → moved_by way r.l n z src dst ≡ gather (in_way way n r).l n z src
        go Interleaver = refl
        go Deinterleaver = scatter_is p z src dst e

    -- z is never read
    pub moved_any : (y z : A) → length src ≡ n → moved_by way r.l n y src dst ≡ moved_by way r.l n z src dst
    moved_any y z e = go way
      where
        go : (way : Way) → moved_by way r.l n y src dst ≡ moved_by way r.l n z src dst
        go Interleaver = gather_any r.l n y z src (λ t h. subst (λ (k : ℕ). r.l t < k) (sym e) (p.l_below t h))
        go Deinterleaver = scatter_any r.l n y z src dst (omega arith)

-- every symbol changed by any function, it moves the changed symbols the same way
pub moved_blind : {A B : Type 0} (h : A → B) (way : Way) (f : ℕ → ℕ) (n : ℕ) (z : A) (src dst : List A)
    → moved_by way f n (h z) (map h src) (map h dst) ≡ map h (moved_by way f n z src dst)
moved_blind h Interleaver f n z src dst = gather_blind h f n z src
moved_blind h Deinterleaver f n z src dst = scatter_blind h f n z src dst

-- The two loops that move a block by a table of addresses, over any element: what holds at each turn. Rests on Fill and Move.
use Rattle.std.specs.Prelude.{◌≡◌, refl, List, ◌++◌, ℕ, ◌+◌, ◌≤◌, ◌<◌, set}
use Rattle.std.proofs.Common.{sym, ap, ◌∙◌, subst, le_antisymm, zero-add, add-one, arith, length-set}
use Rattle.std.proofs.Math.ListN.{length, get_or, get_or-append}
use Rattle.laws.specs.Run.{run, length_run, get_or_run}
use Rattle.laws.specs.Fill.{Filled, filled_none, filled_more, filled_all}
use Rattle.laws.specs.Move.{gather, scatter}

-- the rule that a table is
abbrev pub by : List ℕ → ℕ → ℕ
by table t = get_or table t 0

-- the first n addresses of a table are below k
abbrev pub Within : List ℕ → ℕ → ℕ → Type 0
Within table n k = (t : ℕ) → t < n → by table t < k

-- out[t] = in[table[t]] is done for the first i
pub record Gathered {A : Type 0} (table : List ℕ) (z : A) (src old new : List A) (i : ℕ) : Type 0 where
  pub far : i ≤ length old
  pub filled : Filled (λ t. get_or src (by table t) z) 0 old new i

-- out[table[t]] = in[t] is done for the first i
pub record Scattered {A : Type 0} (table : List ℕ) (z : A) (src old new : List A) (i : ℕ) : Type 0 where
  pub far : i ≤ length src
  pub list : new ≡ scatter (by table) i z src old
  pub long : length new ≡ length old

module _ {A : Type 0} (table : List ℕ) (z : A) (src old : List A) where
  pub gather_first : Gathered table z src old old 0
  gather_first = record { far = omega arith; filled = filled_none (λ t. get_or src (by table t) z) 0 old }

  pub gather_more : {new : List A} {i : ℕ} → Gathered table z src old new i → i < length new → Gathered table z src old (set new i (get_or src (by table i) z)) (i + 1)
  gather_more {new} {i} g h = record {
    far = omega (arith, g.filled.long);
    filled = filled_more (λ t. get_or src (by table t) z) 0 old new i (get_or src (by table i) z) g.filled (omega (arith, g.filled.long))
        (ap (λ (t : ℕ). get_or src (by table t) z) (sym (zero-add i)));
  }

  pub gather_all : {new : List A} {i : ℕ} → Gathered table z src old new i → length new ≤ i → new ≡ gather (by table) (length old) z src
  unfolding gather
  gather_all {new} {i} g h =
      filled_all (λ t. get_or src (by table t) z) 0 old new
      (subst (λ (k : ℕ). Filled (λ t. get_or src (by table t) z) 0 old new k) (let e : i ≡ length old = omega (arith, g.filled.long, g.far) in e) g.filled)

  pub scatter_first : Scattered table z src old old 0
  scatter_first = record { far = omega arith; list = refl; long = refl }

  pub scatter_more : {new : List A} {i : ℕ} → Scattered table z src old new i → i < length src → Scattered table z src old (set new (by table i) (get_or src i z)) (i + 1)
  scatter_more {new} {i} g h = record {
    far = omega arith;
    list = ap (λ (l : List A). set l (by table i) (get_or src i z)) g.list ∙ ap (λ (k : ℕ). scatter (by table) k z src old) (sym (add-one i));
    long = length-set new (by table i) (get_or src i z) ∙ g.long;
  }

  pub scatter_all : {new : List A} {i : ℕ} → Scattered table z src old new i → length src ≤ i → new ≡ scatter (by table) (length src) z src old
  scatter_all {new} {i} g h = g.list ∙ ap (λ (k : ℕ). scatter (by table) k z src old) (le_antisymm g.far h)

-- a table that begins with a rule, from a on, is the rule
pub by_run : (f : ℕ → ℕ) (a n : ℕ) (table rest : List ℕ) → table ≡ run f a n ++ rest → (t : ℕ) → t < n → by table t ≡ f (a + t)
by_run f a n table rest e t h =
    ap (λ (l : List ℕ). get_or l t 0) e
    ∙ get_or-append (run f a n) rest 0 t (subst (λ (x : ℕ). t < x) (sym (length_run f a n)) h)
    ∙ get_or_run f a n t 0 h

-- What one position becomes by one reception, in the sentences of change request 2.
use Rattle.std.specs.Prelude.{ℕ, ◌+◌, ◌≤◌, ◌<◌, Bool, true, false, cond, not, ◌&&◌, ◌||◌, List, ◌≢◌, ◌≡◌, refl, eqb, ltb, Float, length, get_or}
use Rattle.std.proofs.lemmas.Bool.{false≢true}
use Rattle.std.proofs.Common.{sym, arith, eq-eqb, ne_eqb, le-ltb}
use Rattle.std.proofs.Math.Decide.{ℕ_discrete}
use Rattle.std.specs.Float.{nan, binary32}
use Rattle.std.specs.Float.Ieee.{add}
use Rattle.std.specs.Float.Ieee.Scale.{finite}
use Rattle.positions.specs.declared.Running.{Running}
use Rattle.positions.specs.Finite.{finite_parts}

-- a running sum, and how many values it is of
abbrev pub running : Float → ℕ → Running
running s c = record { sum = s; count = c }

-- a received block in output order: its values, and a presence byte for each
pub record Reception : Type 0 where
  pub received : List Float
  pub present : List ℕ

abbrev pub reception : List Float → List ℕ → Reception
reception vs ps = record { received = vs; present = ps }

-- what is stored, by input index: sums and counts
pub record Kept : Type 0 where
  pub sums : List Float
  pub counts : List ℕ

abbrev pub kept : List Float → List ℕ → Kept
kept ss cs = record { sums = ss; counts = cs }

-- position k of it. nan and 0 are get_or's defaults: no accepted call reads them
abbrev pub held : Kept → ℕ → Running
held h k = running (get_or h.sums k nan) (get_or h.counts k 0)

-- a sum after a present value: the first is stored with its bits unchanged; a later one is added with one rounding
abbrev pub sum_after : Float → Running → Float
sum_after v r = cond (eqb r.count 0) v (add binary32 r.sum v)

-- one for a presence byte that is 1
abbrev pub one : ℕ → ℕ
one p = cond (eqb p 1) 1 0

-- a count after a presence byte
abbrev pub count_after : ℕ → ℕ → ℕ
count_after p c = cond (eqb p 1) (c + 1) c

-- one reception at a position: a blank changes nothing; a present value is stored or added, and the count rises by one
abbrev pub heard : ℕ → Float → Running → Running
heard p v r = running (cond (eqb p 1) (sum_after v r) r.sum) (count_after p r.count)

-- 13 at a position: a present value, a stored sum whose count isn't 0, or the sum of these two isn't finite
unfoldable pub spoils : ℕ → Float → Running → Bool
spoils p v r =
    (eqb p 1 && not (finite v))
    || ((not (eqb r.count 0) && not (finite r.sum))
    || (eqb p 1 && (not (eqb r.count 0) && not (finite (add binary32 r.sum v)))))

or_false : (b : Bool) → b ≡ (b || false)
or_false true = refl
or_false false = refl

-- which is asked of one float: of a present value, the sum that the position would have
pub present_spoils : (p : ℕ) (v : Float) (r : Running) → p ≡ 1 → not (finite (sum_after v r)) ≡ spoils p v r
unfolding spoils
present_spoils p v r e =
    rw (eq-eqb p 1 e) (go (eqb r.count 0) (finite v) (finite r.sum) (finite (add binary32 r.sum v)) (finite_parts binary32 r.sum v) v (add binary32 r.sum v) refl refl)
  where
    go : (none fv fs fa : Bool) → (fa ≡ true → (fs ≡ true) × (fv ≡ true)) → (x y : Float) → finite x ≡ fv → finite y ≡ fa
        → not (finite (cond none x y)) ≡ (not fv || ((not none && not fs) || (not none && not fa)))
    go true fv fs fa h x y p q = rw p (or_false (not fv))
    go false fv fs fa h x y p q = rw q (both fv fs fa h)
      where
        both : (fv fs fa : Bool) → (fa ≡ true → (fs ≡ true) × (fv ≡ true)) → not fa ≡ (not fv || (not fs || not fa))
        both false fs true h = absurd (false≢true (h refl).1)
        both true false true h = absurd (false≢true (h refl).0)
        both true true fa h = refl
        both true false false h = refl
        both false fs false h = refl

-- of a blank, the sum that is stored
pub blank_spoils : (p : ℕ) (v : Float) (r : Running) → p ≢ 1 → r.count ≢ 0 → not (finite r.sum) ≡ spoils p v r
unfolding spoils
blank_spoils p v r n c = rw (ne_eqb p 1 n, ne_eqb r.count 0 c) (or_false (not (finite r.sum)))

pub none_spoils : (p : ℕ) (v : Float) (r : Running) → p ≢ 1 → r.count ≡ 0 → false ≡ spoils p v r
unfolding spoils
none_spoils p v r n c = rw (ne_eqb p 1 n, eq-eqb r.count 0 c)

-- a count rises by one, or not at all
pub count_rise : (p c : ℕ) → count_after p c ≡ c + one p
count_rise p c = go (eqb p 1)
  where
    go : (t : Bool) → cond t (c + 1) c ≡ c + cond t 1 0
    go true = refl
    go false = omega arith

-- only a present value can take a count past 65,535, and only from there
pub full_is : (p c : ℕ) → c ≤ 65535 → (eqb p 1 && eqb c 65535) ≡ ltb 65535 (count_after p c)
full_is p c h = go (eqb p 1) (ℕ_discrete c 65535)
  where
    go : (b : Bool) → Dec (c ≡ 65535) → (b && eqb c 65535) ≡ ltb 65535 (cond b (c + 1) c)
    go true (yes e) = rw e
    go true (no n) = let z : c ≤ 65534 = omega (arith, h, n) in rw (ne_eqb c 65535 n) (sym (le-ltb 65535 (c + 1) (omega arith)))
    go false d = sym (le-ltb 65535 c h)

-- a reception at position a may be made
pub record Hears (p : ℕ) (v : Float) (a : ℕ) (h : Kept) : Type 0 where
  pub sums : a < length h.sums
  pub counts : a < length h.counts
  pub spare : (heard p v (held h a)).count ≤ 65535

-- The table of couples spread to that of their symbols, in place and from the back: what holds at each turn. Rests on the symbols of couples.
use Rattle.std.specs.Prelude.{Bool, true, false, cond, List, ◌≡◌, refl, ℕ, ◌+◌, ◌-◌, ◌*◌, ◌%◌, ◌≤◌, ◌<◌, eqb, length, set}
use Rattle.std.proofs.Common.{sym, ap, ◌∙◌, mod-lt, arith, length-set, get_or-set_same, get_or-set_other, eqb-true}
use Rattle.std.proofs.Math.Decide.{ℕ_discrete}
use Rattle.std.proofs.lemmas.Bool.{eqb-false}
use Rattle.laws.specs.Loop.{by}
use Rattle.couples.specs.Symbols.{symbol_l, symbol_at}

-- the first n entries are couples, and there is room for their symbols
pub record OfCouples (n : ℕ) (table : List ℕ) : Type 0 where
  pub room : 2 * n ≤ length table
  pub small : n ≤ 32768
  pub below : (k : ℕ) → k < n → by table k < n

-- the first 2·n entries are the symbols of the couples
pub record Spread (n : ℕ) (old new : List ℕ) : Type 0 where
  pub long : length new ≡ length old
  pub symbols : (t : ℕ) → t < 2 * n → by new t ≡ symbol_l (by old) t

-- the two symbols of output j, whose couple is c, as they are written, odd being what 2 leaves of it
module _ (l : ℕ → ℕ) (j : ℕ) {c odd : ℕ} (e : c ≡ l j) (o : odd ≡ l j % 2) where
  by_parity : (b v : ℕ) {t : ℕ} → b < 2 → (odd ≡ 1 → v ≡ 2 * l j + (1 - b)) → (odd ≡ 0 → v ≡ 2 * l j + b) → t ≡ 2 * j + b
      → v ≡ symbol_l l t
  by_parity b v h p q f = go (eqb (l j % 2) 1) refl ∙ sym (symbol_at l j b h) ∙ ap (symbol_l l) (sym f)
    where
      go : (x : Bool) → eqb (l j % 2) 1 ≡ x → v ≡ cond (eqb (l j % 2) 1) (2 * l j + (1 - b)) (2 * l j + b)
      go true z = rw z (p (o ∙ eqb-true (l j % 2) 1 z))
      go false z = rw z (q (let n : ¬ (l j % 2 ≡ 1) = eqb-false (l j % 2) 1 z in omega (arith, mod-lt (l j) {m = 2} (omega arith))))

  symbol_first : c + c + odd ≡ symbol_l l (j + j)
  symbol_first = by_parity 0 (c + c + odd) (omega arith) (λ z. omega arith) (λ z. omega arith) (omega arith)

  symbol_second : c + c + (1 - odd) ≡ symbol_l l (j + j + 1)
  symbol_second = by_parity 1 (c + c + (1 - odd)) (omega arith) (λ z. omega arith) (λ z. omega arith) (omega arith)

-- the loop, back to output j: what lies before it is as it was
pub record Spreading (n : ℕ) (old new : List ℕ) (j : ℕ) : Type 0 where
  pub coupled : OfCouples n old
  pub far : j ≤ n
  pub long : length new ≡ length old
  pub before : (t : ℕ) → t < 2 * j → by new t ≡ by old t
  pub behind : (t : ℕ) → 2 * j ≤ t → t < 2 * n → by new t ≡ symbol_l (by old) t

-- one output further to the front, of which the entry is still the couple
module _ {n j : ℕ} {old new : List ℕ} (s : Spreading n old new j) (h : 0 < j) where
  room : 2 * j ≤ length new
  room = omega (arith, s.coupled.room, s.far, s.long)

  pub spread_next : (k c : ℕ) {odd : ℕ} → k ≡ j - 1 → c ≡ by new k → odd ≡ c % 2
      → Spreading n old (set (set new (k + k) (c + c + odd)) (k + k + 1) (c + c + (1 - odd))) k
  spread_next k c {odd} e f o = record {
    coupled = s.coupled;
    far = omega (arith, s.far);
    long = length-set (set new (k + k) v) (k + k + 1) w ∙ length-set new (k + k) v ∙ s.long;
    before = λ t l. other t (λ z. omega arith) (λ z. omega arith) ∙ s.before t (omega arith);
    behind = λ t l m. go t l m (ℕ_discrete t (k + k)) (ℕ_discrete t (k + k + 1));
  }
    where
      v : ℕ
      v = c + c + odd

      w : ℕ
      w = c + c + (1 - odd)

      was : c ≡ by old k
      was = f ∙ s.before k (omega arith)

      leaves : odd ≡ by old k % 2
      leaves = o ∙ ap (λ (x : ℕ). x % 2) was

      other : (t : ℕ) → (t ≡ k + k → ⊥) → (t ≡ k + k + 1 → ⊥) → by (set (set new (k + k) v) (k + k + 1) w) t ≡ by new t
      other t a b = get_or-set_other (set new (k + k) v) (k + k + 1) t w 0 b ∙ get_or-set_other new (k + k) t v 0 a

      go : (t : ℕ) → 2 * k ≤ t → t < 2 * n → Dec (t ≡ k + k) → Dec (t ≡ k + k + 1)
          → by (set (set new (k + k) v) (k + k + 1) w) t ≡ symbol_l (by old) t
      go t l m (yes a) b =
          get_or-set_other (set new (k + k) v) (k + k + 1) t w 0 (λ z. omega arith)
          ∙ rw a (get_or-set_same new (k + k) v 0 (omega (arith, room)) ∙ symbol_first (by old) k was leaves)
      go t l m (no a) (yes b) =
          rw b (get_or-set_same (set new (k + k) v) (k + k + 1) w 0 (omega (arith, room, length-set new (k + k) v)) ∙ symbol_second (by old) k was leaves)
      go t l m (no a) (no b) = other t a b ∙ s.behind t (omega arith) m

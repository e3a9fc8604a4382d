-- Calls one after the other, accepted and refused: what a position holds then. Its count is how many present values went to it more, and its sum is those
-- values added in order, one rounding each.
use Rattle.std.specs.Prelude.{ℕ, suc, ◌+◌, ◌<◌, Bool, true, false, cond, List, [], ◌∷◌, ◌++◌, ◌≢◌, ◌≡◌, refl, eqb, Float, length, get_or}
use Rattle.std.proofs.Common.{sym, ap, ap₂, ◌∙◌, add-zero, arith, ne_eqb}
use Rattle.std.specs.Float.{nan, binary32}
use Rattle.std.specs.Float.Ieee.{add}
use Rattle.laws.specs.Lent.{Lent, left_of, left_alone}
use Rattle.laws.specs.Outcome.{done, refused}
use Rattle.sets.specs.declared.Set.{Set}
use Rattle.sets.specs.declared.Refusal.{Refusal}
use Rattle.families.specs.Rules.{M}
use Rattle.positions.specs.declared.Running.{Running}
use Rattle.positions.specs.Heard.{running, Reception, Kept, kept, held, sum_after, heard}
use Rattle.combine.specs.Answer.{added_of, sums_of, counts_of}
use Rattle.combine.specs.Laws.{kept_after, refused_alone, hears}

-- calls on what is stored for a set, one after the other, from h to h': bs are the blocks of the accepted ones. A refused one may come at any place, with
-- any set and any block, lent the sums and the counts, parts of them, or something else
pub data Calls (s : Set) : Kept → List Reception → Kept → Type 0 where
  none : {h : Kept} → Calls s h [] h
  added : {h h' : Kept} {bs : List Reception} (b : Reception) → added_of s b h ≡ done tt → Calls s (kept_after s b h) bs h' → Calls s h (b ∷ bs) h'
  stopped : {h h' : Kept} {bs : List Reception} (s₁ : Set) (b : Reception) (lent : Kept) {x : Refusal} → added_of s₁ b lent ≡ refused x
      → (l : Lent h.sums lent.sums) (m : Lent h.counts lent.counts)
      → Calls s (kept (left_of l (sums_of s₁ b lent)) (left_of m (counts_of s₁ b lent))) bs h' → Calls s h bs h'

-- the value of a block at position k, if it is present
abbrev pub value_at : Set → Reception → ℕ → List Float
value_at s b k = cond (eqb (get_or b.present (M s k) 0) 1) (get_or b.received (M s k) nan ∷ []) []

-- the present values that go to position k, block by block
abbrev pub went_to : Set → List Reception → ℕ → List Float
went_to s [] k = []
went_to s (b ∷ bs) k = value_at s b k ++ went_to s bs k

-- a value and others after it, added in order, one rounding each
abbrev pub in_turn : Float → List Float → Float
in_turn a [] = a
in_turn a (v ∷ vs) = in_turn (add binary32 a v) vs

-- the sum of a position by the values that go to it: if its count is 0 the first of them is stored as it is
abbrev pub sum_by : Running → List Float → Float
sum_by r [] = r.sum
sum_by r (v ∷ vs) = in_turn (sum_after v r) vs

-- one value is heard, and then others
heard_first : (v : Float) (vs : List Float) (r : Running) → sum_by (heard 1 v r) vs ≡ in_turn (sum_after v r) vs
heard_first v [] r = refl
heard_first v (w ∷ vs) r = ap (λ (x : Float). in_turn x vs) (rw (ne_eqb (r.count + 1) 0 some))
  where
    some : r.count + 1 ≢ 0
    some e = omega arith

-- what a position holds after values
abbrev holding : Running → List Float → Running
holding r vs = running (sum_by r vs) (r.count + length vs)

hold_none : (r : Running) → holding r [] ≡ r
hold_none r = ap (running r.sum) (add-zero r.count)

hold_first : (v : Float) (vs : List Float) (r : Running) → holding (heard 1 v r) vs ≡ holding r (v ∷ vs)
hold_first v vs r = ap₂ running (heard_first v vs r) (let z : r.count + 1 + length vs ≡ r.count + suc (length vs) = omega arith in z)

module _ (s : Set) (k : ℕ) (l : k < s.n) where
  -- one accepted call
  one_more : (b : Reception) (h : Kept) → added_of s b h ≡ done tt → (vs : List Float) → holding (held (kept_after s b h) k) vs ≡ holding (held h k) (value_at s b k ++ vs)
  one_more b h e vs = ap (λ (r : Running). holding r vs) (hears s b h e k l) ∙ go (eqb (get_or b.present (M s k) 0) 1)
    where
      v : Float
      v = get_or b.received (M s k) nan

      go : (t : Bool) → holding (running (cond t (sum_after v (held h k)) (held h k).sum) (cond t ((held h k).count + 1) (held h k).count)) vs ≡ holding (held h k) (cond t (v ∷ []) [] ++ vs)
      go true = hold_first v vs (held h k)
      go false = refl

  pub counted : {h h' : Kept} {bs : List Reception} → Calls s h bs h'
      → held h' k ≡ running (sum_by (held h k) (went_to s bs k)) ((held h k).count + length (went_to s bs k))
  counted {h} none = sym (hold_none (held h k))
  counted {h} (added {bs = bs} b e c) = counted c ∙ one_more b h e (went_to s bs k)
  counted {h} (stopped {bs = bs} s₁ b lent e l m c) =
      let q = refused_alone s₁ b lent e in
      counted c
      ∙ ap₂ (λ (ss : List Float) (cs : List ℕ). holding (held (kept ss cs) k) (went_to s bs k))
      (left_alone l (ap (λ (x : Kept). x.sums) q)) (left_alone m (ap (λ (x : Kept). x.counts) q))

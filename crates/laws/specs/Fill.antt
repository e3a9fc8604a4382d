-- A slice that is filled from the front by a rule, entry after entry; the rest keeps its entries. Over any element.
use Rattle.std.specs.Prelude.{◌≡◌, refl, List, [], ◌∷◌, ◌++◌, ℕ, suc, ◌+◌, ◌<◌, length, get_or, set, drop}
use Rattle.std.proofs.Common.{sym, ap, ◌∙◌, append_assoc, append-nil, not-suc-le-zero, add-zero, add-one, length-set, drop-cons, get_or-append-add, get_or-drop}
use Rattle.std.proofs.lemmas.List.{set_at}
use Rattle.std.proofs.Math.Seq.{drop-length}
use Rattle.laws.specs.Run.{run, length_run, run_snoc}

-- new is old with its first i entries made by the rule f, from a on
pub record Filled {A : Type 0} (f : ℕ → A) (a : ℕ) (old new : List A) (i : ℕ) : Type 0 where
  pub list : new ≡ run f a i ++ drop i old
  pub long : length new ≡ length old

module _ {A : Type 0} (f : ℕ → A) (a : ℕ) where
  fill_next : (n : ℕ) (d : List A) → n < length d → set (run f a n ++ drop n d) n (f (a + n)) ≡ run f a (n + 1) ++ drop (n + 1) d
  fill_next n [] h = absurd (not-suc-le-zero h)
  fill_next n (x ∷ xs) h =
      ap (λ (l : List A). set (run f a n ++ l) n (f (a + n))) (drop-cons (x ∷ xs) n x h)
      ∙ set_at (run f a n) (get_or (x ∷ xs) n x) (drop (suc n) (x ∷ xs)) (f (a + n)) n (length_run f a n)
      ∙ sym (append_assoc (run f a n) (f (a + n) ∷ []) (drop (suc n) (x ∷ xs)))
      ∙ ap (λ (l : List A). l ++ drop (suc n) (x ∷ xs)) (sym (run_snoc f a n))
      ∙ ap (λ (m : ℕ). run f a m ++ drop m (x ∷ xs)) (sym (add-one n))

  module _ (old : List A) where
    pub filled_none : Filled f a old old 0
    filled_none = record { list = refl; long = refl }

    -- one entry more
    pub filled_more : (new : List A) (i : ℕ) (v : A) → Filled f a old new i → i < length old → v ≡ f (a + i) → Filled f a old (set new i v) (i + 1)
    filled_more new i v g h e = record {
      list =
          ap (λ (l : List A). set l i v) g.list
          ∙ ap (λ (x : A). set (run f a i ++ drop i old) i x) e
          ∙ fill_next i old h;
      long = length-set new i v ∙ g.long;
    }

    -- what comes next is what stood there
    pub filled_left : (new : List A) (i : ℕ) (z : A) → Filled f a old new i → get_or new i z ≡ get_or old i z
    filled_left new i z g =
        ap (λ (l : List A). get_or l i z) g.list
        ∙ ap (λ (k : ℕ). get_or (run f a i ++ drop i old) k z) (sym (add-zero (length (run f a i)) ∙ length_run f a i))
        ∙ get_or-append-add (run f a i) (drop i old) 0 z
        ∙ get_or-drop i old 0 z
        ∙ ap (λ (k : ℕ). get_or old k z) (add-zero i)

    -- all of it
    pub filled_all : (new : List A) → Filled f a old new (length old) → new ≡ run f a (length old)
    filled_all new g = g.list ∙ ap (λ (l : List A). run f a (length old) ++ l) (drop-length old) ∙ append-nil (run f a (length old))

-- Laws of a run, over any record and any bytes: it may be cut anywhere; records that stand for others give the same run; changing every
-- byte before it is changing every byte after it.
use Prim.Native.Nat.{ℕ, zero, suc, ◌+◌}
use Rattle.std.specs.Prelude.{◌≡◌, length, set, replicate}
use Rattle.std.proofs.Math.Path.{refl, ap}
use Rattle.std.proofs.Common.{sym, ◌∙◌, add-zero, add-suc, suc-add}
use mathlib.Core.List.{List, [], ◌∷◌, ◌++◌, map}
use Rattle.std.proofs.Math.ListN.{get_or-map}
use Rattle.delay.specs.Machine.{Slot, through, place, gives, keeps, run_output, run_store, run_record}
use Rattle.delay.specs.Slots.{length_keeps}

module _ {A R : Type 0} (slot : R → Slot) (next : R → R) where
  pub output_cut : (xs ys : List A) (r : R) (store : List A)
      → run_output slot next r store (xs ++ ys) ≡ run_output slot next r store xs ++ run_output slot next (run_record next r xs) (run_store slot next r store xs) ys
  unfolding run_output run_store run_record
  output_cut [] ys r store = refl
  output_cut (x ∷ xs) ys r store = ap (λ (l : List A). gives (slot r) store x ∷ l) (output_cut xs ys (next r) (keeps (slot r) store x))

  pub store_cut : (xs ys : List A) (r : R) (store : List A)
      → run_store slot next r store (xs ++ ys) ≡ run_store slot next (run_record next r xs) (run_store slot next r store xs) ys
  unfolding run_store run_record
  store_cut [] ys r store = refl
  store_cut (x ∷ xs) ys r store = store_cut xs ys (next r) (keeps (slot r) store x)

  pub record_cut : (xs ys : List A) (r : R) → run_record next r (xs ++ ys) ≡ run_record next (run_record next r xs) ys
  unfolding run_record
  record_cut [] ys r = refl
  record_cut (x ∷ xs) ys r = record_cut xs ys (next r)

  pub length_output : (xs : List A) (r : R) (store : List A) → length (run_output slot next r store xs) ≡ length xs
  unfolding run_output
  length_output [] r store = refl
  length_output (x ∷ xs) r store = ap suc (length_output xs (next r) (keeps (slot r) store x))

  pub length_store : (xs : List A) (r : R) (store : List A) → length (run_store slot next r store xs) ≡ length store
  unfolding run_store
  length_store [] r store = refl
  length_store (x ∷ xs) r store = length_store xs (next r) (keeps (slot r) store x) ∙ length_keeps (slot r) store x

-- records of R that stand for those of Q
module _ {A R Q : Type 0} (slot : R → Slot) (next : R → R) (slot' : Q → Slot) (next' : Q → Q) (Stands : Q → R → Type 0)
    (slots : (q : Q) (r : R) → Stands q r → slot r ≡ slot' q) (nexts : (q : Q) (r : R) → Stands q r → Stands (next' q) (next r)) where
  pub output_alike : (xs : List A) (q : Q) (r : R) (store : List A) → Stands q r → run_output slot next r store xs ≡ run_output slot' next' q store xs
  unfolding run_output
  output_alike [] q r store h = refl
  output_alike (x ∷ xs) q r store h =
      rw (slots q r h) (ap (λ (l : List A). gives (slot' q) store x ∷ l) (output_alike xs (next' q) (next r) (keeps (slot' q) store x) (nexts q r h)))

  pub store_alike : (xs : List A) (q : Q) (r : R) (store : List A) → Stands q r → run_store slot next r store xs ≡ run_store slot' next' q store xs
  unfolding run_store
  store_alike [] q r store h = refl
  store_alike (x ∷ xs) q r store h = rw (slots q r h) (store_alike xs (next' q) (next r) (keeps (slot' q) store x) (nexts q r h))

  pub record_alike : (xs : List A) (q : Q) (r : R) → Stands q r → Stands (run_record next' q xs) (run_record next r xs)
  unfolding run_record
  record_alike [] q r h = h
  record_alike (x ∷ xs) q r h = record_alike xs (next' q) (next r) (nexts q r h)

pub record_count : {A : Type 0} (xs : List A) (t : ℕ) → run_record suc t xs ≡ t + length xs
unfolding run_record
record_count [] t = sym (add-zero t)
record_count (x ∷ xs) t = record_count xs (suc t) ∙ suc-add t (length xs) ∙ sym (add-suc t (length xs))

-- ---- every byte changed by g, from any type to any other

module _ {A B : Type 0} (g : A → B) where
  set_map : (l : List A) (i : ℕ) (a : A) → set (map g l) i (g a) ≡ map g (set l i a)
  set_map [] i a = refl
  set_map (x ∷ xs) zero a = refl
  set_map (x ∷ xs) (suc i) a = ap (λ (l : List B). g x ∷ l) (set_map xs i a)

  pub replicate_map : (n : ℕ) (a : A) → replicate n (g a) ≡ map g (replicate n a)
  replicate_map zero a = refl
  replicate_map (suc n) a = ap (λ (l : List B). g a ∷ l) (replicate_map n a)

  gives_map : (p : Slot) (store : List A) (b : A) → gives p (map g store) (g b) ≡ g (gives p store b)
  gives_map through store b = refl
  gives_map (place i) store b = get_or-map g store i b

  keeps_map : (p : Slot) (store : List A) (b : A) → keeps p (map g store) (g b) ≡ map g (keeps p store b)
  keeps_map through store b = refl
  keeps_map (place i) store b = set_map store i b

  module _ {R : Type 0} (slot : R → Slot) (next : R → R) where
    pub output_map : (xs : List A) (r : R) (store : List A) → run_output slot next r (map g store) (map g xs) ≡ map g (run_output slot next r store xs)
    unfolding run_output
    output_map [] r store = refl
    output_map (x ∷ xs) r store =
        rw (gives_map (slot r) store x, keeps_map (slot r) store x)
        (ap (λ (l : List B). g (gives (slot r) store x) ∷ l) (output_map xs (next r) (keeps (slot r) store x)))

    pub store_map : (xs : List A) (r : R) (store : List A) → run_store slot next r (map g store) (map g xs) ≡ map g (run_store slot next r store xs)
    unfolding run_store
    store_map [] r store = refl
    store_map (x ∷ xs) r store =
        ap (λ (l : List B). run_store slot next (next r) l (map g xs)) (keeps_map (slot r) store x) ∙ store_map xs (next r) (keeps (slot r) store x)

    pub record_map : (xs : List A) (r : R) → run_record next r (map g xs) ≡ run_record next r xs
    unfolding run_record
    record_map [] r = refl
    record_map (x ∷ xs) r = record_map xs (next r)

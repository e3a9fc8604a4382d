-- Lists one after the other, and each of them read back or stored: the part that stands at its place is it, and stores one behind the other are one store of all.
-- Over any element, and what the lists are made of.
use Rattle.std.specs.Prelude.{ℕ, suc, ◌+◌, ◌*◌, ◌≤◌, ◌<◌, List, [], ◌∷◌, ◌++◌, ◌≡◌, refl, length, get_or, take, drop, set}
use Rattle.std.proofs.Common.{append_assoc, sym, ap, ap₂, ◌∙◌, add-zero, suc-add, add-suc, mul-suc, mul-zero, add-one, arith, length-append, drop_of_length-le, take_at, drop_at, drop-cons}
use Rattle.std.proofs.lemmas.List.Edits.{sets}
use Rattle.std.proofs.Math.Seq.{length-sets, split_at}
use Rattle.laws.specs.Members.{chained}
use Rattle.laws.specs.Parts.{part}

module _ {A : Type 0} where
  -- a list stored, and then another right behind it
  pub sets_join : (l : List A) (i : ℕ) (vs ws : List A) → sets l i (vs ++ ws) ≡ sets (sets l i vs) (i + length vs) ws
  sets_join l i [] ws = rw add-zero
  sets_join l i (v ∷ vs) ws =
      sets_join (set l i v) (suc i) vs ws ∙ ap (λ (k : ℕ). sets (sets (set l i v) (suc i) vs) k ws) (suc-add i (length vs) ∙ sym (add-suc i (length vs)))

  pub sets_then : (o : List A) {p : List A} (at k : ℕ) (vs ws : List A) → p ≡ sets o at vs → at + length vs ≡ k → sets o at (vs ++ ws) ≡ sets p k ws
  sets_then o {p} at k vs ws e q = sets_join o at vs ws ∙ ap₂ (λ (l : List A) (i : ℕ). sets l i ws) (sym e) q

module _ {X A : Type 0} (piece : X → List A) where
  pub chained_join : (xs ys : List X) → chained piece (xs ++ ys) ≡ chained piece xs ++ chained piece ys
  chained_join [] ys = refl
  chained_join (x ∷ xs) ys =
      ap (λ (l : List A). piece x ++ l) (chained_join xs ys) ∙ sym (append_assoc (piece x) (chained piece xs) (chained piece ys))

  -- of pieces of one length
  pub chained_length : (w : ℕ) → ((x : X) → length (piece x) ≡ w) → (xs : List X) → length (chained piece xs) ≡ w * length xs
  chained_length w e [] = sym (mul-zero w)
  chained_length w e (x ∷ xs) =
      length-append (piece x) (chained piece xs) ∙ ap₂ ◌+◌ (e x) (chained_length w e xs) ∙ omega (arith, mul-suc w (length xs))

  -- piece i, at the place that the pieces before it end at
  pub chained_part : (xs : List X) (rest : List A) (i : ℕ) (z : X) {at n : ℕ} → i < length xs → length (chained piece (take i xs)) ≡ at → length (piece (get_or xs i z)) ≡ n
      → part at n (chained piece xs ++ rest) ≡ piece (get_or xs i z)
  chained_part xs rest i z {at} {n} h e q =
      let behind = chained piece (drop (suc i) xs) in
      let whole : chained piece xs ++ rest ≡ chained piece (take i xs) ++ (piece (get_or xs i z) ++ (behind ++ rest)) =
      ap (λ (l : List A). l ++ rest) (ap (chained piece) (split_at xs i z h) ∙ chained_join (take i xs) (get_or xs i z ∷ drop (suc i) xs))
      ∙ append_assoc (chained piece (take i xs)) (piece (get_or xs i z) ++ behind) rest
      ∙ ap (λ (l : List A). chained piece (take i xs) ++ l) (append_assoc (piece (get_or xs i z)) behind rest) in
      ap (part at n) whole
      ∙ ap (take n) (drop_at (chained piece (take i xs)) (piece (get_or xs i z) ++ (behind ++ rest)) at e)
      ∙ take_at (piece (get_or xs i z)) (behind ++ rest) n q

  -- a loop that stores the pieces of xs one behind the other from a place on: i are stored, and the next goes to `at`
  pub record Storing (xs : List X) (from : ℕ) (out₀ out : List A) (at i : ℕ) : Type 0 where
    pub here : i ≤ length xs
    pub size : length out ≡ length out₀
    pub same : sets out at (chained piece (drop i xs)) ≡ sets out₀ from (chained piece xs)

  pub storing_first : (xs : List X) (from : ℕ) (out₀ : List A) → Storing xs from out₀ out₀ from 0
  storing_first xs from out₀ = record { here = omega arith; size = refl; same = refl }

  module _ {xs : List X} {from : ℕ} {out₀ out : List A} {at i : ℕ} (p : Storing xs from out₀ out at i) where
    pub storing_end : length xs ≤ i → out ≡ sets out₀ from (chained piece xs)
    storing_end h = sym (rw (drop_of_length-le xs h)) ∙ p.same

    pub storing_more : i < length xs → {x : X} (z : X) → x ≡ get_or xs i z → {out' : List A} {next : ℕ} → out' ≡ sets out at (piece x) → at + length (piece x) ≡ next
        → Storing xs from out₀ out' next (i + 1)
    storing_more h {x} z q {out'} {next} e l =
        let split : drop i xs ≡ x ∷ drop (i + 1) xs = drop-cons xs i z h ∙ ap₂ (λ (a : X) (k : ℕ). a ∷ drop k xs) (sym q) (sym (add-one i)) in
        record {
          here = omega arith;
          size = ap length e ∙ length-sets out at (piece x) ∙ p.size;
          same =
              sym (sets_then out at next (piece x) (chained piece (drop (i + 1) xs)) e l)
              ∙ ap (λ (ys : List X). sets out at (chained piece ys)) (sym split)
              ∙ p.same;
        }

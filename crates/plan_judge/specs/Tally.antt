-- The tally of some positions: the first of them, and how many. What is tallied along a piece of L, and from piece to piece, is the tally of the wrong
-- positions.
use Rattle.std.specs.Prelude.{ℕ, suc, max, ◌+◌, ◌*◌, ◌-◌, ◌≤◌, ◌<◌, Bool, true, false, not, cond, ◌&&◌, List, [], ◌∷◌, ◌++◌, ◌≡◌, refl, eqb, ltb, length, get_or, take}
use Rattle.std.proofs.Common.{append-nil, sym, ap₂, ◌∙◌, add-zero, zero-add, arith, length-append, eq-eqb, ne_eqb, lt-ltb, le-ltb}
use Rattle.std.proofs.Math.Path.{ap}
use Rattle.std.proofs.Math.Nat.{sub-zero}
use Rattle.laws.specs.Run.{run, length_run, get_or_run}
use Rattle.laws.specs.Keep.{keep}
use Rattle.laws.specs.Cut.{keep_cut, kept_or_padding}
use Rattle.laws.specs.Bare.{keep_bare}
use Rattle.laws.specs.Kept.{passing, passing_same}
use Rattle.laws.specs.Shared.{run_at}
use Rattle.big_end.specs.Numbers.{pair_at}
use Rattle.sets.specs.declared.Set.{Set}
use Rattle.families.specs.Rules.{L}
use Rattle.pieces.specs.declared.Standing.{Standing}
use Rattle.pieces.specs.Pieces.{list_of, Stands, Pieced}
use Rattle.plan_form.specs.declared.Listing.{Listing}
use Rattle.plan_form.specs.Lists.{wrong, wrongs_from, wrongs, list_at, listed_length, listed_address}
use Rattle.plan_judge.specs.declared.Tally.{Tally}

abbrev pub tally : ℕ → ℕ → Tally
tally f c = record { first = f; count = c }

-- a tally and some positions more
abbrev pub tallied : Tally → List ℕ → Tally
tallied t ps = tally (cond (eqb t.count 0) (get_or ps 0 t.first) t.first) (t.count + length ps)

-- the tally of some positions
abbrev pub tally_of : List ℕ → Tally
tally_of ps = tallied (tally 0 0) ps

pub tallied_none : (t : Tally) → tallied t [] ≡ t
tallied_none t = ap₂ tally (go (eqb t.count 0)) (add-zero t.count)
  where
    go : (b : Bool) → cond b t.first t.first ≡ t.first
    go true = refl
    go false = refl

pub tallied_join : (t : Tally) (ps qs : List ℕ) → tallied (tallied t ps) qs ≡ tallied t (ps ++ qs)
tallied_join t [] qs = ap (λ (x : Tally). tallied x qs) (tallied_none t)
tallied_join t (p ∷ ps) qs =
    ap₂ tally (go (eqb t.count 0) refl) (omega (arith, length-append ps qs))
  where
    go : (b : Bool) → eqb t.count 0 ≡ b
        → cond (eqb (t.count + suc (length ps)) 0) (get_or qs 0 (cond (eqb t.count 0) p t.first)) (cond (eqb t.count 0) p t.first) ≡ cond (eqb t.count 0) p t.first
    go b e = rw (ne_eqb (t.count + suc (length ps)) 0 (λ z. omega arith))

-- positions in a row, return by return
module _ (t : Tally) (from : ℕ) where
  pub row_none : t ≡ tallied t (run (λ p. p) from 0)
  row_none = sym (tallied_none t)

  module _ {more : ℕ} (h : more ≡ 0 → ⊥) where
    some : more ≡ suc (more - 1)
    some = let z : ¬ (more ≡ 0) = h in omega arith

    front : (z : ℕ) → get_or (run (λ p. p) from more) 0 z ≡ from
    front z = ap (λ (k : ℕ). get_or (run (λ p. p) from k) 0 z) some

    pub row_first : t.count ≡ 0 → tally from (t.count + more) ≡ tallied t (run (λ p. p) from more)
    row_first e =
        ap₂ tally (sym (rw (eq-eqb t.count 0 e) (front t.first))) (omega (arith, length_run (λ (p : ℕ). p) from more))

    pub row_later : (t.count ≡ 0 → ⊥) → tally t.first (t.count + more) ≡ tallied t (run (λ p. p) from more)
    row_later n =
        ap₂ tally (sym (rw (ne_eqb t.count 0 n))) (omega (arith, length_run (λ (p : ℕ). p) from more))

-- a list has this address at a position
abbrev pub among : List ℕ → ℕ → ℕ → Bool
among xs p a = ltb p (length xs) && eqb (get_or xs p 0) a

module _ (f : List ℕ) (list : Listing) (p a : ℕ) where
  pub not_among : list.count ≤ p → false ≡ among (list_at f list) p a
  not_among h = sym (rw (le-ltb p (length (list_at f list)) (omega (arith, listed_length f list))))

  pub among_is : p < list.count → {v : ℕ} → v ≡ pair_at f (list.offset + 2 * p) → eqb v a ≡ among (list_at f list) p a
  among_is h {v} q =
      ap (λ (x : ℕ). eqb x a) (q ∙ sym (listed_address f list p h))
      ∙ sym (rw (lt-ltb p (length (list_at f list)) (omega (arith, listed_length f list))))

-- the tally with a position more, at which L has this address
abbrev pub tally_next : List ℕ → ℕ → ℕ → Tally → Tally
tally_next xs p a t = cond (among xs p a) t (tallied t (p ∷ []))

module _ (xs : List ℕ) (p a : ℕ) (t : Tally) {b : Bool} (e : b ≡ among xs p a) where
  pub next_right : b ≡ true → t ≡ tally_next xs p a t
  next_right q = sym (rw (sym e ∙ q))

  pub next_wrong : b ≡ false → {t' : Tally} → t' ≡ tallied t (run (λ p. p) p 1) → t' ≡ tally_next xs p a t
  next_wrong q g = g ∙ sym (rw (sym e ∙ q))

-- a position is wrong beside a piece that stands at `at` and on
abbrev pub beside : List ℕ → ℕ → List ℕ → ℕ → Bool
beside xs at piece p = not (among xs p (get_or piece (p - at) 0))

-- what tallying a piece asks: its positions and the tally are numbers of 32 bits
pub record Tallying (at : ℕ) (piece : List ℕ) (t : Tally) : Type 0 where
  pub far : at + length piece < 4294967296
  pub few : t.count ≤ at

-- along a piece: j positions are tallied
pub record Along (xs : List ℕ) (at : ℕ) (piece : List ℕ) (t₀ t : Tally) (j : ℕ) : Type 0 where
  pub here : j ≤ length piece
  pub few : t.count ≤ at + j
  pub same : t ≡ tallied t₀ (passing (beside xs at piece) at j)

pub along_first : (xs : List ℕ) (at : ℕ) (piece : List ℕ) (t : Tally) → t.count ≤ at → Along xs at piece t t 0
unfolding keep
along_first xs at piece t h = record { here = omega arith; few = omega arith; same = sym (tallied_none t) }

-- one position more
one_more : (ok : ℕ → Bool) (c n : ℕ) → passing ok c (n + 1) ≡ passing ok c n ++ cond (ok (c + n)) ((c + n) ∷ []) []
unfolding keep
one_more ok c n = keep_cut (λ p. p) ok c n 1

module _ {xs : List ℕ} {at : ℕ} {piece : List ℕ} {t₀ t : Tally} {j : ℕ} (r : Along xs at piece t₀ t j) where
  pub along_end : length piece ≤ j → t ≡ tallied t₀ (passing (beside xs at piece) at (length piece))
  along_end h = r.same ∙ ap (λ (k : ℕ). tallied t₀ (passing (beside xs at piece) at k)) (let e : j ≡ length piece = omega (arith, r.here) in e)

  pub along_more : j < length piece → {a : ℕ} → a ≡ get_or piece j 0 → {t' : Tally} → t' ≡ tally_next xs (at + j) a t → Along xs at piece t₀ t' (j + 1)
  along_more h {a} q {t'} g = go (among xs (at + j) a) refl
    where
      its_test : beside xs at piece (at + j) ≡ not (among xs (at + j) a)
      its_test = ap not (ap (λ (k : ℕ). among xs (at + j) (get_or piece k 0)) (let z : at + j - at ≡ j = omega arith in z) ∙ ap (among xs (at + j)) (sym q))

      grown : (b : Bool) → among xs (at + j) a ≡ b
          → passing (beside xs at piece) at (j + 1) ≡ passing (beside xs at piece) at j ++ cond (not b) ((at + j) ∷ []) []
      grown b e =
          one_more (beside xs at piece) at j
          ∙ ap (λ (b : Bool). passing (beside xs at piece) at j ++ cond b ((at + j) ∷ []) []) (its_test ∙ ap not e)

      go : (b : Bool) → among xs (at + j) a ≡ b → Along xs at piece t₀ t' (j + 1)
      go true e =
          let same-t : t' ≡ t = g ∙ rw e in
          record {
            here = omega arith;
            few = omega (arith, ap (λ (x : Tally). x.count) same-t, r.few);
            same = same-t ∙ r.same ∙ sym (ap (tallied t₀) (grown true e ∙ append-nil (passing (beside xs at piece) at j)));
          }
      go false e =
          let more-t : t' ≡ tallied t ((at + j) ∷ []) = g ∙ rw e in
          record {
            here = omega arith;
            few = omega (arith, ap (λ (x : Tally). x.count) more-t, r.few);
            same =
                more-t ∙ ap (λ (x : Tally). tallied x ((at + j) ∷ [])) r.same ∙ tallied_join t₀ (passing (beside xs at piece) at j) ((at + j) ∷ [])
                ∙ sym (ap (tallied t₀) (grown false e));
          }

-- from piece to piece: the positions before the next piece are tallied
pub record Comparing (s : Set) (xs : List ℕ) (w : Standing) (t : Tally) : Type 0 where
  pub stands : Stands s w
  pub few : t.count ≤ w.at
  pub same : t ≡ tally_of (passing (wrong xs (list_of s)) 0 w.at)

pub compare_first : (s : Set) (xs : List ℕ) {w : Standing} → Stands s w → w.at ≡ 0 → Comparing s xs w (tally 0 0)
unfolding keep
compare_first s xs {w} h e = record { stands = h; few = omega arith; same = sym (ap (λ (k : ℕ). tally_of (passing (wrong xs (list_of s)) 0 k)) e) }

module _ {s : Set} {xs : List ℕ} {w : Standing} {t : Tally} (r : Comparing s xs w t) {old new : List ℕ} {v : Standing} (q : Pieced s w old new v) where
  abbrev size : ℕ
  size = v.at - w.at

  abbrev piece : List ℕ
  piece = take size new

  pub many : length piece ≡ size
  many = ap length q.list ∙ length_run (L s) w.at size

  at_is : v.at ≡ w.at + size
  at_is = omega (arith, q.moved)

  -- the piece's address at a position is L's
  same_test : (x : ℕ) → w.at ≤ x → x < w.at + size → beside xs w.at piece x ≡ wrong xs (list_of s) x
  same_test x l h =
      let k = x - w.at in
      let a : get_or piece k 0 ≡ get_or (list_of s) x 0 =
      ap (λ (l : List ℕ). get_or l k 0) q.list
      ∙ get_or_run (L s) w.at size k 0 (omega arith) ∙ ap (L s) (let z : w.at + k ≡ x = omega arith in z)
      ∙ sym (run_at (L s) s.n x (omega (arith, q.stands.inside))) in
      ap not (ap (among xs x) a
      ∙ sym (ap (λ (b : Bool). ltb x (length xs) && (b && eqb (get_or xs x 0) (get_or (list_of s) x 0)))
      (lt-ltb x (length (list_of s)) (omega (arith, length_run (L s) 0 s.n, q.stands.inside)))))

  pub compare_more : {t' : Tally} → t' ≡ tallied t (passing (beside xs w.at piece) w.at (length piece)) → Comparing s xs v t'
  compare_more {t'} g = record {
    stands = q.stands;
    few = omega (arith, ap (λ (x : Tally). x.count) g, r.few, kept_or_padding (λ (p : ℕ). p) (beside xs w.at piece) w.at (length piece), many, at_is);
    same =
        g ∙ ap (λ (k : ℕ). tallied t (passing (beside xs w.at piece) w.at k)) many
        ∙ ap (λ (l : List ℕ). tallied t l) (passing_same (beside xs w.at piece) (wrong xs (list_of s)) w.at size same_test)
        ∙ ap (λ (x : Tally). tallied x (passing (wrong xs (list_of s)) w.at size)) r.same
        ∙ tallied_join (tally 0 0) (passing (wrong xs (list_of s)) 0 w.at) (passing (wrong xs (list_of s)) w.at size)
        ∙ ap tally_of (ap (λ (c : ℕ). passing (wrong xs (list_of s)) 0 w.at ++ passing (wrong xs (list_of s)) c size) (sym (zero-add w.at))
        ∙ sym (keep_cut (λ p. p) (wrong xs (list_of s)) 0 w.at size)
        ∙ ap (passing (wrong xs (list_of s)) 0) (sym at_is));
  }

-- L has ended
module _ {s : Set} {xs : List ℕ} {w : Standing} {t : Tally} (r : Comparing s xs w t) (h : s.n ≤ w.at) where
  at_end : w.at ≡ s.n
  at_end = omega (arith, r.stands.inside)

  long : length (list_of s) ≡ s.n
  long = length_run (L s) 0 s.n

  up_to : (m : ℕ) → max (length xs) (length (list_of s)) ≡ m → wrongs xs (list_of s) ≡ passing (wrong xs (list_of s)) 0 m
  unfolding wrongs_from
  up_to m e = ap (passing (wrong xs (list_of s)) 0) (sub-zero (max (length xs) (length (list_of s))) ∙ e)

  pub ended_even : length xs ≤ s.n → t ≡ tally_of (wrongs xs (list_of s))
  ended_even l = r.same ∙ ap (λ (k : ℕ). tally_of (passing (wrong xs (list_of s)) 0 k)) at_end ∙ ap tally_of (sym (up_to s.n (omega (arith, long))))

  -- what the list has beyond it is wrong
  surplus : (x : ℕ) → s.n ≤ x → x < s.n + (length xs - s.n) → wrong xs (list_of s) x ≡ true
  surplus x l b = rw (lt-ltb x (length xs) (omega arith), le-ltb x (length (list_of s)) (omega (arith, long)))

  pub ended_surplus : s.n < length xs → {t' : Tally} → t' ≡ tallied t (run (λ p. p) s.n (length xs - s.n)) → t' ≡ tally_of (wrongs xs (list_of s))
  ended_surplus l {t'} g =
      let more = length xs - s.n in
      g ∙ ap₂ tallied (r.same ∙ ap (λ (k : ℕ). tally_of (passing (wrong xs (list_of s)) 0 k)) at_end)
      (sym (keep_bare (λ p. p) (wrong xs (list_of s)) s.n more surplus))
      ∙ tallied_join (tally 0 0) (passing (wrong xs (list_of s)) 0 s.n) (passing (wrong xs (list_of s)) s.n more)
      ∙ ap tally_of (ap (λ (c : ℕ). passing (wrong xs (list_of s)) 0 s.n ++ passing (wrong xs (list_of s)) c more) (sym (zero-add s.n))
      ∙ sym (keep_cut (λ p. p) (wrong xs (list_of s)) 0 s.n more)
      ∙ sym (up_to (s.n + more) (omega (arith, long))))

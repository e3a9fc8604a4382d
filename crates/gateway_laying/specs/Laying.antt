-- The loops that lay a store out: the tests of the lists, entry after entry, share after share.
use Prim.Native.Nat.{ℕ, zero, suc, ◌+◌, ◌-◌, ◌*◌, ◌≤◌, ◌<◌}
use Rattle.std.specs.Prelude.{Bool, true, false, ◌&&◌, ◌≡◌, refl, length, get_or, take, drop}
use mathlib.Core.List.{List, [], ◌∷◌, ◌++◌, append-nil}
use Rattle.std.proofs.Math.Path.{sym, ap, ap₂}
use Rattle.std.proofs.Common.{◌∙◌, zero-add, add-one, drop_of_length-le, drop-cons, eq-eqb}
use native.Mathlib.Omega.{arith}
use Rattle.std.proofs.Math.ListN.{length-append, length-replicate}
use Rattle.std.proofs.lemmas.List.Edits.{sets}
use Rattle.laws.specs.Chained.{Storing, storing_first, storing_end, storing_more, sets_then, chained_length, chained_join}
use Rattle.laws.specs.Members.{chained, every, at_each}
use Rattle.laws.specs.Parts.{part, length_part, part_back, sets_whole}
use Rattle.laws.specs.Run.{run, length_run, get_or_run, run_snoc, mem_at}
use Rattle.big_end.specs.Numbers.{number_bytes}
use Rattle.delay.specs.Machine.{start_stand}
use Rattle.kinds.specs.declared.Stream.{Stream}
use Rattle.kinds.specs.Kinds.{known, sizes_of, sound, start_record}
use Rattle.streams.specs.Fed.{start_store}
use Rattle.streams.specs.Answers.{started_store}
use Rattle.gateway_form.specs.Form.{entry_place, entry_bytes}
use Rattle.gateway_form.specs.Back.{stand_length}
use Rattle.gateway_laying.specs.Laid.{start_of, store_length, laid_entry, laid_share, vessels, laid_out}

-- ---- a loop that tests a list: those before entry i pass

pub record Passing (test : ℕ → Bool) (l : List ℕ) (i : ℕ) : Type 0 where
  pub here : i ≤ length l
  pub same : every test (drop i l) ≡ every test l

pub passing_first : (test : ℕ → Bool) (l : List ℕ) → Passing test l 0
passing_first test l = record { here = omega arith; same = refl }

module _ {test : ℕ → Bool} {l : List ℕ} {i : ℕ} (g : Passing test l i) where
  pub passing_all : length l ≤ i → every test l ≡ true
  passing_all h = sym g.same ∙ rw (drop_of_length-le l h)

  module _ (h : i < length l) where
    from_here : (test (get_or l i 0) && every test (drop (i + 1) l)) ≡ every test l
    from_here = sym (ap (every test) (drop-cons l i 0 h ∙ ap (λ (k : ℕ). get_or l i 0 ∷ drop k l) (sym (add-one i)))) ∙ g.same

    pub passing_more : test (get_or l i 0) ≡ true → Passing test l (i + 1)
    passing_more t = record { here = omega arith; same = sym (rw t) ∙ from_here }

    pub passing_not : test (get_or l i 0) ≡ false → every test l ≡ false
    passing_not t = sym from_here ∙ rw t

-- ---- lengths

start_long : (k : ℕ) → length (start_record k).places ≡ 51
unfolding start_record start_stand
start_long k = refl

module _ (kinds directions fills : List ℕ) where
  pub entry_length : (i : ℕ) → length (laid_entry kinds directions i) ≡ 224
  unfolding laid_entry entry_bytes
  entry_length i =
      let s = start_record (get_or kinds i 0) in
      ap (λ (n : ℕ). suc (suc (suc (suc (suc (suc (suc (suc (suc (suc (suc (suc (suc (suc (suc (suc n)))))))))))))))) (stand_length s (start_long (get_or kinds i 0)))

  pub share_length : (i : ℕ) → length (laid_share kinds fills i) ≡ (sizes_of (get_or kinds i 0)).store
  unfolding start_store
  share_length i = length-replicate (sizes_of (get_or kinds i 0)).store (get_or fills i 0)

  pub entries_length : (xs : List ℕ) → length (chained (laid_entry kinds directions) xs) ≡ 224 * length xs
  entries_length xs = chained_length (laid_entry kinds directions) 224 entry_length xs

  pub shares_length : (i : ℕ) → entry_place (length kinds) + length (chained (laid_share kinds fills) (run (λ j. j) 0 i)) ≡ start_of kinds i
  unfolding start_of
  shares_length zero = omega arith
  shares_length (suc i) =
      let e : chained (laid_share kinds fills) (run (λ j. j) 0 (suc i)) ≡ chained (laid_share kinds fills) (run (λ j. j) 0 i) ++ laid_share kinds fills i =
      ap (chained (laid_share kinds fills)) (run_snoc (λ j. j) 0 i ∙ ap (λ (k : ℕ). run (λ j. j) 0 i ++ (k ∷ [])) (zero-add i))
      ∙ chained_join (laid_share kinds fills) (run (λ j. j) 0 i) (i ∷ [])
      ∙ ap (λ (l : List ℕ). chained (laid_share kinds fills) (run (λ j. j) 0 i) ++ l) (append-nil (laid_share kinds fills i)) in
      rw (e, length-append) (omega (arith, shares_length i, share_length i))

  pub laid_length : length (laid_out kinds directions fills) ≡ store_length kinds
  unfolding laid_out
  laid_length =
      length-append (number_bytes (length kinds)) (chained (laid_entry kinds directions) (vessels kinds) ++ chained (laid_share kinds fills) (vessels kinds))
      ∙ ap (λ (n : ℕ). 4 + n) (length-append (chained (laid_entry kinds directions) (vessels kinds)) (chained (laid_share kinds fills) (vessels kinds)))
      ∙ omega (arith, entries_length (vessels kinds), length_run (λ i. i) 0 (length kinds), shares_length (length kinds))

pub start_first : (kinds : List ℕ) → start_of kinds 0 ≡ entry_place (length kinds)
unfolding start_of
start_first kinds = refl

-- a share's end, and that no store is longer than 44,228 bytes
pub start_next : (kinds : List ℕ) (i : ℕ) → start_of kinds (i + 1) ≡ start_of kinds i + (sizes_of (get_or kinds i 0)).store
unfolding start_of
start_next kinds i = ap (start_of kinds) (add-one i)

pub start_low : (kinds : List ℕ) (i : ℕ) → start_of kinds i ≤ entry_place (length kinds) + 5304 * i
unfolding start_of
start_low kinds zero = omega arith
start_low kinds (suc i) = omega (arith, start_low kinds i, (sound (get_or kinds i 0)).low)

-- shares follow each other
pub start_rises : (kinds : List ℕ) (i d : ℕ) → start_of kinds i ≤ start_of kinds (i + d)
start_rises kinds i zero = rw (let e : i + 0 ≡ i = omega arith in e) (omega arith)
start_rises kinds i (suc d) =
    rw (let e : i + suc d ≡ i + d + 1 = omega arith in e) (omega (arith, start_next kinds (i + d), start_rises kinds i d))

pub start_inside : (kinds : List ℕ) (i : ℕ) → i < length kinds → start_of kinds (i + 1) ≤ store_length kinds
start_inside kinds i h =
    let e : i + 1 + (length kinds - (i + 1)) ≡ length kinds = omega arith in
    omega (arith, rw e at (start_rises kinds (i + 1) (length kinds - (i + 1))))

pub header_inside : (kinds : List ℕ) → entry_place (length kinds) ≤ store_length kinds
header_inside kinds = omega (arith, start_first kinds, start_rises kinds 0 (length kinds), ap (start_of kinds) (zero-add (length kinds)))

-- ---- the two loops, and the whole

-- vessel i of a list
pub vessel_at : (kinds : List ℕ) (i : ℕ) → i < length kinds → i ≡ get_or (vessels kinds) i 0
vessel_at kinds i h = sym (get_or_run (λ i. i) 0 (length kinds) i 0 h ∙ zero-add i)

pub vessels_long : (kinds : List ℕ) → length (vessels kinds) ≡ length kinds
vessels_long kinds = length_run (λ i. i) 0 (length kinds)

pub whole : (kinds directions fills o₀ : List ℕ) {o₁ o₂ o₃ : List ℕ} → length o₀ ≡ store_length kinds → o₁ ≡ sets o₀ 0 (number_bytes (length kinds))
    → o₂ ≡ sets o₁ 4 (chained (laid_entry kinds directions) (vessels kinds)) → o₃ ≡ sets o₂ (entry_place (length kinds)) (chained (laid_share kinds fills) (vessels kinds))
    → o₃ ≡ laid_out kinds directions fills
unfolding laid_out
whole kinds directions fills o₀ {o₁} {o₂} {o₃} l p q r =
    let es = chained (laid_entry kinds directions) (vessels kinds) in
    let ss = chained (laid_share kinds fills) (vessels kinds) in
    sym (sets_then o₀ 0 4 (number_bytes (length kinds)) (es ++ ss) p refl
    ∙ sets_then o₁ 4 (entry_place (length kinds)) es ss q (omega (arith, entries_length kinds directions fills (vessels kinds), vessels_long kinds))
    ∙ sym r)
    ∙ sets_whole o₀ (laid_out kinds directions fills) (l ∙ sym (laid_length kinds directions fills))

-- the loop over entries: i are stored, the next goes to `at`, and its share begins at share
pub record Entering (kinds directions store₀ store : List ℕ) (share at i : ℕ) : Type 0 where
  pub stored : Storing (laid_entry kinds directions) (vessels kinds) 4 store₀ store at i
  pub place : at ≡ entry_place i
  pub start : share ≡ start_of kinds i

pub entering_first : (kinds directions store₀ : List ℕ) → Entering kinds directions store₀ store₀ (entry_place (length kinds)) 4 0
entering_first kinds directions store₀ = record { stored = storing_first (laid_entry kinds directions) (vessels kinds) 4 store₀; place = refl; start = sym (start_first kinds) }

module _ {kinds directions store₀ store : List ℕ} {share at i : ℕ} (g : Entering kinds directions store₀ store share at i) where
  pub entering_end : length kinds ≤ i → store ≡ sets store₀ 4 (chained (laid_entry kinds directions) (vessels kinds))
  entering_end h = storing_end (laid_entry kinds directions) g.stored (omega (arith, vessels_long kinds))

  pub entering_more : i < length kinds → {s : Stream} → s ≡ start_record (get_or kinds i 0) → {store' : List ℕ}
      → store' ≡ sets store at (entry_bytes (get_or directions i 0) share s) → {n : ℕ} → n ≡ (sizes_of (get_or kinds i 0)).store
      → Entering kinds directions store₀ store' (share + n) (at + 224) (i + 1)
  unfolding laid_entry
  entering_more h q e l = record {
    stored =
        storing_more (laid_entry kinds directions) g.stored (omega (arith, vessels_long kinds)) 0 (vessel_at kinds i h)
        (rw (g.start, q) at e) (ap (λ (k : ℕ). at + k) (entry_length kinds directions [] i));
    place = omega (arith, g.place);
    start = ap₂ ◌+◌ g.start l ∙ sym (start_next kinds i);
  }

-- the loop over shares: i are stored, and the next begins at `at`
pub record Sharing (kinds fills store₀ store : List ℕ) (at i : ℕ) : Type 0 where
  pub stored : Storing (laid_share kinds fills) (vessels kinds) (entry_place (length kinds)) store₀ store at i
  pub start : at ≡ start_of kinds i

pub sharing_first : (kinds fills store₀ : List ℕ) → Sharing kinds fills store₀ store₀ (entry_place (length kinds)) 0
sharing_first kinds fills store₀ =
    record { stored = storing_first (laid_share kinds fills) (vessels kinds) (entry_place (length kinds)) store₀; start = sym (start_first kinds) }

module _ {kinds fills store₀ store : List ℕ} {at i : ℕ} (g : Sharing kinds fills store₀ store at i) where
  pub sharing_end : length kinds ≤ i → store ≡ sets store₀ (entry_place (length kinds)) (chained (laid_share kinds fills) (vessels kinds))
  sharing_end h = storing_end (laid_share kinds fills) g.stored (omega (arith, vessels_long kinds))

  pub sharing_more : i < length kinds → {store' : List ℕ} → store' ≡ sets store at (laid_share kinds fills i) → {n : ℕ} → n ≡ (sizes_of (get_or kinds i 0)).store
      → Sharing kinds fills store₀ store' (at + n) (i + 1)
  sharing_more h e l = record {
    stored =
        storing_more (laid_share kinds fills) g.stored (omega (arith, vessels_long kinds)) 0 (vessel_at kinds i h) e
        (ap (λ (k : ℕ). at + k) (share_length kinds [] fills i ∙ sym l));
    start = ap₂ ◌+◌ g.start l ∙ sym (start_next kinds i);
  }

-- a kind of a list that passes the test is known
pub kind_at : (kinds : List ℕ) (i : ℕ) → i < length kinds → every known kinds ≡ true → known (get_or kinds i 0) ≡ true
kind_at kinds i h e = at_each known kinds e (mem_at kinds 0 i h)

-- a machine of a known kind started in the n bytes from a place on, which are as many as its share has: the share is stored there
pub started_share : (kinds fills store : List ℕ) (at i n : ℕ) {vs : List ℕ} → known (get_or kinds i 0) ≡ true → n ≡ (sizes_of (get_or kinds i 0)).store → at + n ≤ length store
    → vs ≡ started_store (get_or kinds i 0) (get_or fills i 0) (part at n store) → take at store ++ (vs ++ drop n (drop at store)) ≡ sets store at (laid_share kinds fills i)
started_share kinds fills store at i n {vs} k e h q =
    let long = length_part at n store h in
    let new : vs ≡ laid_share kinds fills i = q ∙ rw (k, eq-eqb (length (part at n store)) (sizes_of (get_or kinds i 0)).store (long ∙ e)) in
    part_back store at n vs (ap length new ∙ share_length kinds [] fills i ∙ sym e) h ∙ ap (sets store at) new

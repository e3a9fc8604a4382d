-- A machine that stands within its ranges, taken byte after byte, is the machine byte by number: its run from there is a run over the byte
-- numbers 0, 1, .., and where it stands after t bytes is told.
use Prim.Native.Nat.{ℕ, zero, suc, ◌+◌, ◌-◌, ◌*◌, ◌%◌, ◌≤◌, ◌<◌}
use Rattle.std.specs.Prelude.{◌≡◌, ◌≢◌, length, get_or}
use Rattle.std.proofs.Math.Path.{refl, sym, ap}
use Rattle.std.proofs.Common.{◌∙◌, mod-lt, zero-add, mul-pos, le_refl, length-set, get_or-set_same, get_or-set_other}
use mathlib.Core.List.{List, [], ◌∷◌}
use Rattle.std.proofs.Math.Nat.{mod-eq_of_lt, mod-add-mod, div-eq_of_lt, add-zero}
use native.Mathlib.Omega.{arith}
use Rattle.std.proofs.Math.Decide.{dec_lt, ℕ_discrete}
use Rattle.std.proofs.lemmas.List.{length-replicate, get_or-replicate}
use Rattle.delay.specs.Machine.{Machine, Stand, slot_in, place_of, stepped, ring_now, slot_of, next_of, start_stand, run_output, run_store, run_record}
use Rattle.delay.specs.Cuts.{output_alike, store_alike, record_alike, record_count}
use Rattle.delay.specs.Bytes.{ring_at, row_at, slot_at, ring_few, ring_again, turn_apart, row_again}
use Rattle.delay.specs.Standing.{Within, After}

-- a place of the list of places, after a byte of ring x
stepped_other : (s x : ℕ) (ps : List ℕ) (i : ℕ) → x ≢ suc i → get_or (stepped s x ps) i 0 ≡ get_or ps i 0
stepped_other s zero ps i n = refl
stepped_other s (suc x) ps i n = get_or-set_other ps x i _ 0 (λ e. n (ap suc (sym e)))

stepped_same : (s x : ℕ) (ps : List ℕ) → 0 < x → x ≤ length ps → get_or (stepped s x ps) (x - 1) 0 ≡ (get_or ps (x - 1) 0 + 1) % (s * x)
stepped_same s zero ps h l = absurd (omega arith)
stepped_same s (suc x) ps h l =
    let e : suc x - 1 ≡ x = omega arith in
    rw e (get_or-set_same ps x _ 0 l)

stepped_long : (s x : ℕ) (ps : List ℕ) → length (stepped s x ps) ≡ length ps
stepped_long s zero ps = refl
stepped_long s (suc x) ps = length-set ps x _

module _ (M : Machine) (R : Stand) where
  after_none : Within M R → After M R 0 R
  unfolding row_at
  after_none w = record {
    branch = sym (ap (λ (n : ℕ). n % M.branches) (add-zero R.branch) ∙ mod-eq_of_lt w.branch);
    long = refl;
    rows = λ u h l p.
        let x = ring_at M R u in
        let small : u < M.branches = omega arith in
        sym (rw (div-eq_of_lt small, add-zero (place_of R x)) (mod-eq_of_lt (w.places x p (ring_few M R u))));
    others = λ i h. refl;
  }

  module _ (t : ℕ) (Q : Stand) (a : After M R t Q) where
    ring_now_lem : ring_now M Q ≡ ring_at M R t
    unfolding ring_at
    ring_now_lem = rw a.branch

    slot_now : slot_of M Q ≡ slot_at M R t
    unfolding slot_of slot_at
    slot_now = rw ring_now_lem (go (ring_at M R t) refl)
      where
        go : (x : ℕ) → ring_at M R t ≡ x → slot_in M.step x (place_of Q x) ≡ slot_in M.step x (row_at M R t)
        go zero e = refl
        go (suc x) e = ap (slot_in M.step (suc x)) (rw e at (a.rows t (le_refl t) (omega (arith, M.some_branches)) (omega (arith, e))))

    after_next : M.branches ≤ suc (length R.places) → After M R (suc t) (next_of M Q)
    unfolding next_of
    after_next long = rw ring_now_lem (record {
      branch = ap (λ (n : ℕ). (n + 1) % M.branches) a.branch ∙ mod-add-mod (R.branch + t) M.branches 1
          ∙ ap (λ (n : ℕ). n % M.branches) (let z : R.branch + t + 1 ≡ R.branch + suc t = omega arith in z);
      long = stepped_long M.step (ring_at M R t) Q.places ∙ a.long;
      rows = λ u h l p. go u h l p (dec_lt u (t + M.branches));
      others = λ i h. stepped_other M.step (ring_at M R t) Q.places i (λ e. omega (arith, ring_few M R t, e)) ∙ a.others i h;
    })
      where
        new : List ℕ
        new = stepped M.step (ring_at M R t) Q.places

        go : (u : ℕ) → suc t ≤ u → u < suc t + M.branches → 0 < ring_at M R u → Dec (u < t + M.branches)
            → get_or new (ring_at M R u - 1) 0 ≡ row_at M R u
        go u h l p (yes k) =
            stepped_other M.step (ring_at M R t) Q.places (ring_at M R u - 1) (λ e. turn_apart M R t u h k (omega (arith, e)))
            ∙ a.rows u (omega arith) k p
        go u h l p (no n) =
            let e : u ≡ t + M.branches = omega (arith, n) in
            let x : ring_at M R u ≡ ring_at M R t = ap (ring_at M R) e ∙ ring_again M R t in
            let q : 0 < ring_at M R t = omega arith in
            rw (x, e, row_again M R t)
            (stepped_same M.step (ring_at M R t) Q.places q (omega (arith, ring_few M R t, a.long))
            ∙ ap (λ (n : ℕ). (n + 1) % (M.step * ring_at M R t)) (a.rows t (le_refl t) (omega (arith, M.some_branches)) q))

-- the run byte after byte is the run byte by number
module _ {A : Type 0} {M : Machine} {R : Stand} (w : Within M R) where
  pub output_number : (store xs : List A) → run_output (slot_of M) (next_of M) R store xs ≡ run_output (slot_at M R) suc 0 store xs
  output_number store xs =
      output_alike (slot_of M) (next_of M) (slot_at M R) suc (After M R) (slot_now M R) (λ t Q a. after_next M R t Q a w.long) xs 0 R store (after_none M R w)

  pub store_number : (store xs : List A) → run_store (slot_of M) (next_of M) R store xs ≡ run_store (slot_at M R) suc 0 store xs
  store_number store xs =
      store_alike (slot_of M) (next_of M) (slot_at M R) suc (After M R) (slot_now M R) (λ t Q a. after_next M R t Q a w.long) xs 0 R store (after_none M R w)

  pub stands_after : (xs : List A) → After M R (length xs) (run_record (next_of M) R xs)
  stands_after xs =
      rw (record_count xs 0, zero-add (length xs)) at
      (record_alike (slot_of M) (next_of M) (slot_at M R) suc (After M R) (slot_now M R) (λ t Q a. after_next M R t Q a w.long) xs 0 R (after_none M R w))

-- a machine within its ranges stays within them
within_next : {M : Machine} {R : Stand} → Within M R → Within M (next_of M R)
unfolding next_of
within_next {M} {R} w = record {
  branch = mod-lt (R.branch + 1) M.some_branches;
  long = rw (stepped_long M.step (ring_now M R) R.places) w.long;
  places = λ x h l. go x h l (ℕ_discrete (ring_now M R) x);
}
  where
    go : (x : ℕ) → 0 < x → x < M.branches → Dec (ring_now M R ≡ x) → get_or (stepped M.step (ring_now M R) R.places) (x - 1) 0 < M.step * x
    go x h l (yes e) =
        rw (e, stepped_same M.step x R.places h (omega (arith, w.long))) (mod-lt (place_of R x + 1) (mul-pos M.some_step h))
    go x h l (no n) =
        let o : ring_now M R ≢ suc (x - 1) = λ e. n (omega (arith, e)) in
        rw (stepped_other M.step (ring_now M R) R.places (x - 1) o) (w.places x h l)

pub within_run : {A : Type 0} {M : Machine} (xs : List A) (R : Stand) → Within M R → Within M (run_record (next_of M) R xs)
unfolding run_record
within_run [] R w = w
within_run {M = M} (x ∷ xs) R w = within_run xs (next_of M R) (within_next w)

pub within_start : {M : Machine} (n : ℕ) → M.branches ≤ suc n → Within M (start_stand n)
unfolding start_stand
within_start {M} n h = record {
  branch = M.some_branches;
  long = rw (length-replicate {A = ℕ} n 0) h;
  places = λ x p l. rw (get_or-replicate {A = ℕ} n (x - 1) 0 0 (omega arith)) (mul-pos M.some_step p);
}

-- What comes out of a machine whose store was full of f, wherever it stood: byte t is input byte t - delay, or f where there is no such byte.
use Prim.Native.Nat.{ℕ, zero, suc, ◌+◌, ◌*◌, ◌/◌, ◌%◌, ◌≤◌, ◌<◌}
use Rattle.std.proofs.Math.Path.{◌≡◌, sym, ap}
use Rattle.std.specs.Prelude.{refl, ◌≢◌, get_or, replicate}
use Rattle.std.proofs.Common.{◌∙◌, le_refl, add-mul, zero-add, not-suc-le-zero, get_or-set_same, get_or-set_other, lt-ltb, le-ltb}
use mathlib.Core.List.{List, [], ◌∷◌}
use Rattle.std.proofs.Math.Nat.{mul_assoc, mul_comm, mul-zero, add-zero, add-suc, suc-add, mul-pos, div-add-mod', mul-le-mul_right, add-mul-mod_self_left, add-mul-div_left, add-mod_right, add-sub_cancel}
use native.Mathlib.Omega.{arith}
use Rattle.std.proofs.Math.Decide.{dec_lt}
use Rattle.std.proofs.Math.ListN.{length}
use Rattle.std.proofs.lemmas.List.{get_or-replicate, length-replicate}
use Rattle.delay.specs.Machine.{Machine, Stand, Slot, through, place, offset, place_of, slot_in, gives, keeps, run_output, late}
use Rattle.delay.specs.Slots.{inside_one, at_slot, rows_lt, gap, get_or_there, length_keeps}
use Rattle.delay.specs.Bytes.{ring_at, row_at, slot_at, delay_at, same_ring, slot_inside, slot_in_lem}

module _ {A : Type 0} (f : A) (d : ℕ) (input : ℕ → A) where
  pub late_early : (t : ℕ) → t < d → late f d input t ≡ f
  unfolding late
  late_early t h = rw (lt-ltb t d h)

  pub late_from : (t : ℕ) → late f d input (t + d) ≡ input t
  unfolding late
  late_from t =
      let h : d ≤ t + d = omega arith in
      rw (le-ltb (t + d) d h, add-sub_cancel t d)

module _ (M : Machine) (R : Stand) where
  abbrev b : ℕ
  b = M.branches

  abbrev s : ℕ
  s = M.step

  -- a byte that passes through has no delay, and one with a slot has some
  no_delay : (t : ℕ) → slot_at M R t ≡ through → delay_at M R t ≡ 0
  unfolding slot_at delay_at
  no_delay t q = go (ring_at M R t) (row_at M R t) q
    where
      go : (x n : ℕ) → slot_in s x n ≡ through → b * s * x ≡ 0
      go zero n e = mul-zero (b * s)
      go (suc x) n e = let y : ◌≡◌ {A = ℕ} 0 1 = cc in absurd (omega arith)

  some_delay : (t i : ℕ) → slot_at M R t ≡ place i → t < t + delay_at M R t
  unfolding slot_at delay_at
  some_delay t i q =
      omega (arith, mul-pos (mul-pos M.some_branches M.some_step) (at_slot s (ring_at M R t) (row_at M R t) i q).0)

  -- a delay later the ring is the same
  ring_later : (t k : ℕ) → ring_at M R (t + b * s * k) ≡ ring_at M R t
  unfolding ring_at
  ring_later t k =
      let z : R.branch + (t + b * s * k) ≡ R.branch + t + b * s * k = omega arith in
      rw (z, mul_assoc b s k, add-mul-mod_self_left (R.branch + t) b (s * k))

  -- and so is the delay
  pub same_delay : (t k : ℕ) → delay_at M R (t + b * s * k) ≡ delay_at M R t
  unfolding delay_at
  same_delay t k = ap (λ (n : ℕ). b * s * n) (ring_later t k)

  -- and the slot
  home : (t u : ℕ) → u ≡ t + delay_at M R u → slot_at M R u ≡ slot_at M R t
  unfolding slot_at delay_at row_at
  home t u e =
      let x = ring_at M R u in
      let m : x ≡ ring_at M R t = ap (ring_at M R) e ∙ ring_later t x in
      let d : u / b ≡ t / b + s * x = ap (λ (k : ℕ). k / b) e ∙ ap (λ (k : ℕ). (t + k) / b) (mul_assoc b s x) ∙ add-mul-div_left t (s * x) M.some_branches in
      let z : place_of R x + (t / b + s * x) ≡ place_of R x + t / b + s * x = omega arith in
      ap (λ (k : ℕ). slot_in s x ((place_of R x + k) % (s * x))) d
      ∙ ap (slot_in s x) (ap (λ (k : ℕ). k % (s * x)) z ∙ add-mod_right (place_of R x + t / b) (s * x))
      ∙ ap (λ (k : ℕ). slot_in s k ((place_of R k + t / b) % (s * k))) m

  -- two bytes less than a delay apart use different slots
  apart : (t u i j : ℕ) → t < u → u < t + delay_at M R u → slot_at M R t ≡ place j → slot_at M R u ≡ place i → i ≢ j
  unfolding slot_at delay_at row_at
  apart t u i j h g et eu e =
      let x = ring_at M R u in
      let p = place_of R x in
      let q : ring_at M R t ≡ x = inside_one s (ring_at M R t) x j (slot_inside M R t j et) (rw e at (slot_inside M R u i eu)) in
      let jt : j ≡ offset s x + (p + t / b) % (s * x) = rw q at (at_slot s (ring_at M R t) (row_at M R t) j et).1 in
      let m : (p + u / b) % (s * x) ≡ (p + t / b) % (s * x) = omega (arith, (at_slot s x (row_at M R u) i eu).1, jt, e) in
      let r : u % b ≡ t % b = sym (same_ring M R t u q) in
      let far = gap (s * x) (p + t / b) (p + u / b) (omega (arith, rows_lt b t u h r)) m in
      let far' : (t / b + s * x) * b ≤ u / b * b = mul-le-mul_right b (let z : t / b + s * x ≤ u / b = omega (arith, far) in z) in
      let far'' : t / b * b + b * s * x ≤ u / b * b = rw (add-mul, mul_comm (s * x) b, ← mul_assoc b s x) at far' in
      omega (arith, div-add-mod' t b, div-add-mod' u b, far'')

  module _ {A : Type 0} (f : A) (input : ℕ → A) where
    -- what byte u brings out
    abbrev pub want : ℕ → A
    want u = late f (delay_at M R u) input u

    -- before byte t the store holds, for each byte of the coming delay, what it will bring out
    abbrev Holds : ℕ → List A → Type 0
    Holds t store = (u i : ℕ) → t ≤ u → u < t + delay_at M R u → slot_at M R u ≡ place i → get_or store i f ≡ want u

    holds_start : Holds 0 (replicate (offset M.step M.branches) f)
    holds_start u i h g e =
        get_or-replicate (offset M.step M.branches) i f f (slot_in_lem M R u i e) ∙ sym (late_early f (delay_at M R u) input u (omega arith))

    -- which is the byte that lies its delay before it
    pub brings : (t u : ℕ) → u ≡ t + delay_at M R u → want u ≡ input t
    brings t u e = ap (λ (k : ℕ). late f (delay_at M R u) input k) e ∙ late_from f (delay_at M R u) input t

    holds_next : (t : ℕ) (store : List A) → length store ≡ offset M.step M.branches → Holds t store → Holds (suc t) (keeps (slot_at M R t) store (input t))
    holds_next t store l hold u i h g e = go (slot_at M R t) refl (dec_lt u (t + delay_at M R u))
      where
        go : (p : Slot) → slot_at M R t ≡ p → Dec (u < t + delay_at M R u) → get_or (keeps p store (input t)) i f ≡ want u
        go through q (yes k) = hold u i (omega arith) k e
        go through q (no n) =
            let z : through ≡ place i = sym q ∙ sym (home t u (omega (arith, n))) ∙ e in
            let y : ◌≡◌ {A = ℕ} 0 1 = cc in absurd (omega arith)
        go (place j) q (yes k) =
            get_or-set_other store j i (input t) f (apart t u i j h k q e) ∙ hold u i (omega arith) k e
        go (place j) q (no n) =
            let w : u ≡ t + delay_at M R u = omega (arith, n) in
            let z : place i ≡ place j = sym e ∙ home t u w ∙ q in
            let y : i ≡ j = cc in
            rw y (get_or-set_same store j (input t) f (omega (arith, slot_in_lem M R t j q)) ∙ sym (brings t u w))

    first : (t : ℕ) (x : A) (store : List A) → length store ≡ offset M.step M.branches → Holds t store → x ≡ input t → gives (slot_at M R t) store x ≡ want t
    first t x store l hold e = go (slot_at M R t) refl
      where
        go : (p : Slot) → slot_at M R t ≡ p → gives p store x ≡ want t
        go through q = e ∙ sym (brings t t (sym (rw (no_delay t q) (add-zero t))))
        go (place i) q =
            get_or_there store i x f (omega (arith, slot_in_lem M R t i q)) ∙ hold t i (le_refl t) (some_delay t i q) q

    output_want : (xs : List A) (t : ℕ) (store : List A) → length store ≡ offset M.step M.branches → Holds t store
        → ((k : ℕ) → k < length xs → get_or xs k f ≡ input (t + k))
        → (k : ℕ) → k < length xs → get_or (run_output (slot_at M R) suc t store xs) k f ≡ want (t + k)
    unfolding run_output
    output_want [] t store l hold same k h = absurd (not-suc-le-zero h)
    output_want (x ∷ xs) t store l hold same zero h =
        let e : x ≡ input t = rw add-zero at (same 0 (omega arith)) in
        rw (add-zero t) (first t x store l hold e)
    output_want (x ∷ xs) t store l hold same (suc k) h =
        let e : x ≡ input t = rw add-zero at (same 0 (omega arith)) in
        let l' : length (keeps (slot_at M R t) store x) ≡ offset M.step M.branches = length_keeps (slot_at M R t) store x ∙ l in
        let hold' : Holds (suc t) (keeps (slot_at M R t) store x) = rw e (holds_next t store l hold) in
        rw (add-suc t k, ← suc-add t k)
        (output_want xs (suc t) (keeps (slot_at M R t) store x) l' hold' (λ n g. rw (suc-add t n, ← add-suc t n) (same (suc n) (omega arith))) k (omega arith))

  -- the closed form
  pub fresh : {A : Type 0} (f : A) (xs : List A) (t : ℕ) → t < length xs
      → get_or (run_output (slot_at M R) suc 0 (replicate (offset M.step M.branches) f) xs) t f ≡ late f (delay_at M R t) (λ n. get_or xs n f) t
  fresh f xs t h =
      rw zero-add at
      (output_want f (λ n. get_or xs n f) xs 0 (replicate (offset M.step M.branches) f) (length-replicate (offset M.step M.branches) f) (holds_start f (λ n. get_or xs n f))
      (λ k g. rw zero-add) t h)

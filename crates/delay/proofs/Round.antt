-- The deinterleaver behind the interleaver, both standing at one branch: the input again, branches·step·(branches - 1) bytes late, behind f.
use Rattle.std.specs.Prelude.{ℕ, suc, ◌+◌, ◌-◌, ◌*◌, ◌%◌, ◌<◌, ◌≡◌, List, ◌++◌, length, get_or, replicate, take}
use Rattle.std.proofs.Math.Path.{sym, ap}
use Rattle.std.proofs.Common.{◌∙◌, mul-add, arith, length-append, ext_get_or, get_or-take, get_or-append-add, length-take-le}
use Rattle.std.proofs.Math.Nat.{mod-lt}
use Rattle.std.proofs.Math.Decide.{dec_lt}
use Rattle.std.proofs.lemmas.List.{length-replicate, get_or-replicate}
use Rattle.std.proofs.Math.ListN.{get_or-append}
use Rattle.laws.specs.declared.Way.TheVariants.{Interleaver, Deinterleaver}
use Rattle.delay.specs.Machine.{Machine, machine, Stand, offset, run_output, late}
use Rattle.delay.specs.Bytes.{ring_at, slot_at, delay_at}
use Rattle.delay.specs.Cuts.{length_output}
use Rattle.delay.specs.Delay.{late_early, late_from, same_delay, brings, fresh}

-- two delays add up
late_late : {A : Type 0} (f : A) (d e : ℕ) (input : ℕ → A) (t : ℕ) → late f (d + e) input (t + e) ≡ late f d input t
late_late f d e input t = go (dec_lt t d)
  where
    go : Dec (t < d) → late f (d + e) input (t + e) ≡ late f d input t
    go (yes h) = late_early f (d + e) input (t + e) (omega arith) ∙ sym (late_early f d input t h)
    go (no n) =
        let k : t - d + d ≡ t = omega (arith, n) in
        let a : t + e ≡ t - d + (d + e) = omega (arith, n) in
        rw a (late_from f (d + e) input (t - d)) ∙ sym (late_from f d input (t - d)) ∙ ap (late f d input) k

module _ (b s : ℕ) (hb : 0 < b) (hs : 0 < s) (R : Stand) where
  abbrev forth : Machine
  forth = machine b s hb hs Interleaver

  abbrev back : Machine
  back = machine b s hb hs Deinterleaver

  -- the delay of the two together, whatever the branch
  delays : (t : ℕ) → delay_at forth R t + delay_at back R t ≡ b * s * (b - 1)
  unfolding delay_at ring_at
  delays t =
      let j = (R.branch + t) % b in
      let e : j + (b - 1 - j) ≡ b - 1 = omega (arith, mod-lt (R.branch + t) hb) in
      sym (mul-add (b * s) j (b - 1 - j)) ∙ ap (λ (k : ℕ). b * s * k) e

  -- a byte is late in the interleaver as it was before it was late in the deinterleaver
  as_late : (t k : ℕ) → t + delay_at back R k ≡ k → delay_at forth R t ≡ delay_at forth R k
  unfolding delay_at
  as_late t k e = sym (ap (delay_at forth R) (sym e) ∙ same_delay forth R t (ring_at back R k))

  pub round : {A : Type 0} (f : A) (xs : List A) (t : ℕ) → t < length xs
      → get_or (run_output (slot_at back R) suc 0 (replicate (offset s b) f) (run_output (slot_at forth R) suc 0 (replicate (offset s b) f) xs)) t f
      ≡ late f (b * s * (b - 1)) (λ n. get_or xs n f) t
  round {A} f xs t h = fresh back R f ys t (omega (arith, length_output (slot_at forth R) suc xs 0 (replicate (offset s b) f))) ∙ go (dec_lt t d)
    where
      ys : List A
      ys = run_output (slot_at forth R) suc 0 (replicate (offset s b) f) xs

      d : ℕ
      d = delay_at back R t

      go : Dec (t < d) → late f d (λ n. get_or ys n f) t ≡ late f (b * s * (b - 1)) (λ n. get_or xs n f) t
      go (yes g) =
          late_early f d (λ n. get_or ys n f) t g ∙ sym (late_early f (b * s * (b - 1)) (λ n. get_or xs n f) t (omega (arith, delays t)))
      go (no n) =
          let k : t - d + d ≡ t = omega (arith, n) in
          let g : t - d < length xs = omega arith in
          brings back R f (λ m. get_or ys m f) (t - d) t (sym k)
          ∙ fresh forth R f xs (t - d) g
          ∙ ap (λ (m : ℕ). late f m (λ n. get_or xs n f) (t - d)) (as_late (t - d) t k)
          ∙ sym (late_late f (delay_at forth R t) d (λ n. get_or xs n f) (t - d))
          ∙ ap (late f (delay_at forth R t + d) (λ n. get_or xs n f)) k
          ∙ ap (λ (m : ℕ). late f m (λ n. get_or xs n f) t) (delays t)

-- a list that is another, d late behind f, and as long
pub late_list : {A : Type 0} (f : A) (d : ℕ) (xs zs : List A) → length zs ≡ length xs → ((t : ℕ) → t < length xs → get_or zs t f ≡ late f d (λ n. get_or xs n f) t)
    → zs ≡ take (length xs) (replicate d f ++ xs)
late_list f d xs zs e h =
    ext_get_or f zs (take (length xs) (replicate d f ++ xs)) (e ∙ sym long)
    (λ i l. h i (omega arith) ∙ at i (dec_lt i d) ∙ sym (get_or-take (length xs) (replicate d f ++ xs) i f (omega arith)))
  where
    long : length (take (length xs) (replicate d f ++ xs)) ≡ length xs
    long = length-take-le (length xs) (replicate d f ++ xs) (omega (arith, length-append (replicate d f) xs))

    at : (i : ℕ) → Dec (i < d) → late f d (λ n. get_or xs n f) i ≡ get_or (replicate d f ++ xs) i f
    at i (yes g) =
        late_early f d (λ n. get_or xs n f) i g
        ∙ sym (get_or-append (replicate d f) xs f i (omega (arith, length-replicate d f)) ∙ get_or-replicate d i f f g)
    at i (no n) =
        let k : i - d + d ≡ i = omega (arith, n) in
        let m : i ≡ length (replicate d f) + (i - d) = omega (arith, n, length-replicate d f) in
        ap (late f d (λ n. get_or xs n f)) (sym k) ∙ late_from f d (λ n. get_or xs n f) (i - d)
        ∙ sym (ap (λ (j : ℕ). get_or (replicate d f ++ xs) j f) m ∙ get_or-append-add (replicate d f) xs (i - d) f)

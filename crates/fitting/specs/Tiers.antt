-- The next size of LTE: N, or the first one asked for, rounded up by its own step. Each step divides those behind it, so no size of a later tier is
-- passed over, and a tier ends at a size, so what is rounded up stays in its tier. Rests on Next of crate laws.
use Rattle.std.specs.Prelude.{ℕ, max, ◌%◌, ◌≤◌, ◌<◌, Bool, true, false, cond, ◌≡◌, refl, leb}
use Rattle.std.proofs.Common.{arith, leb-true, leb-false, le-leb, eqb-true, lt-ltb}
use Rattle.laws.specs.Members.{both, multiple, multiple_is}
use Rattle.laws.specs.Next.{Next}
use Rattle.profiles.specs.declared.Form.TheVariants.{Tiered}
use Rattle.profiles.specs.Profiles.{step_by, size_in}

-- a step is at most 64
pub step_small : (n : ℕ) → step_by n ≤ 64
step_small n = go (leb n 512) (leb n 1024) (leb n 2048)
  where
    go : (b c d : Bool) → cond b 8 (cond c 16 (cond d 32 64)) ≤ 64
    go true c d = omega arith
    go false true d = omega arith
    go false false true = omega arith
    go false false false = omega arith

-- a multiple of 8, past 512 of 16, past 1,024 of 32, past 2,048 of 64
abbrev OnStep : ℕ → Type 0
OnStep k = (k % 8 ≡ 0) × ((512 < k → k % 16 ≡ 0) × ((1024 < k → k % 32 ≡ 0) × (2048 < k → k % 64 ≡ 0)))

-- k lies in the tier of a, or before it
abbrev InTier : ℕ → ℕ → Type 0
InTier a k = (a ≤ 512 → k ≤ 512) × ((a ≤ 1024 → k ≤ 1024) × (a ≤ 2048 → k ≤ 2048))

module _ (a k : ℕ) where
  -- a multiple of a's step in a's tier
  by_step : InTier a k → k % step_by a ≡ 0 → OnStep k
  by_step w e = go (leb a 512) refl (leb a 1024) refl (leb a 2048) refl e
    where
      go : (b : Bool) → leb a 512 ≡ b → (c : Bool) → leb a 1024 ≡ c → (d : Bool) → leb a 2048 ≡ d
          → k % cond b 8 (cond c 16 (cond d 32 64)) ≡ 0 → OnStep k
      go true p c q d r e =
          let h = w.0 (leb-true a 512 p) in (e, (λ x. absurd (omega arith), (λ x. absurd (omega arith), λ x. absurd (omega arith))))
      go false p true q d r e =
          let h = w.1.0 (leb-true a 1024 q) in (omega arith, (λ x. e, (λ x. absurd (omega arith), λ x. absurd (omega arith))))
      go false p false q true r e =
          let h = w.1.1 (leb-true a 2048 r) in (omega arith, (λ x. omega arith, (λ x. e, λ x. absurd (omega arith))))
      go false p false q false r e = (omega arith, (λ x. omega arith, (λ x. omega arith, λ x. e)))

  -- and a multiple of k's own step, k not below a, is one of a's
  of_step : a ≤ k → OnStep k → k % step_by a ≡ 0
  of_step h t = go (leb a 512) refl (leb a 1024) refl (leb a 2048) refl
    where
      go : (b : Bool) → leb a 512 ≡ b → (c : Bool) → leb a 1024 ≡ c → (d : Bool) → leb a 2048 ≡ d → k % cond b 8 (cond c 16 (cond d 32 64)) ≡ 0
      go true p c q d r = t.0
      go false p true q d r = t.1.0 (omega (arith, leb-false a 512 p))
      go false p false q true r = t.1.1.0 (omega (arith, leb-false a 1024 q))
      go false p false q false r = t.1.1.1 (omega (arith, leb-false a 2048 r))

own_step : (k : ℕ) → k % step_by k ≡ 0 → OnStep k
own_step k = by_step k k (λ h. h, (λ h. h, λ h. h))

module _ (u m n r : ℕ) (pos : 0 < u) (next : Next (multiple (step_by (max n u)) m) (max n u) r) where
  -- a size that ends a tier is among the multiples
  ended : (e : ℕ) → 0 < e → OnStep e → 0 < r → max n u ≤ e → r ≤ e
  ended e z t h a = go (leb e m) refl
    where
      go : (b : Bool) → leb e m ≡ b → r ≤ e
      go true q = (next.none_between e (rw (lt-ltb 0 e z, q, of_step (max n u) e a t) refl) a).1
      go false q = omega (arith, leb-false e m q, (multiple_is (step_by (max n u)) m r (next.has_it h)).1)

  stays : 0 < r → InTier (max n u) r
  stays h = (ended 512 (omega arith) (own_step 512 refl) h, (ended 1024 (omega arith) (own_step 1024 refl) h, ended 2048 (omega arith) (own_step 2048 refl) h))

  pub next_tiered : Next (size_in Tiered u m 1) n r
  next_tiered = record {
    has_it = λ h.
        let p = multiple_is (step_by (max n u)) m r (next.has_it h) in
        let lo = next.not_below h in
        rw (le-leb u r (omega arith), le-leb r m p.1, of_step r r (omega arith) (by_step (max n u) r (stays h) p.2)) refl;
    not_below = λ h. omega (arith, next.not_below h);
    none_between = λ k t q.
        let p = both (leb u k) _ t in
        let s = both (leb k m) _ p.1 in
        let lo = leb-true u k p.0 in
        let le : max n u ≤ k = omega arith in
        next.none_between k (rw (lt-ltb 0 k (omega arith), s.0, of_step (max n u) k le (own_step k (eqb-true (k % step_by k) 0 s.1))) refl) le;
  }

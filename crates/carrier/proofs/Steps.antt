-- The laws of the two steps, over any d, s and b above 0, with N = d·(s·b): a position is its three digits. q below d is the row of the
-- output, s·u + v its column, v below s and u below b.
use Rattle.std.specs.Prelude.{◌≡◌, refl}
use Rattle.std.proofs.Math.Path.{ap}
use Rattle.std.proofs.Common.{◌∙◌, subst, mod-lt, mod-eq_of_lt, mul-le-mul_left, mul-pos}
use Prim.Native.Nat.{ℕ, ◌+◌, ◌-◌, ◌*◌, ◌/◌, ◌%◌, ◌≤◌, ◌<◌}
use Rattle.std.proofs.Math.Nat.{mod-add-mod, mod-mod, div-add-mod, mul-add-mod_self_left, mul-div-mul_left, mul-div_cancel_left}
use native.Mathlib.Omega.{arith}
use Rattle.laws.specs.Digits.{less_one, mod_cancel, low, high, digits_below, high_below}
use Rattle.laws.specs.Perm.{Perm}
use Rattle.carrier.specs.Formula.{first_step, second_step, carrier_m, back_step, last_step, carrier_l}

module _ (d s b : ℕ) (hd : 0 < d) (hs : 0 < s) (hb : 0 < b) where
  -- the row of a position, as the formulas find it
  row_is : (q u v : ℕ) → u < b → v < s → d * (s * (b * q + u) + v) / (d * (s * b)) ≡ q
  row_is q u v hu hv =
      mul-div-mul_left (s * (b * q + u) + v) (s * b) hd
      ∙ ap (λ (z : ℕ). z / (s * b)) (omega arith)
      ∙ high (s * b) q (digits_below s u v hu hv)

  d_fits : d ≤ d * (s * b)
  d_fits = omega (arith, mul-le-mul_left d (mul-pos hs hb))

  pub m_digits : (q u v : ℕ) → q < d → u < b → v < s
      → carrier_m d (d * (s * b)) s (d * (s * u + v) + q) ≡ s * (b * q + u) + (v + d * (s * b) - q) % s
  unfolding carrier_m first_step second_step
  m_digits q u v hq hu hv =
      ap (λ (z : ℕ). s * (z / s) + (z + d * (s * b) - d * z / (d * (s * b))) % s) m_is
      ∙ ap (λ (z : ℕ). s * z + (s * (b * q + u) + v + d * (s * b) - d * (s * (b * q + u) + v) / (d * (s * b))) % s) (high s (b * q + u) hv)
      ∙ ap (λ (z : ℕ). s * (b * q + u) + (s * (b * q + u) + v + d * (s * b) - z) % s) (row_is q u v hu hv)
      ∙ ap (λ (z : ℕ). s * (b * q + u) + z) (ap (λ (z : ℕ). z % s) (omega (arith, d_fits)) ∙ mul-add-mod_self_left s (b * q + u) (v + d * (s * b) - q))
    where
      m_is : (d * (s * b) / d) * ((d * (s * u + v) + q) % d) + (d * (s * u + v) + q) / d ≡ s * (b * q + u) + v
      m_is =
          ap (λ (z : ℕ). z * ((d * (s * u + v) + q) % d) + (d * (s * u + v) + q) / d) (mul-div_cancel_left (s * b) hd)
          ∙ ap (λ (z : ℕ). (s * b) * z + (d * (s * u + v) + q) / d) (low d (s * u + v) hq)
          ∙ ap (λ (z : ℕ). (s * b) * q + z) (high d (s * u + v) hq)
          ∙ omega arith

  pub l_digits : (q u w : ℕ) → q < d → u < b → w < s
      → carrier_l d (d * (s * b)) s (s * (b * q + u) + w) ≡ d * (s * u + (w + q) % s) + q
  unfolding carrier_l last_step back_step
  l_digits q u w hq hu hw =
      ap (λ (z : ℕ). d * z - (d * (s * b) - 1) * (d * z / (d * (s * b)))) m_is
      ∙ ap (λ (z : ℕ). d * (s * (b * q + u) + v) - (d * (s * b) - 1) * z) (row_is q u v hu (mod-lt (w + q) hs))
      ∙ omega (arith, less_one (d * (s * b)) q (mul-pos hd (mul-pos hs hb)))
    where
      v : ℕ
      v = (w + q) % s

      m_is : s * ((s * (b * q + u) + w) / s) + (s * (b * q + u) + w + d * (s * (b * q + u) + w) / (d * (s * b))) % s ≡ s * (b * q + u) + v
      m_is =
          ap (λ (z : ℕ). s * z + (s * (b * q + u) + w + d * (s * (b * q + u) + w) / (d * (s * b))) % s) (high s (b * q + u) hw)
          ∙ ap (λ (z : ℕ). s * (b * q + u) + (s * (b * q + u) + w + z) % s) (row_is q u w hu hw)
          ∙ ap (λ (z : ℕ). s * (b * q + u) + z) (ap (λ (z : ℕ). z % s) (omega arith) ∙ mul-add-mod_self_left s (b * q + u) (w + q))

  -- what holds of every input position by its digits holds of every one below N ..
  by_in : (P : ℕ → Type 0) → ((q u v : ℕ) → q < d → u < b → v < s → P (d * (s * u + v) + q)) → (k : ℕ) → k < d * (s * b) → P k
  by_in P f k h =
      subst P (ap (λ (z : ℕ). d * z + k % d) (div-add-mod (k / d) s) ∙ div-add-mod k d)
      (f (k % d) (k / d / s) (k / d % s) (mod-lt k hd) (high_below s b (k / d) hs (high_below d (s * b) k hd h)) (mod-lt (k / d) hs))

  -- .. and so of every output position
  by_out : (P : ℕ → Type 0) → ((q u w : ℕ) → q < d → u < b → w < s → P (s * (b * q + u) + w)) → (t : ℕ) → t < d * (s * b) → P t
  by_out P f t h =
      subst P (ap (λ (z : ℕ). s * z + t % s) (div-add-mod (t / s) b) ∙ div-add-mod t s)
      (f (t / s / b) (t / s % b) (t % s) (high_below b d (t / s) hb (high_below s (b * d) t hs (omega arith))) (mod-lt (t / s) hb) (mod-lt t hs))

  -- the turn of the second step, and back
  unturn : (q v : ℕ) → q < d → v < s → ((v + d * (s * b) - q) % s + q) % s ≡ v
  unturn q v hq hv =
      mod-add-mod (v + d * (s * b) - q) s q
      ∙ ap (λ (z : ℕ). z % s) (omega (arith, d_fits))
      ∙ low s (d * b) hv

  turn : (q w : ℕ) → q < d → w < s → ((w + q) % s + d * (s * b) - q) % s ≡ w
  turn q w hq hw =
      mod_cancel s q ((w + q) % s + d * (s * b) - q) w hs
      (ap (λ (z : ℕ). z % s) (omega (arith, d_fits))
      ∙ mul-add-mod_self_left s (d * b) ((w + q) % s)
      ∙ mod-mod (w + q) s)
      ∙ mod-eq_of_lt hw

  in_below : (q u v : ℕ) → q < d → u < b → v < s → d * (s * u + v) + q < d * (s * b)
  in_below q u v hq hu hv = digits_below d (s * u + v) q (digits_below s u v hu hv) hq

  out_below : (q u w : ℕ) → q < d → u < b → w < s → s * (b * q + u) + w < d * (s * b)
  out_below q u w hq hu hw = omega (arith, digits_below s (b * q + u) w (digits_below b q u hq hu) hw)

  -- L and M undo each other below N
  pub digits_perm : Perm (d * (s * b)) (carrier_l d (d * (s * b)) s) (carrier_m d (d * (s * b)) s)
  digits_perm = record {
    l_below =
        by_out (λ t. carrier_l d (d * (s * b)) s t < d * (s * b))
        (λ q u w hq hu hw. rw (l_digits q u w hq hu hw) (in_below q u _ hq hu (mod-lt _ hs)));
    m_below =
        by_in (λ k. carrier_m d (d * (s * b)) s k < d * (s * b))
        (λ q u v hq hu hv. rw (m_digits q u v hq hu hv) (out_below q u _ hq hu (mod-lt _ hs)));
    l_of_m =
        by_in (λ k. carrier_l d (d * (s * b)) s (carrier_m d (d * (s * b)) s k) ≡ k)
        (λ q u v hq hu hv. rw (m_digits q u v hq hu hv, l_digits q u ((v + d * (s * b) - q) % s) hq hu (mod-lt _ hs), unturn q v hq hv) refl);
    m_of_l =
        by_out (λ t. carrier_m d (d * (s * b)) s (carrier_l d (d * (s * b)) s t) ≡ t)
        (λ q u w hq hu hw. rw (l_digits q u w hq hu hw, m_digits q u ((w + q) % s) hq hu (mod-lt _ hs), turn q w hq hw) refl);
  }

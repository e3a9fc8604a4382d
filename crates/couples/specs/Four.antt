-- Outputs have different couples exactly where P0 has no common divisor with N/4 and the four numbers P0·b + Q(b) are different modulo 4. Over every
-- N = 4·m above 0 and every Q of j mod 4. Enough: P modulo 4 is the turn of j mod 4, so two outputs that share a couple have one j mod 4, and are d = 4·e
-- apart; then N divides P0·d, so N/4 divides P0·e, so e is 0. Needed: a common divisor g gives outputs 0 and 4·(N/4)/g one couple; and where the turns of
-- a and b are one, an output with j mod 4 = a is written down that has b's couple. Rests on Euclid, Residue and Shared of laws.
use Rattle.std.specs.Prelude.{◌≡◌}
use Rattle.std.proofs.Math.Path.{refl, sym, ap}
use Rattle.std.proofs.Common.{◌∙◌, mod-lt, arith}
use Prim.Native.Nat.{ℕ, zero, suc, ◌+◌, ◌-◌, ◌*◌, ◌/◌, ◌%◌, ◌<◌}
use Rattle.std.proofs.Math.Nat.{mod-add-div, div-add-mod, mod-eq_of_lt, zero-mul, mul-mod_right, mod-mod_of_dvd, dvd-mul_right}
use Rattle.laws.specs.Digits.{low}
use Rattle.laws.specs.Residue.{whole, nought, same, no_more}
use Rattle.laws.specs.Euclid.{gcd, gcd_greatest, Coprime, cancel}
use Rattle.laws.specs.Shared.{OneToOne, from_distance}
use Rattle.couples.specs.Formula.{turn}

-- (P0·j + Q) mod N, over any Q of j mod 4
unfoldable pub place : ℕ → ℕ → (ℕ → ℕ) → ℕ → ℕ
place n p0 q j = (p0 * j + q (j % 4)) % n

module _ (m p0 : ℕ) (q : ℕ → ℕ) (hm : 0 < m) where
  -- a remainder modulo N has its own remainder modulo 4
  own_low : (x : ℕ) → x % (4 * m) % 4 ≡ x % 4
  own_low x = mod-mod_of_dvd 4 x (dvd-mul_right 4 m)

  place_turn : (x : ℕ) → place (4 * m) p0 q x % 4 ≡ turn p0 q (x % 4)
  unfolding place turn
  place_turn x =
      own_low (p0 * x + q (x % 4))
      ∙ same 4 (p0 * (x / 4)) (p0 * (x % 4) + q (x % 4)) (omega (arith, ap (λ (z : ℕ). p0 * z) (sym (mod-add-div x 4))))

  -- enough
  module _ (one : Coprime m p0) (differ : OneToOne (turn p0 q) 4) where
    same_turn : (x y : ℕ) → place (4 * m) p0 q x ≡ place (4 * m) p0 q y → x % 4 ≡ y % 4
    same_turn x y e =
        differ (x % 4) (y % 4) (mod-lt x (omega arith)) (mod-lt y (omega arith)) (sym (place_turn x) ∙ ap (λ (z : ℕ). z % 4) e ∙ place_turn y)

    no_distance : (x d : ℕ) → x + d < 4 * m → place (4 * m) p0 q x ≡ place (4 * m) p0 q (x + d) → d ≡ 0
    unfolding place
    no_distance x d l e =
        let t = same_turn x (x + d) e in
        let w : d ≡ 4 * (d / 4) = whole 4 d (no_more 4 d x (omega arith) (sym t)) in
        let z : p0 * d % (4 * m) ≡ 0 =
        no_more (4 * m) (p0 * d) (p0 * x + q (x % 4)) (omega arith)
        (ap (λ (y : ℕ). (p0 * x + q y + p0 * d) % (4 * m)) t ∙ ap (λ (y : ℕ). y % (4 * m)) (omega arith) ∙ sym e) in
        let v = p0 * d / (4 * m) in
        let c = cancel one (d / 4) (nought m v (omega (arith, whole (4 * m) (p0 * d) z, ap (λ (y : ℕ). p0 * y) w))) in
        omega (arith, mod-eq_of_lt {n = d / 4} {m = m} (omega arith))

    pub four_apart : OneToOne (place (4 * m) p0 q) (4 * m)
    four_apart = from_distance (place (4 * m) p0 q) (4 * m) no_distance

  place_mod : (x : ℕ) → place (4 * m) p0 q (x % (4 * m)) ≡ place (4 * m) p0 q x
  unfolding place
  place_mod x =
      ap (λ (b : ℕ). (p0 * (x % (4 * m)) + q b) % (4 * m)) (own_low x)
      ∙ sym (same (4 * m) (p0 * (x / (4 * m))) (p0 * (x % (4 * m)) + q (x % 4)) (omega (arith, ap (λ (z : ℕ). p0 * z) (sym (mod-add-div x (4 * m))))))

  -- needed
  module _ (o : OneToOne (place (4 * m) p0 q) (4 * m)) where
    pub p0_alone : gcd m p0 ≡ 1
    unfolding place
    p0_alone = go (gcd m p0) (whole (gcd m p0) m (gcd_greatest m p0).divides_left) (whole (gcd m p0) p0 (gcd_greatest m p0).divides_right)
      where
        go : (g : ℕ) → m ≡ g * (m / g) → p0 ≡ g * (p0 / g) → g ≡ 1
        go zero a b = absurd (omega (arith, zero-mul (m / 0)))
        go (suc zero) a b = refl
        go (suc (suc g)) a b =
            let w = m / suc (suc g) in
            let v = p0 / suc (suc g) in
            let s : (p0 * 0 + q (0 % 4)) % (4 * m) ≡ (p0 * (4 * w) + q (4 * w % 4)) % (4 * m) =
            sym (ap (λ (z : ℕ). (p0 * (4 * w) + q z) % (4 * m)) (mul-mod_right 4 w)
            ∙ same (4 * m) v (p0 * 0 + q 0) (omega (arith, ap (λ (z : ℕ). z * (4 * w)) b, ap (λ (z : ℕ). z * (4 * v)) a))) in
            let z : 0 ≡ 4 * w = o 0 (4 * w) (omega arith) (omega arith) s in
            omega (arith, ap (λ (y : ℕ). suc (suc g) * y) z)

    pub turns_differ_lem : Coprime m p0 → OneToOne (turn p0 q) 4
    unfolding turn place
    turns_differ_lem one a b h l e = go (m - 1) (omega arith)
      where
        α : ℕ
        α = (p0 * a + q a) / 4

        β : ℕ
        β = (p0 * b + q b) / 4

        go : (k : ℕ) → m ≡ k + 1 → a ≡ b
        go k s =
            let u = one.less * (α + k * β) in
            let there : (p0 * (4 * u + a) + q a) % (4 * m) ≡ (p0 * b + q b) % (4 * m) =
            sym (same (4 * m) β (p0 * (4 * u + a) + q a) refl)
            ∙ same (4 * m) (one.more * (α + k * β)) (p0 * b + q b)
            (omega (arith, ap (λ (z : ℕ). z * (4 * (α + k * β))) one.is, ap (λ (z : ℕ). 4 * (z * β)) s, e, div-add-mod (p0 * a + q a) 4, div-add-mod (p0 * b + q b) 4)) in
            let x = 4 * u + a in
            let turned : x % 4 ≡ a = low 4 u h in
            let shared : place (4 * m) p0 q x ≡ place (4 * m) p0 q b =
            ap (λ (z : ℕ). (p0 * x + q z) % (4 * m)) turned ∙ there ∙ ap (λ (z : ℕ). (p0 * b + q z) % (4 * m)) (sym (mod-eq_of_lt l)) in
            let met : x % (4 * m) ≡ b = o (x % (4 * m)) b (mod-lt x (omega arith)) (omega arith) (place_mod x ∙ shared) in
            sym turned ∙ sym (own_low x) ∙ ap (λ (z : ℕ). z % 4) met ∙ mod-eq_of_lt l

-- The greatest common divisor by Euclid's steps: it divides both numbers, whatever divides both divides it, and it is a multiple of the
-- first less a multiple of the second. So where it is 1, the second number can be taken out of a product modulo the first. Rests on
-- Residue.
use Rattle.std.specs.Prelude.{ℕ, zero, suc, ◌+◌, ◌*◌, ◌/◌, ◌%◌, ◌≤◌, ◌<◌, Bool, true, false, cond, ◌≡◌, refl, eqb}
use Rattle.std.proofs.Common.{ap, sym, ◌∙◌, mod-lt, mod-eq_of_lt, mul-one, mul-zero, arith, eqb-true, ne_eqb}
use Rattle.std.proofs.Math.Nat.{mod_self, zero-mod, mod-zero, div-add-mod, mul-mod_right, dvd-mod_iff, dvd_iff_mod-eq-zero}
use Rattle.std.proofs.lemmas.Bool.{eqb-false}
use Rattle.laws.specs.Residue.{whole, same}

-- Euclid's steps, at most n of them
unfoldable pub gcd_in : ℕ → ℕ → ℕ → ℕ
gcd_in zero a b = a
gcd_in (suc n) a b =
    let next = gcd_in n b (a % b) in
    cond (eqb b 0) a next

-- the greatest common divisor
unfoldable pub gcd : ℕ → ℕ → ℕ
gcd a b = gcd_in (suc b) a b

-- more steps than b change nothing
gcd_enough : (n m a b : ℕ) → b < n → b < m → gcd_in n a b ≡ gcd_in m a b
unfolding gcd_in
gcd_enough zero m a b h l = absurd (omega arith)
gcd_enough (suc n) zero a b h l = absurd (omega arith)
gcd_enough (suc n) (suc m) a b h l = go (eqb b 0) refl (gcd_enough n m b (a % b))
  where
    go : (t : Bool) → eqb b 0 ≡ t → (a % b < n → a % b < m → gcd_in n b (a % b) ≡ gcd_in m b (a % b))
        → cond t a (gcd_in n b (a % b)) ≡ cond t a (gcd_in m b (a % b))
    go true e r = refl
    go false e r =
        let z : ¬ (b ≡ 0) = eqb-false b 0 e in
        let y = mod-lt a {m = b} (omega arith) in
        r (omega arith) (omega arith)

pub gcd_zero : (a : ℕ) → gcd a 0 ≡ a
unfolding gcd gcd_in
gcd_zero a = refl

pub gcd_step : (a b : ℕ) → (b ≡ 0 → ⊥) → gcd a b ≡ gcd b (a % b)
unfolding gcd gcd_in
gcd_step a b h =
    rw (ne_eqb b 0 h)
    (let z : ¬ (b ≡ 0) = h in let y = mod-lt a {m = b} (omega arith) in gcd_enough b (suc (a % b)) b (a % b) y (omega arith))

-- it divides both
common : (n a b : ℕ) → b < n → (a % gcd_in n a b ≡ 0) × (b % gcd_in n a b ≡ 0)
unfolding gcd_in
common zero a b h = absurd (omega arith)
common (suc n) a b h = go (eqb b 0) refl (common n b (a % b))
  where
    go : (t : Bool) → eqb b 0 ≡ t → (a % b < n → (b % gcd_in n b (a % b) ≡ 0) × (a % b % gcd_in n b (a % b) ≡ 0))
        → (a % cond t a (gcd_in n b (a % b)) ≡ 0) × (b % cond t a (gcd_in n b (a % b)) ≡ 0)
    go true e r = (mod_self a, ap (λ (x : ℕ). x % a) (eqb-true b 0 e) ∙ zero-mod a)
    go false e r =
        let z : ¬ (b ≡ 0) = eqb-false b 0 e in
        let y = mod-lt a {m = b} (omega arith) in
        let q = r (omega arith) in
        let g = gcd_in n b (a % b) in
        let left = (dvd-mod_iff g {m = a} {n = b} ((dvd_iff_mod-eq-zero g).1 q.0)).0 ((dvd_iff_mod-eq-zero g).1 q.1) in
        ((dvd_iff_mod-eq-zero g).0 left, q.0)

-- g is a times one number less b times another
pub record Between (a b g : ℕ) : Type 0 where
  pub more : ℕ
  pub less : ℕ
  pub is : a * more ≡ b * less + g

-- the same with a and b exchanged, where neither is 0
flip : (a b : ℕ) {g : ℕ} → Between (suc a) (suc b) g → Between (suc b) (suc a) g
flip a b {g} p = record {
  more = a * (p.more + p.less) + p.more;
  less = b * (p.more + p.less) + p.less;
  is = omega (arith, p.is);
}

-- one step of Euclid back
back : (a b : ℕ) {g : ℕ} → 0 < a → 0 < b → Between b (a % b) g → Between a b g
back zero b h l p = absurd (omega arith)
back (suc a) zero h l p = absurd (omega arith)
back (suc a) (suc b) h l p = flip b a (record {
  more = p.more + suc a / suc b * p.less;
  less = p.less;
  is = omega (arith, p.is, ap (λ (x : ℕ). x * p.less) (div-add-mod (suc a) (suc b)));
})

between : (n a b : ℕ) → b < n → 0 < a → Between a b (gcd_in n a b)
unfolding gcd_in
between zero a b h l = absurd (omega arith)
between (suc n) a b h l = go (eqb b 0) refl (between n b (a % b))
  where
    go : (t : Bool) → eqb b 0 ≡ t → (a % b < n → 0 < b → Between b (a % b) (gcd_in n b (a % b))) → Between a b (cond t a (gcd_in n b (a % b)))
    go true e r = record { more = 1; less = 0; is = omega (arith, mul-one a, mul-zero b) }
    go false e r =
        let z : ¬ (b ≡ 0) = eqb-false b 0 e in
        let y = mod-lt a {m = b} (omega arith) in
        back a b l (omega arith) (r (omega arith) (omega arith))

-- no number above 1 divides both a and m: a times something is one less than a multiple of m
abbrev pub Coprime : ℕ → ℕ → Type 0
Coprime m a = Between m a 1

pub coprime : (m a : ℕ) → 0 < m → gcd m a ≡ 1 → Coprime m a
unfolding gcd
coprime m a h e = rw e at (between (suc a) m a (omega arith) h)

-- then a can be taken away from a product modulo m
pub cancel : {m a : ℕ} → Coprime m a → (d : ℕ) → a * d % m ≡ 0 → d % m ≡ 0
cancel {m} {a} c d e =
    sym (same m (a * d / m * c.less) d (let q : m * (c.more * d) ≡ d + m * (a * d / m * c.less) =
    omega (arith, ap (λ (x : ℕ). x * d) c.is, ap (λ (x : ℕ). x * c.less) (whole m (a * d) e)) in q))
    ∙ mul-mod_right m (c.more * d)

-- and whatever divides both divides it
most : (n a b d : ℕ) → b < n → a % d ≡ 0 → b % d ≡ 0 → gcd_in n a b % d ≡ 0
unfolding gcd_in
most zero a b d h p q = absurd (omega arith)
most (suc n) a b d h p q = go (eqb b 0) refl (most n b (a % b) d)
  where
    go : (t : Bool) → eqb b 0 ≡ t → (a % b < n → b % d ≡ 0 → a % b % d ≡ 0 → gcd_in n b (a % b) % d ≡ 0)
        → cond t a (gcd_in n b (a % b)) % d ≡ 0
    go true e r = p
    go false e r =
        let z : ¬ (b ≡ 0) = eqb-false b 0 e in
        let y = mod-lt a {m = b} (omega arith) in
        let rest = (dvd-mod_iff d {m = a} {n = b} ((dvd_iff_mod-eq-zero d).1 q)).1 ((dvd_iff_mod-eq-zero d).1 p) in
        r (omega arith) q ((dvd_iff_mod-eq-zero d).0 rest)

-- g is the greatest common divisor of a and b
pub record Greatest (a b g : ℕ) : Type 0 where
  pub divides_left : a % g ≡ 0
  pub divides_right : b % g ≡ 0
  pub divided : (d : ℕ) → a % d ≡ 0 → b % d ≡ 0 → g % d ≡ 0
  pub greatest : (d : ℕ) → a % d ≡ 0 → b % d ≡ 0 → 0 < a → d ≤ g

pub gcd_greatest : (a b : ℕ) → Greatest a b (gcd a b)
unfolding gcd
gcd_greatest a b = record {
  divides_left = both_divided.0;
  divides_right = both_divided.1;
  divided = λ d p q. most (suc b) a b d (omega arith) p q;
  greatest = λ d p q h. le d (gcd a b) (some h (gcd a b) both_divided.0) (most (suc b) a b d (omega arith) p q);
}
  where
    both_divided : (a % gcd a b ≡ 0) × (b % gcd a b ≡ 0)
    both_divided = common (suc b) a b (omega arith)

    some : 0 < a → (g : ℕ) → a % g ≡ 0 → 0 < g
    some h zero e = absurd (let z : a ≡ 0 = sym (mod-zero a) ∙ e in let n : ⊥ = omega arith in n)
    some h (suc g) e = omega arith

    le : (d g : ℕ) → 0 < g → g % d ≡ 0 → d ≤ g
    le d g h e =
        let n : ¬ (g < d) = λ l. let z : g ≡ 0 = sym (mod-eq_of_lt l) ∙ e in omega arith in
        omega arith

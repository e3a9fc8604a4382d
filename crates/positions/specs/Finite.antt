-- Floats that are finite: neither an infinity nor not-a-number. The test of the code, and that a sum of two is finite only where both are.
use Rattle.std.specs.Prelude.{ℕ, suc, ◌+◌, ◌-◌, ◌*◌, ◌^◌, Bool, true, false, not, cond, ◌&&◌, ◌||◌, ◌≡◌, refl, eqb, ltb, Float}
use Rattle.std.specs.Bool.{beq}
use Rattle.std.proofs.lemmas.Bool.{false≢true}
use Rattle.std.proofs.Common.{sym, subst, eq-eqb}
use Rattle.std.specs.Float.{nan, inf, fin, Format}
use Rattle.std.specs.Float.Ieee.{eq, sub, add, neg, sum, round, units, odd, up, down, low, prec, emax}
use Rattle.std.specs.Float.Ieee.Scale.{finite}
use Rattle.std.specs.Float.Ieee.Fits.{round_is}
use Rattle.std.specs.Float.Ieee.Exact.{HasValue, odd_sign}

-- a float that is no nan equals itself
same_size : (s : Bool) (n : ℕ) → (eqb n n && (beq s s || eqb n 0)) ≡ true
same_size true n = rw (eq-eqb n n refl)
same_size false n = rw (eq-eqb n n refl)

valued_self : (x : Float) (s : Bool) (a c : ℕ) → HasValue x s a c → eq x x ≡ true
unfolding eq
valued_self nan s a c v = absurd v
valued_self (inf t) s a c v = absurd v
valued_self (fin t m e) s a c v = same_size t (m * up e * down e)

inf_self : (s : Bool) → eq (inf s) (inf s) ≡ true
unfolding eq
inf_self true = refl
inf_self false = refl

cond_self : (b : Bool) (x y : Float) → eq x x ≡ true → eq y y ≡ true → eq (cond b x y) (cond b x y) ≡ true
cond_self true x y p q = p
cond_self false x y p q = q

-- and nothing is rounded to nan
units_self : (f : Format) (s : Bool) (q k : ℕ) → eq (units f s q k) (units f s q k) ≡ true
unfolding units
units_self f s q k =
    let x = odd (suc (prec f)) s q k (low f) in
    cond_self (ltb (q * 2 ^ k) (2 ^ (low f + suc (emax f)))) x (inf s) (valued_self x s (q * 2 ^ k) (2 ^ low f) (odd_sign (suc (prec f)) s q k (low f))) (inf_self s)

round_self : (f : Format) (s : Bool) (a b : ℕ) → eq (round f s a b) (round f s a b) ≡ true
round_self f s a b = subst (λ (x : Float). eq x x ≡ true) (sym (round_is f s a b)) (units_self f s _ _)

sum_self : (f : Format) (s : Bool) (a : ℕ) (t : Bool) (b c : ℕ) → eq (sum f s a t b c) (sum f s a t b c) ≡ true
unfolding sum
sum_self f s a t b c =
    cond_self (beq s t) (round f s (a + b) c) (cond (ltb a b) (round f t (b - a) c) (round f (s && ltb b a) (a - b) c)) (round_self f s (a + b) c)
    (cond_self (ltb a b) (round f t (b - a) c) (round f (s && ltb b a) (a - b) c) (round_self f t (b - a) c) (round_self f (s && ltb b a) (a - b) c))

-- the test: x - x equals itself exactly where x is finite
pub less_itself : (f : Format) (x : Float) → eq (sub f x x) (sub f x x) ≡ finite x
unfolding sub add neg eq
less_itself f nan = refl
less_itself f (inf true) = refl
less_itself f (inf false) = refl
less_itself f (fin s m e) = sum_self f s (m * up e * down e) (not s) (m * up e * down e) (down e * down e)

-- a sum of two is finite only where both are
pub finite_parts : (f : Format) (x y : Float) → finite (add f x y) ≡ true → (finite x ≡ true) × (finite y ≡ true)
unfolding add
finite_parts f nan y h = absurd (false≢true h)
finite_parts f (inf s) nan h = absurd (false≢true h)
finite_parts f (inf true) (inf true) h = absurd (false≢true h)
finite_parts f (inf true) (inf false) h = absurd (false≢true h)
finite_parts f (inf false) (inf true) h = absurd (false≢true h)
finite_parts f (inf false) (inf false) h = absurd (false≢true h)
finite_parts f (inf s) (fin t m e) h = absurd (false≢true h)
finite_parts f (fin s m e) nan h = absurd (false≢true h)
finite_parts f (fin s m e) (inf t) h = absurd (false≢true h)
finite_parts f (fin s m e) (fin t k d) h = (refl, refl)

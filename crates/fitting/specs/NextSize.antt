-- What the size that would have fitted is, by the listed sizes; and what the code goes by: for listed bits of a listed profile it is the least N from the
-- one asked for on that passes the test of sizes, and for any others 0. Rests on Fitting, and on Fit and Admits of sizes.
use Rattle.std.specs.Prelude.{ℕ, true, ◌↔◌, ◌≡◌, refl, eqb}
use mathlib.Core.List.Memᴰ
use mathlib.Core.List.{Memᴰ}
use Rattle.std.proofs.Common.{sym, ◌∙◌, eqb-true, eq-eqb}
use Rattle.laws.specs.Members.{both}
use Rattle.laws.specs.Next.{Next}
use Rattle.laws.specs.Least.{those, in_those, of_those, LeastFrom, one_least, least_same, least_none, least_those}
use Rattle.sizes.specs.declared.Size.{Size}
use Rattle.sizes.specs.Size.{size}
use Rattle.sizes.specs.Tests.{listed_sizes, profile_listed, bits_listed, size_listed}
use Rattle.sizes.specs.Listed.{size_by_lem}
use Rattle.profiles.specs.declared.Form.{Form}
use Rattle.profiles.specs.declared.Admitted.{Admitted}
use Rattle.profiles.specs.Profiles.{admitted_by, size_in}
use Rattle.sizes.specs.Fit.{listed_pos}
use Rattle.fitting.specs.Fitting.{alike, listed_for, fitting}
use Rattle.sizes.specs.Admits.{listed_passing, passing_listed}

-- N is listed for the profile and the bits of z
abbrev pub ListedFor : Size → ℕ → Type 0
ListedFor z n = Memᴰ (size z.profile z.bits n) listed_sizes

-- it stands on the list for them exactly if it is
listed_for_lem : (z : Size) (n : ℕ) → Memᴰ n (listed_for z) ↔ ListedFor z n
unfolding listed_for
listed_for_lem z n = (
  λ m.
      let y = Memᴰ.of_map (λ (y : Size). y.n) (those (alike z) listed_sizes) m in
      let p = of_those (alike z) listed_sizes y.1 in
      let q = both (eqb y.0.profile z.profile) _ p.1 in
      Memᴰ.cast (same y.0 (eqb-true _ _ q.0) (eqb-true _ _ q.1) y.2) p.0,
  λ m. Memᴰ.map (λ (y : Size). y.n) (in_those (alike z) listed_sizes m (own z n)),
)
  where
    same : (y : Size) → y.profile ≡ z.profile → y.bits ≡ z.bits → y.n ≡ n → size z.profile z.bits n ≡ y
    same y p b e = rw (← p, ← b, ← e) refl

    own : (z : Size) (n : ℕ) → alike z (size z.profile z.bits n) ≡ true
    own z n = rw (eq-eqb z.profile z.profile refl) (eq-eqb z.bits z.bits refl)

-- so the size that fits is the least listed one from N on, or 0
pub fitting_least : (z : Size) → LeastFrom (ListedFor z) z.n (fitting z)
unfolding fitting
fitting_least z = least_same (listed_for_lem z) (least_those (listed_for z) z.n (λ m i. listed_pos ((listed_for_lem z m).0 i)))

-- N passes the test, for the profile and the bits of z
abbrev pub Passes : Size → ℕ → Type 0
Passes z n = size_listed (size z.profile z.bits n) ≡ true

-- for listed bits of a listed profile it is the least that passes
pub fitting_is : (z : Size) → profile_listed z ≡ true → bits_listed z ≡ true → {r : ℕ} → LeastFrom (Passes z) z.n r → r ≡ fitting z
unfolding profile_listed bits_listed
fitting_is z p b l = one_least (least_same (λ m. (passing_listed (size z.profile z.bits m) p b, λ i. (listed_passing (size z.profile z.bits m) i).size_passes)) l) (fitting_least z)

-- which, by what the profile admits, is the least that passes the form's test
pub fitting_by : (z : Size) → profile_listed z ≡ true → bits_listed z ≡ true → {a : Admitted} → a ≡ admitted_by z.profile → {f : Form} → a.form ≡ f
    → {r : ℕ} → Next (size_in f a.unit a.limit z.bits) z.n r → r ≡ fitting z
fitting_by z p b e g l = fitting_is z p b (least_same (λ m. let t = size_by_lem (size z.profile z.bits m) e g in (λ h. t ∙ h, λ h. sym t ∙ h)) l)

-- and where none is listed, it is 0
pub fitting_none : (z : Size) → ((n : ℕ) → ListedFor z n → ⊥) → 0 ≡ fitting z
fitting_none z none = sym ((least_none (fitting_least z)).1 (λ m i. absurd (none m i)))

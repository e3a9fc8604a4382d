-- What a set of a listed size is. Of a carrier or a spatial profile: a block that the carrier laws hold for, N a positive multiple of d and N/d a
-- multiple of s, and above 3·r·bits, which is the most that a stream is turned by. Of the turbo family: a size from 40 to 5,114. Of the quadratic
-- family: a multiple of 8 from 40 to 6,144. Of couples: a multiple of 4 from 24 to 2,400. Read off the test of its size (specs/Fit.antt of sizes).
use Rattle.std.specs.Prelude.{◌≡◌, true, ◌*◌, ◌/◌, ◌%◌, ◌≤◌, ◌<◌, leb, ltb, eqb}
use Rattle.std.proofs.Math.Path.{sym}
use Rattle.std.proofs.Common.{ap, ◌∙◌, arith}
use mathlib.Core.List.{Memᴰ}
use Rattle.std.proofs.Math.Nat.{div-add-mod}
use borrow.Author.Tests.{leb-true, ltb-true, eqb-true}
use Rattle.laws.specs.Members.{both}
use Rattle.laws.specs.Sized.{Sized}
use Rattle.profiles.specs.declared.Family.{Family}
use Rattle.profiles.specs.declared.Family.TheVariants.{Carrier, Spatial, Turbo, Quadratic, Coupled}
use Rattle.sizes.specs.Tests.{listed_sizes}
use Rattle.sizes.specs.Fit.{divides, fit_by, fits_in, listed_pos}
use Rattle.sets.specs.declared.Set.{Set}
use Rattle.sets.specs.Set.{size_of, family_of, numbers_of, rows_of, rotation_of, group_of}

pub record Carried (s : Set) : Type 0 where
  pub sized : Sized (rows_of s) s.n (group_of s)
  pub small : s.n ≤ 1536
  pub below : 3 * (rotation_of s * s.bits) < s.n

carried_by : (s : Set) → 0 < s.n → divides (size_of s) ≡ true → Carried s
unfolding divides numbers_of group_of
carried_by s pos e =
    let p = both (ltb 0 (rows_of s)) _ e in
    let q = both (ltb 0 (group_of s)) _ p.1 in
    let t = both (eqb (s.n % (rows_of s * group_of s)) 0) _ q.1 in
    let u = both (leb s.n 1536) _ t.1 in
    record {
      sized = record {
        d_pos = ltb-true 0 (rows_of s) p.0;
        s_pos = ltb-true 0 (group_of s) q.0;
        n_pos = pos;
        groups = s.n / (rows_of s * group_of s);
        whole = omega (arith, div-add-mod s.n (rows_of s * group_of s), eqb-true (s.n % (rows_of s * group_of s)) 0 t.0);
      };
      small = leb-true s.n 1536 u.0;
      below = ltb-true _ s.n u.1;
    }

-- what a set of a listed size is, by its family
module _ (s : Set) (m : Memᴰ (size_of s) listed_sizes) where
  fit_by_lem : {f : Family} → family_of s ≡ f → fit_by f (size_of s) ≡ true
  unfolding family_of
  fit_by_lem e = sym (ap (λ (f : Family). fit_by f (size_of s)) e) ∙ (fits_in m).1

  pub carrier_fit : family_of s ≡ Carrier → Carried s
  unfolding fit_by
  carrier_fit e = carried_by s (listed_pos m) (fit_by_lem e)

  pub spatial_fit : family_of s ≡ Spatial → Carried s
  unfolding fit_by
  spatial_fit e = carried_by s (listed_pos m) (fit_by_lem e)

  pub turbo_fit : family_of s ≡ Turbo → (40 ≤ s.n) × (s.n ≤ 5114)
  unfolding fit_by
  turbo_fit e = let p = both (leb 40 s.n) (leb s.n 5114) (fit_by_lem e) in (leb-true 40 s.n p.0, leb-true s.n 5114 p.1)

  pub quadratic_fit : family_of s ≡ Quadratic → (40 ≤ s.n) × (s.n ≤ 6144) × (s.n % 8 ≡ 0)
  unfolding fit_by
  quadratic_fit e =
      let p = both (leb 40 s.n) _ (fit_by_lem e) in
      let q = both (leb s.n 6144) _ p.1 in
      (leb-true 40 s.n p.0, leb-true s.n 6144 q.0, eqb-true (s.n % 8) 0 q.1)

  pub coupled_fit : family_of s ≡ Coupled → (24 ≤ s.n) × (s.n ≤ 2400) × (s.n % 4 ≡ 0)
  unfolding fit_by
  coupled_fit e =
      let p = both (leb 24 s.n) _ (fit_by_lem e) in
      let q = both (leb s.n 2400) _ p.1 in
      (leb-true 24 s.n p.0, leb-true s.n 2400 q.0, eqb-true (s.n % 4) 0 q.1)

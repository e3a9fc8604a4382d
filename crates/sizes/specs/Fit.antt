-- What a listed size is, as a test: no N is 0, and by the family it is more. Of a carrier or a spatial profile N is a multiple of d·s, at most 1,536 and
-- above 3·r·bits; of the turbo family it is from 40 to 5,114; of the quadratic family a multiple of 8 from 40 to 6,144; of couples a multiple of 4 from 24
-- to 2,400. Computed over the sizes of the table, but for the turbo sizes, where it is shown. Rests on Tests, and on Counted of profiles.
use Rattle.std.specs.Prelude.{◌≡◌, refl, Bool, true, ◌&&◌, ◌*◌, ◌%◌, ◌<◌, leb, ltb, eqb}
use Rattle.std.proofs.Common.{sym, ap, ◌∙◌, ⊎_elim, arith, le-leb, ltb-true, lt-ltb}
use mathlib.Core.List.Memᴰ
use mathlib.Core.List.{◌++◌, Memᴰ, append-nil}
use Rattle.laws.specs.Members.{both, every, at_each}
use Rattle.profiles.specs.declared.Family.{Family}
use Rattle.profiles.specs.declared.Family.TheVariants.{Carrier, Spatial, Turbo, Quadratic, Coupled}
use Rattle.profiles.specs.Profiles.{family_by, numbers_by, group_by, entry_by, turbo_sizes, lte_sizes, couple_sizes, carriers, turbos, spatials, quadratics, coupleds}
use Rattle.profiles.proofs.Counted.{turbo_range}
use Rattle.sizes.specs.declared.Size.{Size}
use Rattle.sizes.specs.Size.{size, all_sizes, either_all}
use Rattle.sizes.specs.Tests.{listed_sizes}

-- what a size of a carrier or a spatial profile is, as a test
unfoldable pub divides : Size → Bool
divides z =
    let d = (numbers_by z.profile).d in
    let g = group_by z.bits in
    ltb 0 d && (ltb 0 g && (eqb (z.n % (d * g)) 0 && (leb z.n 1536 && ltb (3 * ((numbers_by z.profile).r * z.bits)) z.n)))

-- by family
unfoldable pub fit_by : Family → Size → Bool
fit_by Carrier z = divides z
fit_by Spatial z = divides z
fit_by Turbo z = leb 40 z.n && leb z.n 5114
fit_by Quadratic z = leb 40 z.n && (leb z.n 6144 && eqb (z.n % 8) 0)
fit_by Coupled z = leb 24 z.n && (leb z.n 2400 && eqb (z.n % 4) 0)

fit : Size → Bool
fit z = ltb 0 z.n && fit_by (family_by z.profile) z

carriers_fit : every fit (all_sizes carriers) ≡ true
unfolding fit fit_by divides entry_by
carriers_fit = refl

spatials_fit : every fit (all_sizes spatials) ≡ true
unfolding fit fit_by divides entry_by
spatials_fit = refl

quadratics_fit : every fit (all_sizes quadratics) ≡ true
unfolding fit fit_by entry_by lte_sizes
quadratics_fit = refl

coupleds_fit : every fit (all_sizes coupleds) ≡ true
unfolding fit fit_by entry_by couple_sizes
coupleds_fit = refl

turbos_fit : {z : Size} → Memᴰ z (all_sizes turbos) → fit z ≡ true
unfolding fit fit_by entry_by
turbos_fit {z} m =
    let q = Memᴰ.of_map (size 5 1) turbo_sizes (simp append-nil at m) in
    let r = turbo_range q.1 in
    ap fit (sym q.2) ∙ simp (lt-ltb 0 q.0 (omega (arith, r.0)), le-leb 40 q.0 r.0, le-leb q.0 5114 r.1)

listed_fit : {z : Size} → Memᴰ z listed_sizes → fit z ≡ true
unfolding listed_sizes
listed_fit m =
    ⊎_elim (at_each fit (all_sizes carriers) carriers_fit)
    (λ m. ⊎_elim turbos_fit
    (λ m. ⊎_elim (at_each fit (all_sizes spatials) spatials_fit)
    (λ m. ⊎_elim (at_each fit (all_sizes quadratics) quadratics_fit) (at_each fit (all_sizes coupleds) coupleds_fit) (either_all quadratics coupleds m))
    (either_all spatials (quadratics ++ coupleds) m))
    (either_all turbos (spatials ++ (quadratics ++ coupleds)) m))
    (either_all carriers (turbos ++ (spatials ++ (quadratics ++ coupleds))) m)

-- no N of them is 0, and by the family it is more
pub fits_in : {z : Size} → Memᴰ z listed_sizes → (ltb 0 z.n ≡ true) × (fit_by (family_by z.profile) z ≡ true)
unfolding fit
fits_in {z} m = both (ltb 0 z.n) _ (listed_fit m)

pub listed_pos : {z : Size} → Memᴰ z listed_sizes → 0 < z.n
listed_pos {z} m = ltb-true 0 z.n (fits_in m).0

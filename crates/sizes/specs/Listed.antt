-- Every size that is counted out passes the tests; how many sizes the turbo profile has; and what the code's proofs need of the tests. Computed for every
-- entry but the turbo one, where it is shown. (That every size that passes is counted out, proofs/Counted.antt of profiles shows.) Rests on Tests, and on Entered and
-- Counted of profiles.
use Rattle.std.specs.Prelude.{◌≡◌, refl, Bool, true, ◌&&◌, ℕ, max, ◌+◌, ◌*◌, ◌/◌, ◌<◌, ltb, eqb, length}
use Rattle.std.proofs.Common.{sym, ◌∙◌, mul-pos, mul-le-mul_right, le_of_lt, arith, le-leb, ltb-true, eqb-true}
use Rattle.std.proofs.Math.Path.{ap}
use mathlib.Core.List.Memᴰ
use mathlib.Core.List.{map, append-nil, Memᴰ}
use Rattle.std.proofs.lemmas.List.{length-map}
use Rattle.laws.specs.Run.{length_run}
use Rattle.laws.specs.Members.{both, every, at_each, All, one_of, one_of_lem}
use Rattle.profiles.specs.declared.Bits.{Bits}
use Rattle.profiles.specs.declared.Bits.TheVariants as kinds
use Rattle.profiles.specs.declared.Form.{Form}
use Rattle.profiles.specs.declared.Admitted.{Admitted}
use Rattle.profiles.specs.Entry.{Entry}
use Rattle.profiles.specs.Profiles.{turbo_sizes, lte_sizes, couple_sizes, turbo, carriers, spatials, quadratics, coupleds, profiles, entry_by, admitted_by}
use Rattle.profiles.specs.Profiles.{group_by, bits_of, bits_in, size_in, size_by}
use Rattle.profiles.specs.Entered.{in_profiles, every_profile}
use Rattle.profiles.proofs.Counted.{turbo_range}
use Rattle.sizes.specs.declared.Size.{Size}
use Rattle.sizes.specs.Size.{size, sizes_of}
use Rattle.sizes.specs.Tests.{profile_listed, bits_listed, size_listed}

-- all three pass
abbrev pub passes : Size → Bool
passes z = profile_listed z && (bits_listed z && size_listed z)

-- each size of an entry does; and the same as a test
abbrev pub EachPasses : Entry → Type 0
EachPasses q = (z : Size) → Memᴰ z (sizes_of q) → passes z ≡ true

each_passes : Entry → Bool
each_passes q = every passes (sizes_of q)

carriers_pass : every each_passes carriers ≡ true
unfolding each_passes profile_listed bits_listed size_listed entry_by
carriers_pass = refl

spatials_pass : every each_passes spatials ≡ true
unfolding each_passes profile_listed bits_listed size_listed entry_by
spatials_pass = refl

quadratics_pass : every each_passes quadratics ≡ true
unfolding each_passes profile_listed bits_listed size_listed entry_by lte_sizes
quadratics_pass = refl

coupleds_pass : every each_passes coupleds ≡ true
unfolding each_passes profile_listed bits_listed size_listed entry_by couple_sizes
coupleds_pass = refl

turbo_passes : EachPasses turbo
unfolding profile_listed bits_listed size_listed entry_by
turbo_passes z m =
    let q = Memᴰ.of_map (size 5 1) turbo_sizes (rw append-nil at m) in
    let r = turbo_range q.1 in
    ap passes (sym q.2) ∙ simp (le-leb 40 q.0 r.0, le-leb q.0 5114 r.1)

each_passes_lem : (q : Entry) → each_passes q ≡ true → EachPasses q
unfolding each_passes
each_passes_lem q e z m = at_each passes (sizes_of q) e m

pub all_pass : All EachPasses profiles
all_pass = every_profile EachPasses each_passes each_passes_lem carriers_pass turbo_passes spatials_pass quadratics_pass coupleds_pass

-- how many sizes the turbo profile has, which is too many to compute
pub length_turbo : length (sizes_of turbo) ≡ 5075
unfolding turbo_sizes
length_turbo = ap length (append-nil (map (size 5 1) turbo_sizes)) ∙ length-map turbo_sizes (size 5 1) ∙ length_run (λ j. 40 + j) 0 5075

-- the bits that are listed are among 1, 2, 4, 6
bits_among : (z : Size) → bits_listed z ≡ true → Memᴰ z.bits (bits_of kinds.Each)
unfolding bits_listed
bits_among z e = go (admitted_by z.profile).bits e
  where
    go : (k : Bits) → one_of z.bits (bits_of k) ≡ true → Memᴰ z.bits (bits_of kinds.Each)
    go kinds.Each e = one_of_lem z.bits (bits_of kinds.Each) e
    go kinds.Even e = Memᴰ.tail (one_of_lem z.bits (bits_of kinds.Even) e)
    go kinds.One e = Memᴰ.head (Memᴰ.eq_of_singleton (one_of_lem z.bits (bits_of kinds.One) e))

-- so they are small, and s is what IEEE 802.11 has, max(N_BPSC/2, 1)
pub bits_small : (z : Size) → bits_listed z ≡ true → (0 < z.bits) × (z.bits < 7)
bits_small z e =
    let q = both (ltb 0 z.bits) (ltb z.bits 7) (at_each (λ b. ltb 0 b && ltb b 7) (bits_of kinds.Each) refl (bits_among z e)) in
    (ltb-true 0 z.bits q.0, ltb-true z.bits 7 q.1)

pub group_standard : (z : Size) → bits_listed z ≡ true → group_by z.bits ≡ max (z.bits / 2) 1
group_standard z e = eqb-true _ _ (at_each (λ b. eqb (group_by b) (max (b / 2) 1)) (bits_of kinds.Each) refl (bits_among z e))

-- every unit is below 1,000, and every limit below 65,536, so that nothing wraps in a size's test, or in going on from a size
pub unit_small : (p : ℕ) → (0 < (admitted_by p).unit) × ((admitted_by p).unit < 1000)
unit_small p =
    let q = at_each (λ q. ltb 0 q.admitted.unit && ltb q.admitted.unit 1000) profiles refl (in_profiles p) in
    let r = both (ltb 0 (admitted_by p).unit) (ltb (admitted_by p).unit 1000) q in
    (ltb-true 0 _ r.0, ltb-true _ 1000 r.1)

pub limit_small : (p : ℕ) → (admitted_by p).limit < 65536
limit_small p = ltb-true _ 65536 (at_each (λ q. ltb q.admitted.limit 65536) profiles refl (in_profiles p))

pub unit_times : (p : ℕ) {a : Admitted} → a ≡ admitted_by p → (b : ℕ) → 0 < b → b < 7 → (0 < a.unit * b) × (a.unit * b < 6001)
unit_times p e b lo hi =
    let u = unit_small p in
    rw e (mul-pos u.0 lo, omega (arith, mul-le-mul_right b (le_of_lt u.1), u.1))

-- the tests of bits and N, by what the profile admits
module _ (z : Size) {a : Admitted} (e : a ≡ admitted_by z.profile) where
  pub bits_by : {k : Bits} → a.bits ≡ k → bits_listed z ≡ one_of z.bits (bits_of k)
  unfolding bits_listed
  bits_by g = ap (λ (x : Admitted). bits_in x z.bits) (sym e) ∙ ap (λ (k : Bits). one_of z.bits (bits_of k)) g

  pub size_by_lem : {f : Form} → a.form ≡ f → size_listed z ≡ size_in f a.unit a.limit z.bits z.n
  unfolding size_listed
  size_by_lem g =
      ap (λ (x : Admitted). size_by x z.bits z.n) (sym e)
      ∙ ap (λ (f : Form). size_in f a.unit a.limit z.bits z.n) g

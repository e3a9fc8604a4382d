-- Exactly the sizes of the table that is counted out (specs/Profiles.antt of profiles) pass the three tests. The one way goes by what specs/Listed.antt shows
-- of every profile, the other by proofs/Counted.antt of profiles. Rests on Tests and Listed, and on Entered and Counted of profiles.
use Rattle.std.specs.Prelude.{◌≡◌, true, ◌&&◌, ℕ, ◌≤◌, leb}
use Rattle.std.proofs.Common.{sym, leb-true}
use Rattle.std.proofs.Math.Path.{subst}
use mathlib.Core.List.Memᴰ
use mathlib.Core.List.{Memᴰ}
use Rattle.laws.specs.Members.{both, at_each, by_member, in_chained, of_chained}
use Rattle.profiles.specs.Entry.{some, some_of, Entry}
use Rattle.profiles.specs.Profiles.{profiles, last_profile, entry_by, bits_in, size_by}
use Rattle.profiles.proofs.Counted.{HasEach, Counted, entry_counted}
use Rattle.profiles.specs.Entered.{in_profiles, own_number}
use Rattle.sizes.specs.declared.Size.{Size}
use Rattle.sizes.specs.Size.{size, sizes_of, in_rows}
use Rattle.sizes.specs.Tests.{listed_sizes, profile_listed, bits_listed, size_listed}
use Rattle.sizes.specs.Listed.{EachPasses, all_pass}

-- bits that pass have a row
module _ (q : Entry) (a : Counted q) (b : ℕ) (e : bits_in q.admitted b ≡ true) where
  -- with some size in it
  some_in : (m : ℕ) × Memᴰ (size q.number b m) (sizes_of q)
  some_in =
      let r = Memᴰ.of_map (λ r. r.bits) q.rows (a.has_row_lem b e) in
      let m = some_of r.0.sizes (at_each (λ r. some r.sizes) q.rows a.has_size r.1) in
      (m.0, subst (λ (b : ℕ). Memᴰ (size q.number b m.0) (sizes_of q)) r.2 (in_rows q.number q.rows r.1 m.1))

  -- and with N in it, where N passes
  stands_in : (n : ℕ) → size_by q.admitted b n ≡ true → Memᴰ (size q.number b n) (sizes_of q)
  stands_in n =
      let r = Memᴰ.of_map (λ r. r.bits) q.rows (a.has_row_lem b e) in
      let each = by_member (HasEach q.admitted) q.rows a.has_each r.1 in
      subst (λ (b : ℕ). size_by q.admitted b n ≡ true → Memᴰ (size q.number b n) (sizes_of q)) r.2
      (λ h. in_rows q.number q.rows r.1 (each n h))

-- the profile is listed: 1 to the last
pub profile_range : (z : Size) → profile_listed z ≡ true → (1 ≤ z.profile) × (z.profile ≤ last_profile)
unfolding profile_listed
profile_range z e =
    let q = both (leb 1 z.profile) (leb z.profile last_profile) e in
    (leb-true 1 z.profile q.0, leb-true z.profile last_profile q.1)

module _ (z : Size) (p : profile_listed z ≡ true) (b : bits_listed z ≡ true) where
  -- what stands in its entry is listed
  in_table_lem : {m : ℕ} → Memᴰ (size (entry_by z.profile).number z.bits m) (sizes_of (entry_by z.profile))
      → Memᴰ (size z.profile z.bits m) listed_sizes
  unfolding listed_sizes
  in_table_lem {m} i =
      let r = profile_range z p in
      subst (λ (p : ℕ). Memᴰ (size p z.bits m) listed_sizes) (sym (own_number z.profile r.0 r.1))
      (in_chained sizes_of profiles (in_profiles z.profile) i)

  -- for listed bits of a listed profile some size is listed
  pub some_listed : (m : ℕ) × Memᴰ (size z.profile z.bits m) listed_sizes
  unfolding bits_listed
  some_listed = let m = some_in (entry_by z.profile) (entry_counted z.profile) z.bits b in (m.0, in_table_lem m.1)

  -- and N is, where it passes
  pub passing_listed : size_listed z ≡ true → Memᴰ z listed_sizes
  unfolding bits_listed size_listed
  passing_listed h = in_table_lem (stands_in (entry_by z.profile) (entry_counted z.profile) z.bits b z.n h)

-- a listed size passes the three tests
pub record Passing (z : Size) : Type 0 where
  pub profile_passes : profile_listed z ≡ true
  pub bits_pass : bits_listed z ≡ true
  pub size_passes : size_listed z ≡ true

pub listed_passing : (z : Size) → Memᴰ z listed_sizes → Passing z
unfolding listed_sizes
listed_passing z m =
    let q = of_chained sizes_of profiles m in
    let p = both (profile_listed z) (bits_listed z && size_listed z) (by_member EachPasses profiles all_pass q.1 z q.2) in
    let b = both (bits_listed z) (size_listed z) p.1 in
    record { profile_passes = p.0; bits_pass = b.0; size_passes = b.1 }

pub listed_range : (z : Size) → Memᴰ z listed_sizes → (1 ≤ z.profile) × (z.profile ≤ last_profile)
listed_range z m = profile_range z (listed_passing z m).profile_passes

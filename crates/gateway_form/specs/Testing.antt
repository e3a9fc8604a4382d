-- The tests of an entry and of a store, one after the other, and the loop over the entries.
use Rattle.std.specs.Prelude.{ℕ, suc, ◌+◌, ◌-◌, ◌*◌, ◌≤◌, ◌<◌, Bool, true, false, ◌&&◌, List, ◌≡◌, refl, eqb, length, drop}
use Rattle.std.proofs.Math.Bool.{and-false}
use Rattle.std.proofs.Math.Path.{sym, ap}
use Rattle.std.proofs.Common.{◌∙◌, add-one}
use Rattle.std.proofs.Math.Nat.{sub-zero}
use native.Mathlib.Omega.{arith}
use borrow.Author.Tests.{eq-eqb, ne_eqb, lt-ltb, le-ltb, le-leb, lt-leb, eqb-true}
use Rattle.laws.specs.Gapless.{meet, meet_none, meet_apart, meet_more}
use Rattle.laws.specs.Members.{both, every}
use Rattle.laws.specs.Parts.{part}
use Rattle.laws.specs.Run.{run}
use Rattle.kinds.specs.Kinds.{known, sizes_of, sound, in_range}
use Rattle.gateway_form.specs.Form.{kind_of, direction_of, length_of, offset_of, branch_of, record_of, directed, entry_fits}
use Rattle.gateway_form.specs.Form.{machines_in, entry_place, entry_in, offset_in, length_in, entries_fit, formed}
use Rattle.gateway_form.specs.Limits.{Limits, bytes_below}
use Rattle.gateway_form.specs.Places.{range_bytes}

-- ---- an entry

module _ (e : List ℕ) where
  pub kind_unknown : known (kind_of e) ≡ false → false ≡ entry_fits e
  unfolding entry_fits
  kind_unknown h = rw h

  module _ (k : known (kind_of e) ≡ true) where
    pub not_directed : directed (direction_of e) ≡ false → false ≡ entry_fits e
    unfolding entry_fits
    not_directed h = rw (k, h)

    module _ (d : directed (direction_of e) ≡ true) where
      pub other_length : (length_of e ≡ (sizes_of (kind_of e)).store → ⊥) → false ≡ entry_fits e
      unfolding entry_fits
      other_length n = rw (k, d, ne_eqb (length_of e) (sizes_of (kind_of e)).store n)

      module _ (l : length_of e ≡ (sizes_of (kind_of e)).store) where
        by_range : {t : Bool} → in_range (record_of e) ≡ t → t ≡ entry_fits e
        unfolding entry_fits
        by_range q = rw (k, d, eq-eqb (length_of e) (sizes_of (kind_of e)).store l) (sym q)

        pub branch_out : (sizes_of (kind_of e)).branches ≤ branch_of e → false ≡ entry_fits e
        unfolding in_range
        branch_out h = by_range (rw (le-ltb (branch_of e) (sizes_of (kind_of e)).branches h))

        pub by_places : branch_of e < (sizes_of (kind_of e)).branches → (limits : List ℕ) → Limits (sizes_of (kind_of e)) limits
            → {bytes : List ℕ} → bytes ≡ drop 20 e → bytes_below bytes limits ≡ entry_fits e
        by_places h limits row q =
            ap (λ (l : List ℕ). bytes_below l limits) q
            ∙ by_range (sym (range_bytes e limits row) ∙ rw (lt-ltb (branch_of e) (sizes_of (kind_of e)).branches h))

-- a kind that isn't DVB has the numbers of ATSC
pub of_atsc : (k : ℕ) → (k ≡ 1 → ⊥) → sizes_of k ≡ sizes_of 2
unfolding sizes_of
of_atsc k n = rw (ne_eqb k 1 n)

-- its length is the kind's, so it is low
pub fits_low : (e : List ℕ) → entry_fits e ≡ true → length_of e ≤ 5304
unfolding entry_fits
fits_low e t =
    let p = both (known (kind_of e)) _ t in
    let q = both (directed (direction_of e)) _ p.1 in
    let r = both (eqb (length_of e) (sizes_of (kind_of e)).store) _ q.1 in
    omega (arith, eqb-true (length_of e) (sizes_of (kind_of e)).store r.0, (sound (kind_of e)).low)

-- ---- the loop over entries: those before vessel i fit, its entry begins at `at`, and its share is to begin at share

pub record Testing (f : List ℕ) (machines share at i : ℕ) : Type 0 where
  pub here : i ≤ machines
  pub place : at ≡ entry_place i
  -- (1,796 is the longest header, 5,304 the longest share)
  pub small : share ≤ 1796 + 5304 * i
  pub same : entries_fit f (machines - i) i share ≡ entries_fit f machines 0 (entry_place machines)

pub testing_first : (f : List ℕ) (machines : ℕ) → machines ≤ 8 → Testing f machines (entry_place machines) 4 0
testing_first f machines h = record { here = omega arith; place = refl; small = omega arith; same = rw sub-zero }

module _ {f : List ℕ} {machines share at i : ℕ} (g : Testing f machines share at i) where
  pub testing_end : machines ≤ i → eqb share (length f) ≡ entries_fit f machines 0 (entry_place machines)
  unfolding entries_fit
  testing_end h =
      let e : machines - i ≡ 0 = omega arith in
      meet_none (offset_in f) (length_in f) (length f) machines i share h
      ∙ sym (ap (λ (k : ℕ). every entry_fits (run (entry_in f) i k) && meet (offset_in f) (length_in f) (length f) (machines - i) i share) e) ∙ g.same

  module _ (h : i < machines) {e : List ℕ} (is : e ≡ part at 224 f) where
    the_entry : e ≡ entry_in f i
    unfolding entry_in
    the_entry = is ∙ ap (λ (k : ℕ). part k 224 f) g.place

    abbrev rest : Bool
    rest = every entry_fits (run (entry_in f) (i + 1) (machines - (i + 1)))

    one_left : every entry_fits (run (entry_in f) i (machines - i)) ≡ (entry_fits e && rest)
    one_left = rw (the_entry, let q : machines - i ≡ suc (machines - (i + 1)) = omega arith in q, add-one i)

    from_here : ((entry_fits e && rest) && meet (offset_in f) (length_in f) (length f) (machines - i) i share) ≡ entries_fit f machines 0 (entry_place machines)
    unfolding entries_fit
    from_here = ap (λ (b : Bool). b && meet (offset_in f) (length_in f) (length f) (machines - i) i share) (sym one_left) ∙ g.same

    pub entry_bad : entry_fits e ≡ false → false ≡ entries_fit f machines 0 (entry_place machines)
    entry_bad n = sym (rw n) ∙ from_here

    pub share_apart : (offset_of e ≡ share → ⊥) → false ≡ entries_fit f machines 0 (entry_place machines)
    share_apart n =
        let q = meet_apart (offset_in f) (length_in f) (length f) machines i share h (λ p. n (ap offset_of the_entry ∙ p)) in
        sym (and-false (entry_fits e && rest)) ∙ ap (λ (b : Bool). (entry_fits e && rest) && b) (sym q) ∙ from_here

    pub testing_more : entry_fits e ≡ true → offset_of e ≡ share → {v : ℕ} → v ≡ length_of e → Testing f machines (share + v) (at + 224) (i + 1)
    unfolding entries_fit
    testing_more t o {v} q = record {
      here = omega arith;
      place = omega (arith, g.place);
      small = omega (arith, g.small, q, fits_low e t);
      same =
          let m = meet_more (offset_in f) (length_in f) (length f) machines i share h (ap offset_of (sym the_entry) ∙ o) in
          ap (λ (k : ℕ). rest && meet (offset_in f) (length_in f) (length f) (machines - (i + 1)) (i + 1) (share + k)) (q ∙ ap length_of the_entry)
          ∙ ap (λ (b : Bool). rest && b) m ∙ sym (rw t) ∙ from_here;
    }

-- ---- a store

module _ (f : List ℕ) where
  pub too_short : length f < 4 → false ≡ formed f
  unfolding formed
  too_short h = simp (lt-leb 4 (length f) h)

  module _ (l : 4 ≤ length f) {v : ℕ} (q : v ≡ machines_in f) where
    pub no_machine : v < 1 → false ≡ formed f
    unfolding formed
    no_machine w = simp (le-leb 4 (length f) l, lt-leb 1 (machines_in f) (rw q at w))

    module _ (one : 1 ≤ v) where
      pub many_machines : 8 < v → false ≡ formed f
      unfolding formed
      many_machines w = simp (le-leb 4 (length f) l, le-leb 1 (machines_in f) (rw q at one), lt-leb (machines_in f) 8 (rw q at w))

      module _ (few : v ≤ 8) where
        pub header_cut : length f < entry_place v → false ≡ formed f
        unfolding formed
        header_cut w =
            simp (
              le-leb 4 (length f) l,
              le-leb 1 (machines_in f) (rw q at one),
              le-leb (machines_in f) 8 (rw q at few),
              lt-leb (entry_place (machines_in f)) (length f) (rw q at w),
            )

        pub by_entries : entry_place v ≤ length f → entries_fit f v 0 (entry_place v) ≡ formed f
        unfolding formed
        by_entries w =
            ap (λ (x : ℕ). entries_fit f x 0 (entry_place x)) q
            ∙ sym (simp (
              le-leb 4 (length f) l,
              le-leb 1 (machines_in f) (rw q at one),
              le-leb (machines_in f) 8 (rw q at few),
              le-leb (entry_place (machines_in f)) (length f) (rw q at w),
            ))

-- An entry's branch and places lie in their ranges exactly if the branch is below the kind's and the bytes of the places are below their limits.
use Prim.Native.Nat.{ℕ, zero, suc, ◌+◌, ◌-◌, ◌*◌, ◌/◌, ◌≤◌, ◌<◌}
use Rattle.std.specs.Prelude.{Bool, true, false, ◌&&◌, List, ◌≡◌, refl, ltb, drop}
use Rattle.std.proofs.Common.{⊎_elim, sym, ap, ◌∙◌, zero-add, get_or-drop}
use native.Mathlib.Omega.{arith}
use Rattle.std.proofs.Math.ListN.{get_or}
use borrow.Author.Tests.{lt-ltb, ltb-true}
use Rattle.laws.specs.Members.{both, at_run, every_run}
use Rattle.laws.specs.Run.{get_or_run}
use Rattle.big_end.specs.Numbers.{number_at}
use Rattle.kinds.specs.declared.sizes.Sizes.{Sizes}
use Rattle.kinds.specs.Kinds.{sizes_of, sound, in_range}
use Rattle.kinds.specs.Ranges.{Ranges, ranges, range_in}
use Rattle.gateway_form.specs.Form.{kind_of, branch_of, places_of, record_of}
use Rattle.gateway_form.specs.Limits.{byte_below, bytes_below, limit_of, byte_limit, Limits, limit_last, limit_one, limit_own, limit_lacking, either_side, by_place}

-- two tests that pass for each other are the same
same_test : (a b : Bool) → (a ≡ true → b ≡ true) → (b ≡ true → a ≡ true) → a ≡ b
same_test true b f g = sym (f refl)
same_test false true f g = g refl
same_test false false f g = refl

-- one place, of limit 256 at most
module _ (z : Sizes) (e : List ℕ) (x : ℕ) (low : limit_of z x ≤ 256) where
  bytes_of : number_at e (20 + 4 * x) < limit_of z x → (r : ℕ) → r < 4 → get_or e (20 + (4 * x + r)) 0 < byte_limit z (4 * x + r)
  unfolding number_at
  bytes_of h zero l = rw (limit_one z x 0 (omega arith), let q : 20 + (4 * x + 0) ≡ 20 + 4 * x = omega arith in q) (omega arith)
  bytes_of h (suc zero) l = rw (limit_one z x 1 (omega arith), let q : 20 + (4 * x + 1) ≡ 20 + 4 * x + 1 = omega arith in q) (omega arith)
  bytes_of h (suc (suc zero)) l = rw (limit_one z x 2 (omega arith), let q : 20 + (4 * x + 2) ≡ 20 + 4 * x + 2 = omega arith in q) (omega arith)
  bytes_of h (suc (suc (suc zero))) l = rw (limit_last z x, let q : 20 + (4 * x + 3) ≡ 20 + 4 * x + 3 = omega arith in q) (omega arith)
  bytes_of h (suc (suc (suc (suc r)))) l = absurd (omega arith)

  of_bytes : ((r : ℕ) → r < 4 → get_or e (20 + (4 * x + r)) 0 < byte_limit z (4 * x + r)) → number_at e (20 + 4 * x) < limit_of z x
  unfolding number_at
  of_bytes h =
      let a : get_or e (20 + 4 * x) 0 < 1 = rw (limit_one z x 0 (omega arith), let q : 20 + (4 * x + 0) ≡ 20 + 4 * x = omega arith in q) at (h 0 (omega arith)) in
      let b : get_or e (20 + 4 * x + 1) 0 < 1 = rw (limit_one z x 1 (omega arith), let q : 20 + (4 * x + 1) ≡ 20 + 4 * x + 1 = omega arith in q) at (h 1 (omega arith)) in
      let c : get_or e (20 + 4 * x + 2) 0 < 1 = rw (limit_one z x 2 (omega arith), let q : 20 + (4 * x + 2) ≡ 20 + 4 * x + 2 = omega arith in q) at (h 2 (omega arith)) in
      let d : get_or e (20 + 4 * x + 3) 0 < limit_of z x = rw (limit_last z x, let q : 20 + (4 * x + 3) ≡ 20 + 4 * x + 3 = omega arith in q) at (h 3 (omega arith)) in
      omega arith

pub place_at : (e : List ℕ) (x : ℕ) → x < 51 → get_or (places_of e) x 0 ≡ number_at e (20 + 4 * x)
unfolding places_of
place_at e x h = get_or_run (λ x. number_at e (20 + 4 * x)) 0 51 x 0 h ∙ ap (λ (y : ℕ). number_at e (20 + 4 * y)) (zero-add x)

module _ (e limits : List ℕ) where
  abbrev z : Sizes
  z = sizes_of (kind_of e)

  limit_low : (x : ℕ) → limit_of z x ≤ 256
  limit_low x = ⊎_elim
      (λ h. omega (arith, limit_own z x h, (sound (kind_of e)).ring (x + 1) h))
      (λ h. omega (arith, limit_lacking z x h))
      (either_side (x + 1) z.branches)

  in_ranges : Ranges (record_of e) → (x : ℕ) → x < 51 → number_at e (20 + 4 * x) < limit_of z x
  in_ranges r x l = ⊎_elim
      (λ h.
      let p = r.places (x + 1) (omega arith) h in
      let q : x + 1 - 1 ≡ x = omega arith in
      omega (arith, limit_own z x h, place_at e x l, rw q at p))
      (λ h. omega (arith, limit_lacking z x h, place_at e x l, r.lacks x l (omega arith)))
      (either_side (x + 1) z.branches)

  of_limits : branch_of e < z.branches → ((x : ℕ) → x < 51 → number_at e (20 + 4 * x) < limit_of z x) → Ranges (record_of e)
  of_limits b h = record {
    branch = b;
    places = λ x p l.
        let q : x - 1 + 1 ≡ x = omega arith in
        let own = limit_own z (x - 1) (omega arith) in
        let few = (sound (kind_of e)).few in
        omega (arith, rw q at own, place_at e (x - 1) (omega arith), h (x - 1) (omega arith));
    lacks = λ j l n. omega (arith, limit_lacking z j (omega arith), place_at e j l, h j l);
  }

  module _ (row : Limits z limits) where
    bytes_below_lem : ((x : ℕ) → x < 51 → number_at e (20 + 4 * x) < limit_of z x) → bytes_below (drop 20 e) limits ≡ true
    unfolding bytes_below
    bytes_below_lem h =
        every_run (byte_below (drop 20 e) limits) (λ i. i) 0 204 (λ i a l.
        let p = by_place (λ j. get_or e (20 + j) 0 < byte_limit z j) i (bytes_of z e (i / 4) (limit_low (i / 4)) (h (i / 4) (omega arith))) in
        lt-ltb (get_or (drop 20 e) i 0) (get_or limits i 0) (rw (get_or-drop 20 e i 0, row i (omega arith)) p))

    below_limits : bytes_below (drop 20 e) limits ≡ true → (x : ℕ) → x < 51 → number_at e (20 + 4 * x) < limit_of z x
    unfolding bytes_below
    below_limits b x l =
        of_bytes z e x (limit_low x) (λ r t.
        let i = 4 * x + r in
        let p = ltb-true (get_or (drop 20 e) i 0) (get_or limits i 0) (at_run (byte_below (drop 20 e) limits) (λ i. i) 0 204 b i (omega arith) (omega arith)) in
        rw (get_or-drop 20 e i 0, row i (omega arith)) at p)

    pub range_bytes : (ltb (branch_of e) z.branches && bytes_below (drop 20 e) limits) ≡ in_range (record_of e)
    range_bytes =
        same_test (ltb (branch_of e) z.branches && bytes_below (drop 20 e) limits) (in_range (record_of e))
        (λ t.
        let p = both (ltb (branch_of e) z.branches) (bytes_below (drop 20 e) limits) t in
        range_in (record_of e) (of_limits (ltb-true (branch_of e) z.branches p.0) (below_limits p.1)))
        (λ t.
        let r = ranges (record_of e) t in
        rw (lt-ltb (branch_of e) z.branches r.branch) (bytes_below_lem (in_ranges r)))

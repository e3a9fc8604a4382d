-- The test of places, part way: ok tells of those below i, and most is the limit of place i.
use Prim.Native.Nat.{ℕ, suc, ◌+◌, ◌-◌, ◌*◌, ◌≤◌, ◌<◌}
use Rattle.std.specs.Prelude.{Bool, true, false, ◌&&◌, ◌≡◌, refl, List, get_or, ltb}
use Rattle.std.proofs.Math.Bool.{and-true, and-false, and_assoc}
use Rattle.std.proofs.Math.Path.{sym, ap}
use Rattle.std.proofs.Common.{◌∙◌, add-zero, mul-zero, mul-le-mul_left, lt-ltb, le-ltb}
use Rattle.std.proofs.Math.Nat.{mul-suc}
use native.Mathlib.Omega.{arith}
use Rattle.kinds.specs.Kinds.{below_from}

pub record Judging (places : List ℕ) (from to limit step : ℕ) (ok : Bool) (most i : ℕ) : Type 0 where
  pub low : from ≤ i
  pub high : i ≤ to
  pub limits : most ≡ limit + step * (i - from)
  pub rest : below_from places from limit step (to - from) ≡ ok && below_from places i most step (to - i)

pub judging_none : {places : List ℕ} {from to limit step : ℕ} → from ≤ to → Judging places from to limit step true limit from
judging_none {from = from} {limit = limit} {step} h =
    let e : from - from ≡ 0 = omega arith in
    record { low = omega arith; high = h; limits = sym (rw (e, mul-zero step) (add-zero limit)); rest = refl }

module _ {places : List ℕ} {from to limit step : ℕ} {ok : Bool} {most i : ℕ} (g : Judging places from to limit step ok most i) where
  judged_more : i < to → {new : Bool} → ok && ltb (get_or places i 0) most ≡ new → Judging places from to limit step new (most + step) (i + 1)
  unfolding below_from
  judged_more h {new} n =
      let e : to - i ≡ suc (to - (i + 1)) = omega arith in
      let w : i + 1 - from ≡ suc (i - from) = omega (arith, g.low) in
      let later = below_from places (i + 1) (most + step) step (to - (i + 1)) in
      record {
        low = omega (arith, g.low);
        high = omega arith;
        limits = rw (w, mul-suc step (i - from)) (omega (arith, g.limits));
        rest = (g.rest ∙ rw e) ∙ sym (and_assoc ok (ltb (get_or places i 0) most) later) ∙ ap (λ (b : Bool). b && later) n;
      }

  pub judging_more : i < to → get_or places i 0 < most → Judging places from to limit step ok (most + step) (i + 1)
  judging_more h l = judged_more h (rw (lt-ltb (get_or places i 0) most l) (and-true ok))

  pub judging_not : i < to → most ≤ get_or places i 0 → Judging places from to limit step false (most + step) (i + 1)
  judging_not h l = judged_more h (rw (le-ltb (get_or places i 0) most l) (and-false ok))

  pub judging_all : to ≤ i → ok ≡ below_from places from limit step (to - from)
  unfolding below_from
  judging_all h =
      let e : to - i ≡ 0 = omega arith in
      sym (g.rest ∙ rw e (and-true ok))

  -- the next limit is none too large
  pub most_fits : i < to → most + step ≤ limit + step * (to - from)
  most_fits h =
      let e : step * suc (i - from) ≤ step * (to - from) = mul-le-mul_left step (omega (arith, g.low)) in
      omega (arith, g.limits, mul-suc step (i - from), e)

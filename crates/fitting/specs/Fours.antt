-- The next size of couples: N, or the first one asked for, rounded up by 4. Rests on Next of crate laws.
use Rattle.std.specs.Prelude.{ℕ, max, ◌%◌, ◌<◌, refl, leb}
use Rattle.std.proofs.Common.{arith, leb-true, le-leb, eqb-true, lt-ltb}
use Rattle.laws.specs.Members.{both, multiple, multiple_is}
use Rattle.laws.specs.Next.{Next}
use Rattle.profiles.specs.declared.Form.TheVariants.{Fours}
use Rattle.profiles.specs.Profiles.{size_in}

-- rounded up by 4, from u on
pub next_by_four : (u m n r : ℕ) → 0 < u → Next (multiple 4 m) (max n u) r → Next (size_in Fours u m 1) n r
next_by_four u m n r pos next = record {
  has_it = λ h.
      let p = multiple_is 4 m r (next.has_it h) in
      let lo = next.not_below h in
      rw (le-leb u r (omega arith), le-leb r m p.1, p.2) refl;
  not_below = λ h. omega (arith, next.not_below h);
  none_between = λ k t q.
      let p = both (leb u k) _ t in
      let s = both (leb k m) _ p.1 in
      let lo = leb-true u k p.0 in
      next.none_between k (rw (lt-ltb 0 k (omega arith), s.0, eqb-true (k % 4) 0 s.1) refl) (omega arith);
}

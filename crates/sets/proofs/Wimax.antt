-- Which sets of profile 9 are accepted, in the words of request 12: N is a multiple of 4 from 24 to 2,400, bits and stream are 1, P0 to P3 are below N, and no two
-- outputs share a couple. The test of a set accepts exactly these. Rests on OneRow.
use Rattle.std.specs.Prelude.{◌↔◌, ◌≡◌, refl}
use Rattle.std.proofs.Common.{inl, inr, arith}
use Rattle.laws.specs.Outcome.{done}
use Rattle.laws.specs.Told.{NoneTrue}
use Rattle.profiles.specs.Profiles.{couple_sizes, entry_by}
use Rattle.couples.specs.Test.{not_below}
use Rattle.sets.specs.declared.Set.{Set}
use Rattle.sets.specs.Numbered.{nine_coupled}
use Rattle.sets.specs.Beside.{OutOfRange, TwoShare, beside_sentences, couples_range}
use Rattle.sets.specs.Verdict.{verdict_of}
use Rattle.sets.proofs.Admits.{accepted_factors}
use Rattle.sets.specs.OneRow.{OneRow}
use Rattle.sets.proofs.OneRow.{row_admits}
use Rattle.sets.specs.Wimax.{Admitted}

wimax_row : OneRow 9 couple_sizes
unfolding entry_by
wimax_row = record { first = omega arith; last = omega arith; rows = refl; bits = refl; streams = refl }

module _ (s : Set) (p : s.profile ≡ 9) where
  none_holds : Admitted s → NoneTrue (beside_sentences s)
  none_holds a = (out, (shared, tt))
    where
      out : OutOfRange s → ⊥
      out (inl h) = omega (arith, p, h.0)
      out (inr h) = not_below a.below h.1

      shared : TwoShare s → ⊥
      shared (inl h) = omega (arith, p, h.0)
      shared (inr h) = a.none_shared h.1.first h.1.second h.1.apart h.1.below h.1.same

  pub admits : Admitted s ↔ (verdict_of s ≡ done tt)
  admits = (
    λ a. (row_admits wimax_row s p).0
        (record { size_listed_lem = a.size_listed_lem; bits_one = a.bits_one; stream_one = a.stream_one; beside_none = none_holds a }),
    λ e.
        let r = (row_admits wimax_row s p).1 e in
        record {
          size_listed_lem = r.size_listed_lem;
          bits_one = r.bits_one;
          stream_one = r.stream_one;
          below = couples_range s (nine_coupled s p) (accepted_factors s e).0;
          none_shared = λ x y l m o. r.beside_none.1.0 (inr (p, record { first = x; second = y; apart = l; below = m; same = o }));
        },
  )

-- Which sets of profile 8 are accepted, in the words of request 6: K is one of the 188, bits and stream are 1, f1 and f2 are from 1 to K - 1, and no two
-- positions share an address. The test of a set accepts exactly these. Rests on OneRow and Ranges of sets.
use mathlib.Core.List.{Memᴰ}
use Rattle.std.specs.Prelude.{◌↔◌, ◌≡◌, ℕ, ◌≤◌, ◌<◌}
use Rattle.std.proofs.Common.{inl, inr, ⊎_elim, arith}
use Rattle.laws.specs.Outcome.{done}
use Rattle.laws.specs.Told.{NoneTrue}
use Rattle.profiles.specs.Profiles.{lte_sizes}
use Rattle.sets.specs.declared.Set.{Set}
use Rattle.sets.specs.Set.{f1, f2}
use Rattle.sets.specs.Numbered.{eight_quadratic}
use Rattle.sets.specs.Ranges.{not_outside}
use Rattle.sets.specs.Beside.{OutOfRange, TwoShare, beside_sentences, factors_range}
use Rattle.sets.specs.Verdict.{verdict_of}
use Rattle.sets.proofs.Admits.{accepted_factors}
use Rattle.sets.proofs.OneRow.{row_admits}
use Rattle.lte.specs.Factors.{lte_row}
use Rattle.quadratic.specs.Formula.{quadratic_l}

-- a set of profile 8 as the request admits it
pub record Admitted (s : Set) : Type 0 where
  pub size_listed_lem : Memᴰ s.n lte_sizes
  pub bits_one : s.bits ≡ 1
  pub stream_one : s.stream ≡ 1
  pub first_in : (1 ≤ f1 s) × (f1 s < s.n)
  pub second_in : (1 ≤ f2 s) × (f2 s < s.n)
  pub none_shared : (x y : ℕ) → x < y → y < s.n → quadratic_l s.n (f1 s) (f2 s) x ≡ quadratic_l s.n (f1 s) (f2 s) y → ⊥

module _ (s : Set) (p : s.profile ≡ 8) where
  none_holds : Admitted s → NoneTrue (beside_sentences s)
  none_holds a = (out, (shared, tt))
    where
      out : OutOfRange s → ⊥
      out (inl h) = ⊎_elim (not_outside a.first_in) (not_outside a.second_in) h.1
      out (inr h) = omega (arith, p, h.0)

      shared : TwoShare s → ⊥
      shared (inl h) = a.none_shared h.1.first h.1.second h.1.apart h.1.below h.1.same
      shared (inr h) = omega (arith, p, h.0)

  pub admits : Admitted s ↔ (verdict_of s ≡ done tt)
  admits = (
    λ a. (row_admits lte_row s p).0
        (record { size_listed_lem = a.size_listed_lem; bits_one = a.bits_one; stream_one = a.stream_one; beside_none = none_holds a }),
    λ e.
        let q = (row_admits lte_row s p).1 e in
        let r = factors_range s (eight_quadratic s p) (accepted_factors s e).0 in
        record {
          size_listed_lem = q.size_listed_lem;
          bits_one = q.bits_one;
          stream_one = q.stream_one;
          first_in = r.0;
          second_in = r.1;
          none_shared = λ x y l m o. q.beside_none.1.0 (inl (p, record { first = x; second = y; apart = l; below = m; same = o }));
        },
  )

-- A profile whose sizes are one row, with bits 1 and one stream, as profiles 5, 8 and 9 are: a set of it is accepted exactly when N stands in the row, bits and
-- stream are 1, and no sentence of what it must have beside them holds. Rests on Admits, and on Counted of profiles.
use Rattle.std.specs.Prelude.{true, ◌↔◌, ◌≡◌, refl, ℕ, leb}
use mathlib.Core.List.Memᴰ
use mathlib.Core.List.{List, Memᴰ}
use Rattle.std.proofs.Common.{sym, ◌∙◌, arith}
use Rattle.std.proofs.Math.Path.{ap, subst}
use borrow.Author.Tests.{leb-true}
use Rattle.laws.specs.Outcome.{done}
use Rattle.laws.specs.Members.{both, All, in_chained, one_of_lem}
use Rattle.laws.specs.Told.{NoneTrue}
use Rattle.profiles.specs.declared.Bits.{Bits}
use Rattle.profiles.specs.Entry.{row}
use Rattle.profiles.specs.Profiles.{profiles, entry_by, numbers_by, admitted_by, bits_of}
use Rattle.profiles.specs.Entered.{in_profiles, own_number}
use Rattle.profiles.proofs.Counted.{HasEach, entry_counted}
use Rattle.sizes.specs.Size.{size, sizes_of, in_rows}
use Rattle.sizes.specs.Tests.{listed_sizes, bits_listed, size_listed}
use Rattle.sizes.specs.Admits.{listed_passing}
use Rattle.sets.specs.declared.Set.{Set}
use Rattle.sets.specs.Set.{size_of, numbers_of}
use Rattle.sets.specs.Stream.{stream_listed, stream_1}
use Rattle.sets.specs.Beside.{beside_sentences}
use Rattle.sets.specs.Verdict.{verdict_of}
use Rattle.sets.proofs.Admits.{passed_accepted}
use Rattle.sets.specs.OneRow.{OneRow}

module _ {p : ℕ} {ns : List ℕ} (o : OneRow p ns) where
  -- what stands in the row is listed, and a size that passes stands there
  row_listed : {k : ℕ} → Memᴰ k ns → Memᴰ (size p 1 k) listed_sizes
  unfolding listed_sizes
  row_listed {k} m =
      subst (λ (q : ℕ). Memᴰ (size q 1 k) listed_sizes) (sym (own_number p o.first o.last))
      (in_chained sizes_of profiles (in_profiles p)
      (in_rows (entry_by p).number (entry_by p).rows {r = row 1 ns} (subst (Memᴰ (row 1 ns)) (sym o.rows) (Memᴰ.head refl)) m))

  pub passes_row : {k : ℕ} → size_listed (size p 1 k) ≡ true → Memᴰ k ns
  unfolding size_listed
  passes_row {k} e = (subst (All (HasEach (admitted_by p))) o.rows (entry_counted p).has_each).0 k e

  one_bit : (b n : ℕ) → bits_listed (size p b n) ≡ true → b ≡ 1
  unfolding bits_listed
  one_bit b n e = Memᴰ.eq_of_singleton (subst (λ (k : Bits). Memᴰ b (bits_of k)) o.bits (one_of_lem b (bits_of (admitted_by p).bits) e))

  -- the stream is 1
  one_stream : (s : Set) → s.profile ≡ p → stream_listed s ≡ true → s.stream ≡ 1
  unfolding stream_listed numbers_of
  one_stream s e t =
      let q = both (leb 1 s.stream) _ t in
      let one : (numbers_by s.profile).streams ≡ 1 = ap (λ (p : ℕ). (numbers_by p).streams) e ∙ o.streams in
      omega (arith, leb-true 1 s.stream q.0, leb-true s.stream (numbers_by s.profile).streams q.1)

  -- a set of the profile
  pub record InRow (s : Set) : Type 0 where
    pub size_listed_lem : Memᴰ s.n ns
    pub bits_one : s.bits ≡ 1
    pub stream_one : s.stream ≡ 1
    pub beside_none : NoneTrue (beside_sentences s)

  module _ (s : Set) (e : s.profile ≡ p) where
    at_row : {b : ℕ} (P : ℕ → ℕ → Type 0) → s.bits ≡ b → P p b → P s.profile s.bits
    at_row {b} P q h = subst (λ (x : ℕ). P x s.bits) (sym e) (subst (P p) (sym q) h)

    pub row_admits : InRow s ↔ (verdict_of s ≡ done tt)
    row_admits = (
      λ r. (passed_accepted s).0
          (record {
            size_listed_lem = at_row (λ x b. Memᴰ (size x b s.n) listed_sizes) r.bits_one (row_listed r.size_listed_lem);
            stream_passes = sym (stream_1 s r.stream_one);
            beside_none = r.beside_none;
          }),
      λ a.
          let q = (passed_accepted s).1 a in
          let t = listed_passing (size_of s) q.size_listed_lem in
          let b : s.bits ≡ 1 = one_bit s.bits s.n (subst (λ (x : ℕ). bits_listed (size x s.bits s.n) ≡ true) e t.bits_pass) in
          record {
            size_listed_lem = passes_row
                (subst (λ (x : ℕ). size_listed (size p x s.n) ≡ true) b (subst (λ (x : ℕ). size_listed (size x s.bits s.n) ≡ true) e t.size_passes));
            bits_one = b;
            stream_one = one_stream s e q.stream_passes;
            beside_none = q.beside_none;
          },
    )

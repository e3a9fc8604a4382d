-- The counts' total rises by the number of present values.
use Prim.Native.Nat.{ℕ, zero, suc, ◌+◌, ◌≤◌, ◌<◌}
use Rattle.std.specs.Prelude.{List, [], ◌∷◌, ◌≢◌, ◌≡◌, refl, set}
use Rattle.std.proofs.Common.{sym, ◌∙◌, zero-add}
use Rattle.std.proofs.Math.Path.{ap}
use native.Mathlib.Omega.{arith}
use Rattle.std.proofs.Math.ListN.{length, get_or}
use Rattle.laws.specs.Outcome.{done}
use Rattle.laws.specs.Run.{run, get_or_run}
use Rattle.laws.specs.Move.{scatter, length_scatter, unmet}
use Rattle.laws.specs.Perm.{once}
use Rattle.sets.specs.declared.Set.{Set}
use Rattle.families.specs.Rules.{L}
use Rattle.positions.specs.Heard.{Reception, Kept, one, count_rise}
use Rattle.adders.specs.Lines.{heard_at}
use Rattle.combine.specs.Answer.{added_of, counts_of}
use Rattle.combine.specs.Laws.{its_perm, its_lengths, counts_scattered}

-- the total of a list
abbrev pub total : List ℕ → ℕ
total [] = 0
total (x ∷ xs) = x + total xs

-- how many values are present
abbrev pub present_in : List ℕ → ℕ
present_in [] = 0
present_in (p ∷ ps) = one p + present_in ps

-- .. of the first n
abbrev first_ones : List ℕ → ℕ → ℕ
first_ones ps zero = 0
first_ones ps (suc n) = first_ones ps n + one (get_or ps n 0)

all_ones : (p : ℕ) (ps : List ℕ) (n : ℕ) → first_ones (p ∷ ps) (suc n) ≡ one p + first_ones ps n
all_ones p ps zero = omega arith
all_ones p ps (suc n) = omega (arith, all_ones p ps n)

ones_are : (ps : List ℕ) → first_ones ps (length ps) ≡ present_in ps
ones_are [] = refl
ones_are (p ∷ ps) = all_ones p ps (length ps) ∙ ap (λ (x : ℕ). one p + x) (ones_are ps)

-- one entry written over
total_set : (xs : List ℕ) (i v : ℕ) → i < length xs → total (set xs i v) + get_or xs i 0 ≡ total xs + v
total_set [] i v h = absurd (omega arith)
total_set (x ∷ xs) zero v h = omega arith
total_set (x ∷ xs) (suc i) v h = omega (arith, total_set xs i v (omega arith))

module _ (s : Set) (b : Reception) (h : Kept) (e : added_of s b h ≡ done tt) where
  news : List ℕ
  news = run (λ t. (heard_at (L s) b h t).count) 0 s.n

  rises : (j : ℕ) → j ≤ s.n → total (scatter (L s) j 0 news h.counts) ≡ total h.counts + first_ones b.present j
  unfolding news
  rises zero l = omega arith
  rises (suc j) l =
      let c = get_or h.counts (L s j) 0 in
      let below : L s j < length (scatter (L s) j 0 news h.counts) =
      omega (arith, (its_perm s b h e).l_below j l, length_scatter (L s) j 0 news h.counts, (its_lengths s b h e).counts) in
      let new : get_or news j 0 ≡ c + one (get_or b.present j 0) =
      get_or_run (λ t. (heard_at (L s) b h t).count) 0 s.n j 0 l ∙ ap (λ (t : ℕ). (heard_at (L s) b h t).count) (zero-add j) ∙ count_rise (get_or b.present j 0) c in
      let old : get_or (scatter (L s) j 0 news h.counts) (L s j) 0 ≡ c = unmet (L s) j 0 news h.counts (L s j) fresh in
      omega (arith, total_set (scatter (L s) j 0 news h.counts) (L s j) (get_or news j 0) below, new, old, rises j (omega arith))
    where
      fresh : (t : ℕ) → t < j → L s j ≢ L s t
      fresh t g q = let z = once (its_perm s b h e) j t l (omega arith) q in let y : ⊥ = omega arith in y

  pub total_rises : total (counts_of s b h) ≡ total h.counts + present_in b.present
  unfolding news
  total_rises =
      ap total (counts_scattered s b h e)
      ∙ rises s.n (omega arith)
      ∙ ap (λ (x : ℕ). total h.counts + x) (ap (first_ones b.present) (sym (its_lengths s b h e).present) ∙ ones_are b.present)

-- Profile 8, the LTE turbo interleaver of 3GPP TS 36.212, change request 6: which sets are accepted, what L and M are, what a walk writes, and the factors
-- that the standard itself has. (Every theorem over all listed sets holds here too: `each_once`, `there_and_back`, `blind`, `walk_cut`.)
use Rattle.std.specs.Prelude.{ℕ, min, ◌+◌, ◌-◌, ◌*◌, ◌%◌, ◌≤◌, ◌<◌, ◌↔◌, ◌≢◌, ◌≡◌}
use mathlib.Core.List.{List, map, Memᴰ}
use Rattle.std.proofs.Math.Path.{ap}
use Rattle.laws.specs.declared.Way.TheVariants.{Interleaver}
use Rattle.laws.specs.Outcome.{done, refused, First, after}
use Rattle.laws.specs.Run.{run}
use Rattle.laws.specs.Sentences.{FirstTrue}
use Rattle.laws.specs.Walk.{Rule}
use Rattle.profiles.specs.Profiles.{lte_sizes}
use Rattle.sets.specs.declared.Set.{Set}
use Rattle.sets.specs.Set.{f1, f2}
use Rattle.sets.specs.Numbered.{eight_quadratic}
use Rattle.sets.specs.Verdict.{refusal, verdict_of, refusal_number}
use Rattle.quadratic.specs.Formula.{quadratic_l}
use Rattle.families.specs.Rules.{rule_is}
use Rattle.walks.specs.declared.Walk.{Walk}
use Rattle.walks.specs.Answer.{walk_list, walk_cells}
use Rattle.walks.specs.Whole.{walk_bare_is, cells_bare_are}
use Rattle.lte.specs.Standard.{Row, row, standard}
use Rattle.lte.specs.Factors.{two, lte_with, lte_set, standard_factors, given_lines, given_of, given_sentences}
use Rattle.lte.specs.Factors as own
use Rattle.lte.specs.Accepted.{set_of}
use Rattle.lte.proofs.Accepted as rows
use Rattle.lte.specs.Admits as lte
use Rattle.flat.specs.Flat.{number_of, out_of, factors_list}
use Rattle.tender.specs.Zero.{zero_is_done, number_is_first, out_is_after, positive}
use Rattle.tender.specs.Condition2.{Listed, admits, L, M, each_once}

-- "Profile 8 is admitted": K is one of the 188 sizes, bits and stream are 1, f1 and f2 are from 1 to K - 1, and no two different positions below K have one
-- address. The test of a set accepts it if and only if all of that holds
pub admits_lte : (s : Set) → s.profile ≡ 8
    → (Memᴰ s.n lte_sizes × (s.bits ≡ 1) × (s.stream ≡ 1) × ((1 ≤ f1 s) × (f1 s < s.n)) × ((1 ≤ f2 s) × (f2 s < s.n))
    × ((x y : ℕ) → x < y → y < s.n → (f1 s * x + f2 s * (x * x)) % s.n ≡ (f1 s * y + f2 s * (y * y)) % s.n → ⊥))
    ↔ (verdict_of s ≡ done tt)
unfolding quadratic_l
admits_lte s p = (
  λ h. (lte.admits s p).0 (record { size_listed_lem = h.0; bits_one = h.1; stream_one = h.2; first_in = h.3; second_in = h.4; none_shared = h.5 }),
  λ e. let a = (lte.admits s p).1 e in (a.size_listed_lem, a.bits_one, a.stream_one, a.first_in, a.second_in, a.none_shared),
)

module _ (s : Set) (p : s.profile ≡ 8) where
  -- L(t) = (f1·t + f2·t²) mod K ..
  pub formula_lte : (t : ℕ) → L s t ≡ (f1 s * t + f2 s * (t * t)) % s.n
  unfolding quadratic_l
  formula_lte t = ap (λ (r : Rule). r.l t) (rule_is s (eight_quadratic s p))

  -- .. and M(a) is the output that holds input a
  pub back_lte : Listed s → (a : ℕ) → a < s.n → (M s a < s.n) × (L s (M s a) ≡ a)
  back_lte l a h = let e = each_once s l in (e.m_below a h, e.l_of_m a h)

-- "The walk may begin at any cell, and obeys condition 3 with no padding": from cell c on it writes L(c), L(c + 1) and so on, as many as there is
-- room and cells for, and moves on by as many cells
pub walk_lte : (w : Walk) (room : ℕ) → Listed w.set → w.set.profile ≡ 8 → w.cell ≤ w.set.n
    → (walk_list Interleaver w room ≡ run (L w.set) w.cell (min room (w.set.n - w.cell)))
    × (walk_cells Interleaver w room ≡ min room (w.set.n - w.cell))
walk_lte w room l p h =
    let e = (admits w.set).0 l in
    let q = rule_is w.set (eight_quadratic w.set p) in
    (walk_bare_is w room e q h, cells_bare_are w room e q)

-- "K 40 with 3 and 10 is accepted": with what it begins, `stars` has
pub accepted_40 : verdict_of (lte_with 40 (two 3 10)) ≡ done tt
accepted_40 = rows.row_accepted {r = row 40 3 10} rows.first_row

-- the standard's own factors: its table has the 188 sizes in their order ..
pub standard_sizes : map (λ r. r.size) standard ≡ lte_sizes
standard_sizes = rows.sizes_are

-- .. the test of a set accepts every row of it ..
pub standard_accepted : {r : Row} → Memᴰ r standard → verdict_of (set_of r) ≡ done tt
standard_accepted m = rows.row_accepted m

-- .. the call for the factors of a K gives those of its row ..
pub standard_given : {r : Row} → Memᴰ r standard → given_of r.size ≡ done (two r.first r.second)
standard_given m = own.row_given_lem m

-- .. and is refused with 3, exactly when K is none of the 188
pub refusal_order_factors : (k j : ℕ) → (given_of k ≡ refused (refusal (lte_set k) j)) ↔ FirstTrue (given_sentences k) j
refusal_order_factors k j = own.refusal_order_given k j

-- the same call for C: 0 exactly when it is done, 3 exactly when its line applies, and four numbers that a refused call leaves as they were
pub factors_zero : (k : ℕ) → (number_of (given_of k) ≡ 0) ↔ (given_of k ≡ done (standard_factors k))
unfolding given_of
factors_zero k =
    zero_is_done (λ x. x.number) (refusal (lte_set k)) (refusal_number (lte_set k)) (given_lines k) (standard_factors k) (positive 2, tt)

pub factors_first : (k j : ℕ) → j ≢ 0 → (number_of (given_of k) ≡ j) ↔ First (given_lines k) j
unfolding given_of
factors_first k j p =
    number_is_first (λ x. x.number) (refusal (lte_set k)) (refusal_number (lte_set k)) (given_lines k) (standard_factors k) (positive 2, tt) j p

pub factors_out : (k : ℕ) (old : List ℕ) → out_of (given_of k) factors_list old ≡ after (given_lines k) (factors_list (standard_factors k)) old
unfolding given_of
factors_out k old = out_is_after (refusal (lte_set k)) (given_lines k) (standard_factors k) factors_list old

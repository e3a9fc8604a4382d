-- Profile 9, the couples of the turbo code of IEEE 802.16, change request 12: which sets are accepted, what P is, what a walk writes, which symbols a block has
-- and where each goes. (Every theorem over all listed sets holds here too: `each_once`, `symbols_once`, `there_and_back`, `blind`, `walk_cut`; L and M are those
-- of couples.)
use Rattle.std.specs.Prelude.{ℕ, min, ◌+◌, ◌-◌, ◌*◌, ◌/◌, ◌%◌, ◌≤◌, ◌<◌, ◌↔◌, ◌≢◌, ◌≡◌, refl, length, get_or}
use mathlib.Core.List.{List, [], ◌∷◌, ◌++◌, Memᴰ}
use Rattle.std.proofs.Common.{sym, ap, ◌∙◌, subst, arith}
use Rattle.laws.specs.declared.Way.TheVariants.{Interleaver, Deinterleaver}
use Rattle.laws.specs.Outcome.{done, refused}
use Rattle.laws.specs.Euclid.{gcd_in, gcd}
use Rattle.laws.specs.Run.{run, run_mem, mem_run}
use Rattle.laws.specs.Sentences.{sentence, FirstTrue}
use Rattle.laws.specs.Walk.{Rule}
use Rattle.profiles.specs.Profiles.{couple_sizes, entry_by}
use Rattle.sizes.specs.Tests.{profile_listed, bits_listed, size_listed}
use Rattle.sets.specs.declared.Set.{Set}
use Rattle.sets.specs.Set.{family_of, is_coupled, numbers_of, couples_of}
use Rattle.sets.specs.Stream.{stream_listed}
use Rattle.sets.specs.Beside.{factors_in, factors_apart}
use Rattle.sets.specs.Numbered.{nine_coupled}
use Rattle.sets.specs.Verdict.{set_lines, refusal, verdict_of}
use Rattle.sets.specs.Refusals.{set_sentences}
use Rattle.sets.proofs.Wimax as wimax
use Rattle.couples.specs.Formula.{offset, couple_l, turn, turns_differ, all_apart}
use Rattle.couples.specs.Symbols.{symbol_l, pair_even, pair_odd}
use Rattle.families.specs.Rules.{rule_is}
use Rattle.families.specs.Symbols.{symbols_of, block_l, symbols_two, block_coupled}
use Rattle.walks.specs.declared.Walk.{Walk}
use Rattle.walks.specs.Answer.{walk_lines, walked_of, walk_list, walk_cells}
use Rattle.walks.specs.Whole.{walk_bare_is, cells_bare_are}
use Rattle.tables.specs.Answer.{moved_of}
use Rattle.tables.specs.Refusals.{block_sentences}
use Rattle.blocks.specs.Answer.{moved}
use Rattle.positions.specs.Heard.{Reception, Kept}
use Rattle.combine.specs.Answer.{add_lines, added_of, read_lines, read_of}
use Rattle.tender.specs.Stars as stars
use Rattle.tender.specs.Condition1.{refusal_order_symbols}
use Rattle.tender.specs.Condition2.{Listed, admits, L, source, source_back}

-- the four numbers
abbrev pub P0 : Set → ℕ
P0 s = s.factors.first

abbrev pub P1 : Set → ℕ
P1 s = s.factors.second

abbrev pub P2 : Set → ℕ
P2 s = s.factors.third

abbrev pub P3 : Set → ℕ
P3 s = s.factors.fourth

-- "N a multiple of 4 from 24 to 2,400": the sizes that are counted out are these
pub sizes_wimax : (n : ℕ) → Memᴰ n couple_sizes ↔ ((24 ≤ n) × (n ≤ 2400) × (n % 4 ≡ 0))
unfolding couple_sizes
sizes_wimax n = (
  λ m. let r = mem_run (λ j. 24 + 4 * j) 0 595 m in (omega (arith, r.3), omega (arith, r.2, r.3), omega (arith, r.3)),
  λ h.
      let w : 24 + 4 * ((n - 24) / 4) ≡ n = omega (arith, h.0, h.2) in
      subst (λ (x : ℕ). Memᴰ x (run (λ j. 24 + 4 * j) 0 595)) w
      (run_mem (λ j. 24 + 4 * j) 0 595 ((n - 24) / 4) (omega arith) (omega (arith, h.1))),
)

module _ (s : Set) (p : s.profile ≡ 9) where
  l_is : (j : ℕ) → L s j ≡ couple_l (couples_of s) j
  l_is j = ap (λ (r : Rule). r.l j) (rule_is s (nine_coupled s p))

  -- P(j) = (P0·j + Q) mod N, where for j mod 4 = 0, 1, 2, 3, Q is 1, 1 + N/2 + P1, 1 + P2, 1 + N/2 + P3
  pub formula_wimax : (j : ℕ)
      → (j % 4 ≡ 0 → L s j ≡ (P0 s * j + 1) % s.n)
      × (j % 4 ≡ 1 → L s j ≡ (P0 s * j + (1 + s.n / 2 + P1 s)) % s.n)
      × (j % 4 ≡ 2 → L s j ≡ (P0 s * j + (1 + P2 s)) % s.n)
      × (j % 4 ≡ 3 → L s j ≡ (P0 s * j + (1 + s.n / 2 + P3 s)) % s.n)
  unfolding couple_l offset
  formula_wimax j = (λ b. l_is j ∙ rw b, λ b. l_is j ∙ rw b, λ b. l_is j ∙ rw b, λ b. l_is j ∙ rw b)

  -- profile 9 is admitted so: N is a multiple of 4 from 24 to 2,400, bits and stream are 1, each of P0 to P3 is below N, and no two different outputs have one
  -- couple. The test of a set accepts it if and only if all of that holds
  pub admits_wimax :
      (((24 ≤ s.n) × (s.n ≤ 2400) × (s.n % 4 ≡ 0)) × (s.bits ≡ 1) × (s.stream ≡ 1) × ((P0 s < s.n) × (P1 s < s.n) × (P2 s < s.n) × (P3 s < s.n))
      × ((x y : ℕ) → x < y → y < s.n → L s x ≡ L s y → ⊥))
      ↔ (verdict_of s ≡ done tt)
  admits_wimax = (
    λ h.
        let b = h.3 in
        (wimax.admits s p).0 (record {
          size_listed_lem = (sizes_wimax s.n).1 h.0;
          bits_one = h.1;
          stream_one = h.2;
          below = record { p0_in = b.0; p1_in = b.1; p2_in = b.2; p3_in = b.3 };
          none_shared = λ x y l m o. h.4 x y l m (l_is x ∙ o ∙ sym (l_is y));
        }),
    λ e.
        let a = (wimax.admits s p).1 e in
        let b = a.below in (
          (sizes_wimax s.n).0 a.size_listed_lem,
          a.bits_one,
          a.stream_one,
          (b.p0_in, b.p1_in, b.p2_in, b.p3_in),
          λ x y l m o. a.none_shared x y l m (sym (l_is x) ∙ o ∙ l_is y),
        ),
  )

  -- "the walk for M and the combining calls refuse profile 9 with 1", whatever else they are given
  pub refused_wimax : ((cell room : ℕ) → walked_of Deinterleaver (record { set = s; cell = cell }) room ≡ refused (refusal s 1))
      × ((b : Reception) (h : Kept) → added_of s b h ≡ refused (refusal s 1))
      × ((h : Kept) (k : ℕ) → read_of s h k ≡ refused (refusal s 1))
  unfolding walked_of walk_lines added_of add_lines read_of read_lines
  refused_wimax = let e = nine_coupled s p in (λ cell room. rw e, λ b h. rw e, λ h k. rw e)

  -- "a block is 2N symbols" ..
  pub symbols_wimax : symbols_of s ≡ 2 * s.n
  symbols_wimax = symbols_two s (ap is_coupled (nine_coupled s p))

  -- .. "and refusals 5 and 6 read 2N here", of symbols of w bytes 2N times w: a block is refused with a number exactly when its sentence is the first that holds
  pub lengths_wimax : (w i o k : ℕ) → (moved_of s (symbols_of s * w) i o ≡ refused (refusal s k))
      ↔ FirstTrue (set_sentences s ++ (sentence 5 (i ≢ 2 * s.n * w) ∷ sentence 6 (o ≢ 2 * s.n * w) ∷ [])) k
  lengths_wimax w i o k =
      subst (λ (n : ℕ). (moved_of s (symbols_of s * w) i o ≡ refused (refusal s k)) ↔ FirstTrue (block_sentences s (n * w) i o) k) symbols_wimax
      (refusal_order_symbols s w i o k)

  -- "First, odd-numbered couples swap A and B. Then output couple j is couple P(j)": the A and the B of output couple j are those of couple P(j) where its number is
  -- even, and its B and its A where it is odd
  pub couple_wimax : (j : ℕ)
      → (L s j % 2 ≡ 0 → (block_l s (2 * j) ≡ 2 * L s j) × (block_l s (2 * j + 1) ≡ 2 * L s j + 1))
      × (L s j % 2 ≡ 1 → (block_l s (2 * j) ≡ 2 * L s j + 1) × (block_l s (2 * j + 1) ≡ 2 * L s j))
  couple_wimax j =
      let e = block_coupled s (ap is_coupled (nine_coupled s p)) in
      let at : (t : ℕ) → block_l s t ≡ symbol_l (L s) t = λ t. ap (λ (r : Rule). r.l t) e in (
        λ b. let q = pair_even (L s) j b in (at (2 * j) ∙ q.0, at (2 * j + 1) ∙ q.1),
        λ b. let q = pair_odd (L s) j b in (at (2 * j) ∙ q.0, at (2 * j + 1) ∙ q.1),
      )

  -- so a block of 2N symbols, each A before its B, is moved ..
  module _ {A : Type 0} (l : Listed s) (z : A) (src dst : List A) (i : length src ≡ 2 * s.n) (o : length dst ≡ 2 * s.n) (j : ℕ) (h : j < s.n) where
    first_in : 2 * j < symbols_of s
    first_in = omega (arith, symbols_wimax)

    second_in : 2 * j + 1 < symbols_of s
    second_in = omega (arith, symbols_wimax)

    long : length src ≡ symbols_of s
    long = i ∙ sym symbols_wimax

    wide : length dst ≡ symbols_of s
    wide = o ∙ sym symbols_wimax

    abbrev out : List A
    out = moved Interleaver s z src dst

    pub couple_moved :
        (L s j % 2 ≡ 0 → (get_or out (2 * j) z ≡ get_or src (2 * L s j) z) × (get_or out (2 * j + 1) z ≡ get_or src (2 * L s j + 1) z))
        × (L s j % 2 ≡ 1 → (get_or out (2 * j) z ≡ get_or src (2 * L s j + 1) z) × (get_or out (2 * j + 1) z ≡ get_or src (2 * L s j) z))
    couple_moved =
        let a = source s l z src dst long wide (2 * j) first_in in
        let b = source s l z src dst long wide (2 * j + 1) second_in in
        let c = couple_wimax j in (
          λ e. let q = c.0 e in (a ∙ ap (λ (x : ℕ). get_or src x z) q.0, b ∙ ap (λ (x : ℕ). get_or src x z) q.1),
          λ e. let q = c.1 e in (a ∙ ap (λ (x : ℕ). get_or src x z) q.0, b ∙ ap (λ (x : ℕ). get_or src x z) q.1),
        )

    -- .. and the way back undoes both steps
    abbrev back : List A
    back = moved Deinterleaver s z src dst

    pub couple_back :
        (L s j % 2 ≡ 0 → (get_or back (2 * L s j) z ≡ get_or src (2 * j) z) × (get_or back (2 * L s j + 1) z ≡ get_or src (2 * j + 1) z))
        × (L s j % 2 ≡ 1 → (get_or back (2 * L s j + 1) z ≡ get_or src (2 * j) z) × (get_or back (2 * L s j) z ≡ get_or src (2 * j + 1) z))
    couple_back =
        let a = source_back s l z src dst long wide (2 * j) first_in in
        let b = source_back s l z src dst long wide (2 * j + 1) second_in in
        let c = couple_wimax j in (
          λ e. let q = c.0 e in (ap (λ (x : ℕ). get_or back x z) (sym q.0) ∙ a, ap (λ (x : ℕ). get_or back x z) (sym q.1) ∙ b),
          λ e. let q = c.1 e in (ap (λ (x : ℕ). get_or back x z) (sym q.0) ∙ a, ap (λ (x : ℕ). get_or back x z) (sym q.1) ∙ b),
        )

-- "Addresses and positions are those of couples": a walk from cell c on writes P(c), P(c + 1) and so on, as many as there is room and cells for, and moves on by as
-- many cells
pub walk_wimax : (w : Walk) (room : ℕ) → Listed w.set → w.set.profile ≡ 9 → w.cell ≤ w.set.n
    → (walk_list Interleaver w room ≡ run (L w.set) w.cell (min room (w.set.n - w.cell)))
    × (walk_cells Interleaver w room ≡ min room (w.set.n - w.cell))
walk_wimax w room l p h =
    let e = (admits w.set).0 l in
    let q = rule_is w.set (nine_coupled w.set p) in
    (walk_bare_is w room e q h, cells_bare_are w room e q)

-- N 24 with 5, 0, 0, 0 is accepted, and so is N 28 with 2, 1, 2, 3, where P0 and N have a common divisor; N 24 with 5, 1, 0, 0 gets 10, though they have
-- none, and a P0 of 0 gets 10, which passes 11; one number that is N gets 11
pub cases_wimax : (verdict_of (stars.wimax 24 5 0 0 0) ≡ done tt)
    × (verdict_of (stars.wimax 28 2 1 2 3) ≡ done tt)
    × (verdict_of (stars.wimax 24 5 1 0 0) ≡ refused (refusal (stars.wimax 24 5 1 0 0) 10))
    × (verdict_of (stars.wimax 24 0 1 2 3) ≡ refused (refusal (stars.wimax 24 0 1 2 3) 10))
    × (verdict_of (stars.wimax 24 5 0 0 24) ≡ refused (refusal (stars.wimax 24 5 0 0 24) 11))
unfolding verdict_of set_lines profile_listed bits_listed size_listed stream_listed numbers_of factors_in factors_apart family_of entry_by all_apart turns_differ turn offset gcd gcd_in
cases_wimax = (refl, refl, refl, refl, refl)

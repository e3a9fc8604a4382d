-- Condition 2 of the tender: exactly the listed parameter sets are accepted, and served; each symbol goes where the standard's formula sends it,
-- and comes back; each index is used once; no symbol's value is read to decide where anything goes. Each theorem is a statement for a reader,
-- over the definitions that the public contracts cite; its proof is a citation. (Symbols of a width are in Symbols.antt, the byte streams in Stream.antt.)
use Rattle.std.specs.Prelude.{ℕ, ◌*◌, ◌≤◌, ◌<◌, ◌↔◌, ◌⊎◌, ◌≡◌, refl, length, get_or}
use mathlib.Core.List.{List, Memᴰ, map}
use Rattle.std.proofs.Common.{inl, inr, ap, arith}
use Rattle.laws.specs.declared.Way.{Way}
use Rattle.laws.specs.declared.Way.TheVariants.{Interleaver, Deinterleaver}
use Rattle.laws.specs.Outcome.{done}
use Rattle.laws.specs.Perm.{Perm}
use Rattle.laws.specs.Told.{NoneTrue}
use Rattle.laws.specs.Walk.{Rule}
use Rattle.sets.specs.declared.Set.{Set}
use Rattle.sets.specs.Set.{rows_of, rotation_of, group_of}
use Rattle.profiles.specs.Profiles.{ofdm, ofdma, wlan, bench, turbo, ht20, ht40, lte, lte_sizes, wimax, couple_sizes}
use Rattle.sizes.specs.Listed.{length_turbo}
use Rattle.sets.specs.Listed.{entry_of, sets_of, listed_sets}
use Rattle.sets.proofs.Listed.{sets_of_lem}
use Rattle.sets.specs.Beside.{beside_sentences, plain_other}
use Rattle.sets.specs.Verdict.{verdict_of}
use Rattle.sets.proofs.Listed as admitted
use Rattle.sets.specs.Numbered.{carrier_profile, five_turbo, spatial_profile, ht20_numbers, ht40_numbers}
use Rattle.carrier.specs.Formula.{carrier_l, carrier_m}
use Rattle.carrier.proofs.Once.{carrier_once}
use Rattle.carrier.specs.Third.{turn, spatial_l, spatial_m}
use Rattle.wcdma.specs.Turbo.{turbo_l, turbo_m}
use Rattle.walks.specs.declared.Walk.{Walk}
use Rattle.families.specs.Rules.{rule_in, rule_is, spatial_is}
use Rattle.families.specs.Rules as rules
use Rattle.families.specs.Symbols.{symbols_of, block_l, block_m, symbols_plain, block_plain, block_once}
use Rattle.walks.specs.Lists as lists
use Rattle.walks.specs.Answer.{walked_of, walk_values, found_of}
use Rattle.walks.proofs.Served.{walk_served, address_served, walkable_listed}
use Rattle.tables.specs.Answer.{moved_of, blind_answer}
use Rattle.tables.proofs.Passed.{block_served}
use Rattle.blocks.specs.Answer.{moved}
use Rattle.blocks.specs.Laws as moves

-- a set is listed: its size, which is its profile, bits and N, with its stream, stands in the table, document 01's and that of requests 4, 6 and 12, counted
-- out set by set, and no sentence of what a set must have beside that holds. (Crate sets, specs/Listed.antt and specs/Beside.antt: of profile 8 that either
-- of f1 and f2 is 0 or not below K, and that two positions share an address; of profile 9 that one of P0 to P3 isn't below N, and that two outputs share a couple;
-- of the others none. Lte.antt and Wimax.antt say it of the two in one piece)
abbrev pub Listed : Set → Type 0
Listed s = Memᴰ (entry_of s) listed_sets × NoneTrue (beside_sentences s)

-- "Exactly the listed parameter sets are accepted": the test of a set says accepted if and only if it is listed. The table ..
pub admits : (s : Set) → Listed s ↔ (verdict_of s ≡ done tt)
admits s = admitted.admits s

-- .. has 20, 11, 4, 272 and 5,075 sets for profiles 1 to 5, 16 each for 6 and 7, which is four streams for each of eight sizes, 32 entries, and 188 for 8 and 595
-- for 9, their sizes
pub listed_counts : (length (sets_of ofdm) ≡ 20) × (length (sets_of ofdma) ≡ 11) × (length (sets_of wlan) ≡ 4) × (length (sets_of bench) ≡ 272)
    × (length (sets_of turbo) ≡ 5075) × (length (sets_of ht20) ≡ 16) × (length (sets_of ht40) ≡ 16) × (length (sets_of lte) ≡ 188)
    × (length (sets_of wimax) ≡ 595)
unfolding lte_sizes couple_sizes
listed_counts = (refl, refl, refl, refl, sets_of_lem turbo length_turbo refl, refl, refl, refl, refl)

-- and accepted means served: of a listed set a walk is done from every cell up to the total, with any room (for M, profiles 5,
-- 8 and 9 apart) ..
pub served_walk : (way : Way) (w : Walk) (room : ℕ) → Listed w.set → (way ≡ Deinterleaver → (w.set.profile ≡ 5) ⊎ ((w.set.profile ≡ 8) ⊎ (w.set.profile ≡ 9)) → ⊥)
    → w.cell ≤ (rule_in way w.set).total
    → walked_of way w room ≡ done (walk_values way w room)
served_walk way w room l n h = walk_served way w room (walkable_listed way w.set ((admits w.set).0 l) n) h

-- .. an address is found at every position below N, L(x) or M(x) ..
pub served_address : (way : Way) (s : Set) (x : ℕ) → Listed s → x < s.n → found_of way s x ≡ done ((rule_in way s).l x)
served_address way s x l h = address_served way s x ((admits s).0 l) h

-- .. and a block of as many symbols as it must have, into as many, is moved (symbols_of: N, or of profile 9 2N, below)
pub served_block : (s : Set) {i o : ℕ} → Listed s → i ≡ symbols_of s → o ≡ symbols_of s → moved_of s (symbols_of s) i o ≡ done tt
served_block s l i o = block_served s (symbols_of s) ((admits s).0 l) i o

-- L: output t holds input L(t). M: input k goes to output M(k) (crate families, specs/Rules.antt, by family)
abbrev pub L : Set → ℕ → ℕ
L s = rules.L s

abbrev pub M : Set → ℕ → ℕ
M s = rules.M s

-- they are the carrier formulas for profiles 1 to 4 ..
pub formulas_carrier : (s : Set) → s.profile < 5 → (L s ≡ carrier_l (rows_of s) s.n (group_of s)) × (M s ≡ carrier_m (rows_of s) s.n (group_of s))
formulas_carrier s h =
    let e = rule_is s (carrier_profile s h) in
    (ap (λ (r : Rule). r.l) e, ap (λ (r : Rule). r.m) e)

-- .. for profile 5 the WCDMA turbo list of 3GPP TS 25.212, and the place in it ..
pub formulas_turbo : (s : Set) → s.profile ≡ 5 → (L s ≡ turbo_l s.n) × (M s ≡ turbo_m s.n)
formulas_turbo s e =
    let q = rule_is s (five_turbo s e) in
    (ap (λ (r : Rule). r.l) q, ap (λ (r : Rule). r.m) q)

-- .. for profiles 6 and 7 the three steps of IEEE 802.11n, with d 13 and r 11 at 20 MHz ..
pub formulas_ht20 : (s : Set) → s.profile ≡ 6
    → (L s ≡ spatial_l 13 s.n (group_of s) s.bits 11 s.stream) × (M s ≡ spatial_m 13 s.n (group_of s) s.bits 11 s.stream)
formulas_ht20 s e =
    let q = spatial_is s 13 11 (spatial_profile s (inl e)) (ht20_numbers s e) in
    (ap (λ (r : Rule). r.l) q, ap (λ (r : Rule). r.m) q)

-- .. and d 18 and r 29 at 40 MHz (profile 8: Lte.antt; profile 9: Wimax.antt)
pub formulas_ht40 : (s : Set) → s.profile ≡ 7
    → (L s ≡ spatial_l 18 s.n (group_of s) s.bits 29 s.stream) × (M s ≡ spatial_m 18 s.n (group_of s) s.bits 29 s.stream)
formulas_ht40 s e =
    let q = spatial_is s 18 29 (spatial_profile s (inr e)) (ht40_numbers s e) in
    (ap (λ (r : Rule). r.l) q, ap (λ (r : Rule). r.m) q)

-- whose turn is below N, so that nothing is taken from 0, and of stream 1 leaves the two steps as they are
module _ (s : Set) (l : Listed s) (h : (s.profile ≡ 6) ⊎ (s.profile ≡ 7)) where
  pub turned_below : turn s.bits (rotation_of s) s.stream < s.n
  turned_below = rules.turned_below s ((admits s).0 l) (spatial_profile s h)

  pub stream_one : s.stream ≡ 1 → (t : ℕ) → t < s.n
      → (L s t ≡ carrier_l (rows_of s) s.n (group_of s) t) × (M s t ≡ carrier_m (rows_of s) s.n (group_of s) t)
  stream_one e t o = rules.stream_one s ((admits s).0 l) (spatial_profile s h) e t o

-- "Each index is used once": of every listed set, L and M are below N and undo each other there
pub each_once : (s : Set) → Listed s → Perm s.n (L s) (M s)
each_once s l = lists.each_once s ((admits s).0 l)

-- for example IEEE 802.11a's four lists
pub each_once_wlan : Perm 48 (carrier_l 16 48 1) (carrier_m 16 48 1) × Perm 96 (carrier_l 16 96 1) (carrier_m 16 96 1)
    × Perm 192 (carrier_l 16 192 2) (carrier_m 16 192 2) × Perm 288 (carrier_l 16 288 3) (carrier_m 16 288 3)
each_once_wlan = (once 48 1 3 (omega arith) refl (omega arith), once 96 1 6 (omega arith) refl (omega arith), once 192 2 6 (omega arith) refl (omega arith), once 288 3 6 (omega arith) refl (omega arith))
  where
    once : (n s b : ℕ) → 0 < s → n ≡ 16 * (s * b) → 0 < n → Perm n (carrier_l 16 n s) (carrier_m 16 n s)
    once n s b hs e hn = carrier_once (record { d_pos = omega arith; s_pos = hs; n_pos = hn; groups = b; whole = e })

-- the symbols of a block (crate families, specs/Symbols.antt): how many there are, symbols_of; which input symbol output symbol t holds, block_l; and where input
-- symbol k goes, block_m. They are N, L and M of every profile but 9, whose couples have two symbols each (Wimax.antt)
pub symbols_are : (s : Set) → (s.profile ≡ 9 → ⊥) → (symbols_of s ≡ s.n) × (block_l s ≡ L s) × (block_m s ≡ M s)
symbols_are s n =
    let c = plain_other s n in
    (symbols_plain s c, ap (λ (r : Rule). r.l) (block_plain s c), ap (λ (r : Rule). r.m) (block_plain s c))

-- each is used once
pub symbols_once : (s : Set) → Listed s → Perm (symbols_of s) (block_l s) (block_m s)
symbols_once s l = block_once s ((admits s).0 l)

-- "Each symbol goes where the formula sends it": a block of symbols of a listed set. Interleaved, output t holds input L(t), L being that of the symbols ..
module _ {A : Type 0} (s : Set) (l : Listed s) (z : A) (src dst : List A) (i : length src ≡ symbols_of s) (o : length dst ≡ symbols_of s) where
  pub source : (t : ℕ) → t < symbols_of s → get_or (moved Interleaver s z src dst) t z ≡ get_or src (block_l s t) z
  source t h = moves.source_of Interleaver s z src dst (served_block s l i o) t h

  -- .. and input k is at output M(k)
  pub target : (k : ℕ) → k < symbols_of s → get_or (moved Interleaver s z src dst) (block_m s k) z ≡ get_or src k z
  target k h = moves.target_of Interleaver s z src dst (served_block s l i o) k h

  -- deinterleaved, input t is at output L(t) ..
  pub source_back : (t : ℕ) → t < symbols_of s → get_or (moved Deinterleaver s z src dst) (block_l s t) z ≡ get_or src t z
  source_back t h = moves.target_of Deinterleaver s z src dst (served_block s l i o) t h

  -- .. and output k holds input M(k)
  pub target_back : (k : ℕ) → k < symbols_of s → get_or (moved Deinterleaver s z src dst) k z ≡ get_or src (block_m s k) z
  target_back k h = moves.source_of Deinterleaver s z src dst (served_block s l i o) k h

  -- either way the output is as long as the input
  pub as_long : (way : Way) → length (moved way s z src dst) ≡ length src
  as_long way = moves.as_long way s z src dst (served_block s l i o)

-- "and comes back": there and back, and back and there, whatever stood in the outputs before
module _ {A : Type 0} (s : Set) (l : Listed s) (z : A) (src mid out : List A) (i : length src ≡ symbols_of s) (m : length mid ≡ symbols_of s) (o : length out ≡ symbols_of s) where
  pub there_and_back : moved Deinterleaver s z (moved Interleaver s z src mid) out ≡ src
  there_and_back = moves.there_and_back Interleaver s z src mid out (served_block s l i m) (served_block s l i o)

  pub back_and_there : moved Interleaver s z (moved Deinterleaver s z src mid) out ≡ src
  back_and_there = moves.there_and_back Deinterleaver s z src mid out (served_block s l i m) (served_block s l i o)

-- "No symbol's value is read to decide where anything goes": what stands in for an entry that is not there is never read, so the contracts' 0 and
-- not-a-number mean nothing ..
pub stand_in : {A : Type 0} (way : Way) (s : Set) (y z : A) (src dst : List A) → moved way s y src dst ≡ moved way s z src dst
stand_in way s y z src dst = moves.stand_in way s y z src dst

-- .. and every symbol changed by any function from any type to any other, a zero made something else and something else made a zero, with any
-- stand-in on either side, a block call answers the same, and moves the changed symbols as it would have moved the others
module _ {A B : Type 0} (h : A → B) (s : Set) (src dst : List A) where
  pub blind : (way : Way) (y : B) (z : A)
      → (moved_of s (symbols_of s) (length (map h src)) (length (map h dst)) ≡ moved_of s (symbols_of s) (length src) (length dst))
      × (moved way s y (map h src) (map h dst) ≡ map h (moved way s z src dst))
  blind way y z = (blind_answer h s src dst (symbols_of s), moves.blind h s src dst way y z)

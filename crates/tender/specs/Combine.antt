-- Change request 2, repeated receptions added up, over the definitions that the two calls' contracts cite: added_of, sums_of and counts_of of `combine::add`,
-- read_of of `combine::read`. A Reception is a received block and its presence bytes, in output order; a Kept is the stored sums and counts, by input index.
use Rattle.std.specs.Prelude.{ℕ, ◌+◌, ◌*◌, ◌≤◌, ◌<◌, Bool, true, false, List, ◌↔◌, ◌≢◌, ◌≡◌, pos, Float, length, get_or}
use Rattle.std.proofs.Common.{true≢false, sym, ap, ap₂, ◌∙◌, eq-eqb, ne_eqb}
use Rattle.std.specs.Float.{nan, fin, binary32}
use Rattle.std.specs.Float.Ieee.{add}
use Rattle.laws.specs.declared.Way.TheVariants.{Deinterleaver}
use Rattle.laws.specs.Outcome.{Outcome, done, refused}
use Rattle.laws.specs.Sentences.{FirstTrue}
use Rattle.laws.specs.Told.{NoneTrue}
use Rattle.sets.specs.declared.Set.{Set}
use Rattle.sets.specs.declared.Refusal.{Refusal}
use Rattle.sets.specs.Verdict.{refusal}
use Rattle.positions.specs.declared.Running.{Running}
use Rattle.positions.specs.Heard.{running, Reception, reception, Kept, held, heard}
use Rattle.blocks.specs.Answer.{moved}
use Rattle.combine.specs.Answer.{added_of, sums_of, counts_of, Standing, soft, blank, read_of, told_of}
use Rattle.combine.specs.Laws as laws
use Rattle.combine.specs.Laws.{kept_after}
use Rattle.combine.specs.Refusals as refusals
use Rattle.combine.specs.Refusals.{lent_sentences, add_sentences, read_sentences}
use Rattle.combine.specs.Total as totals
use Rattle.combine.specs.Total.{total, present_in}
use Rattle.combine.specs.Calls.{Calls, went_to, sum_by, counted}
use Rattle.combine.specs.Eighths.{Worth}
use Rattle.combine.specs.Exact.{Eighths, sum_exact}
use Rattle.families.specs.Symbols.{symbols_of, block_m}
use Rattle.tender.specs.Condition2.{Listed, admits, L, M, symbols_are, target_back}

-- a number is said exactly when its sentence is the first that holds: 1, also of profile 9, 2, 3, 16, 11, 10, 5, 6, 14, 13, 15 for a block,
-- 1, also of profile 9, 2, 3, 16, 11, 10, 4, 6 for a position
pub refusal_order_add : (s : Set) (b : Reception) (h : Kept) (k : ℕ) → (added_of s b h ≡ refused (refusal s k)) ↔ FirstTrue (add_sentences s b h) k
refusal_order_add s b h k = refusals.refusal_order_add s b h k

pub refusal_order_read : (s : Set) (h : Kept) (x k : ℕ) → (read_of s h x ≡ refused (refusal s k)) ↔ FirstTrue (read_sentences s h x) k
refusal_order_read s h x k = refusals.refusal_order_read s h x k

-- and then both buffers are what they were
pub refused_alone_add : (s : Set) (b : Reception) (h : Kept) (k : ℕ) → FirstTrue (add_sentences s b h) k
    → (added_of s b h ≡ refused (refusal s k)) × (sums_of s b h ≡ h.sums) × (counts_of s b h ≡ h.counts)
refused_alone_add s b h k f =
    let e = refusals.stored_kept s b h k f in
    ((refusals.refusal_order_add s b h k).1 f, ap (λ (x : Kept). x.sums) e, ap (λ (x : Kept). x.counts) e)

-- a listed set, but of profile 9, is served, if no sentence on what is lent holds; a position of it below N is read, with the buffers N long
pub served_add : (s : Set) (b : Reception) (h : Kept) → Listed s → s.profile ≢ 9 → NoneTrue (lent_sentences s b h) → added_of s b h ≡ done tt
served_add s b h l p n = refusals.add_served s b h ((admits s).0 l) p n

pub served_read : (s : Set) (h : Kept) (k : ℕ) → Listed s → s.profile ≢ 9 → length h.sums ≡ s.n → length h.counts ≡ s.n → k < s.n
    → (((held h k).count ≡ 0 → read_of s h k ≡ done blank) × ((held h k).count ≢ 0 → read_of s h k ≡ done (soft (held h k))))
served_read s h k l p i o b =
    let r = refusals.read_served s h k ((admits s).0 l) p i o b in
    (λ c. r ∙ rw (eq-eqb (held h k).count 0 c), λ c. r ∙ rw (ne_eqb (held h k).count 0 c))

-- what an accepted block does. "Values go to their input index": value t to position L(t)
module _ (s : Set) (b : Reception) (h : Kept) (e : added_of s b h ≡ done tt) (t : ℕ) (l : t < s.n) where
  goes : held (kept_after s b h) (L s t) ≡ heard (get_or b.present t 0) (get_or b.received t nan) (held h (L s t))
  goes = laws.goes_to s b h e t l

  -- "a blank changes nothing"
  pub blank_keeps : get_or b.present t 0 ≡ 0 → held (kept_after s b h) (L s t) ≡ held h (L s t)
  blank_keeps p = goes ∙ rw p

  -- "the first present value is stored with its bits unchanged, count 1", whatever stood in the sum
  pub first_stored : get_or b.present t 0 ≡ 1 → (held h (L s t)).count ≡ 0 → held (kept_after s b h) (L s t) ≡ running (get_or b.received t nan) 1
  first_stored p c = goes ∙ rw (p, c)

  -- "later ones are added with one rounding each, and the count rises by one"
  pub later_added : get_or b.present t 0 ≡ 1 → (held h (L s t)).count ≢ 0
      → held (kept_after s b h) (L s t) ≡ running (add binary32 (held h (L s t)).sum (get_or b.received t nan)) ((held h (L s t)).count + 1)
  later_added p c = goes ∙ rw (p, ne_eqb (held h (L s t)).count 0 c)

-- and both buffers are as long as they were
pub added_long : (s : Set) (b : Reception) (h : Kept) → added_of s b h ≡ done tt → (length (sums_of s b h) ≡ s.n) × (length (counts_of s b h) ≡ s.n)
added_long s b h e = (laws.sums_long s b h e, laws.counts_long s b h e)

-- "the counts' total rises by the number of present values"
pub total_rises : (s : Set) (b : Reception) (h : Kept) → added_of s b h ≡ done tt → total (counts_of s b h) ≡ total h.counts + present_in b.present
total_rises s b h e = totals.total_rises s b h e

-- any calls one after the other, refused ones between (`Calls`; with any set, any block, any part of the buffers): went_to are the present values of the accepted
-- ones that go to position k, in order. Its count is how many they are more, and its sum is these values added in order, one rounding each (sum_by), the first
-- of them stored as it is where the count was 0
module _ (s : Set) (k : ℕ) (l : k < s.n) {before behind : Kept} {blocks : List Reception} (calls : Calls s before blocks behind) where
  pub counted_once : held behind k ≡ running (sum_by (held before k) (went_to s blocks k)) ((held before k).count + length (went_to s blocks k))
  counted_once = counted s k l calls

  -- "a position's sum is exact while all values it received since its count was 0 are whole eighths and their magnitudes total at most 2,097,152": p eighths
  -- above zero and n below, 8 · 2,097,152 of both at most. Then the sum is finite and exactly p eighths less n
  pub exact : (p n : ℕ) → (held before k).count ≡ 0 → 0 < length (went_to s blocks k) → Eighths (went_to s blocks k) p n → p + n ≤ 8 * 2097152
      → Worth (held behind k).sum p n
  exact p n c some e m = sum_exact s k l calls p n c some e m

-- "Zero is a value": a present +0, or -0, is counted like any other, and where it is the first, read answers that very zero and the count 1. A position
-- that only blanks went to is answered as a blank
module _ (s : Set) (b : Reception) (h : Kept) (listed : Listed s) (e : added_of s b h ≡ done tt) (t : ℕ) (l : t < s.n) where
  reads : read_of s (kept_after s b h) (L s t) ≡ done (told_of (held (kept_after s b h) (L s t)))
  reads =
      refusals.read_served s (kept_after s b h) (L s t) ((admits s).0 listed) (laws.not_nine s b h e) (laws.sums_long s b h e) (laws.counts_long s b h e) ((laws.its_perm s b h e).l_below t l)

  pub zero_counts : (sign : Bool) → get_or b.received t nan ≡ fin sign 0 (pos 0) → get_or b.present t 0 ≡ 1
      → ((held (kept_after s b h) (L s t)).count ≡ (held h (L s t)).count + 1)
      × ((held h (L s t)).count ≡ 0 → read_of s (kept_after s b h) (L s t) ≡ done (soft (running (fin sign 0 (pos 0)) 1)))
  zero_counts sign z p = (
    ap (λ (r : Running). r.count) (laws.goes_to s b h e t l) ∙ rw p,
    λ c. reads ∙ ap (λ (r : Running). done (told_of r)) (first_stored s b h e t l p c ∙ ap (λ (v : Float). running v 1) z),
  )

  pub blank_reads : get_or b.present t 0 ≡ 0 → (held h (L s t)).count ≡ 0 → read_of s (kept_after s b h) (L s t) ≡ done blank
  blank_reads p c = reads ∙ ap (λ (r : Running). done (told_of r)) (blank_keeps s b h e t l p) ∙ rw c

-- the two differ in the answer
pub soft_or_blank : (r : Running) → ◌≢◌ {A = Outcome Refusal Standing} (done (soft r)) (done blank)
soft_or_blank r e = true≢false (ap is_soft e)
  where
    is_soft : Outcome Refusal Standing → Bool
    is_soft (done (soft r)) = true
    is_soft (done blank) = false
    is_soft (refused x) = false

-- no value decides a place: of two accepted blocks that differ in values alone, the counts after them are the same, and a value that both have at t
-- leaves the same at L(t), whatever the others are
module _ (s : Set) (vs ws : List Float) (ps : List ℕ) (h : Kept) (e : added_of s (reception vs ps) h ≡ done tt) (f : added_of s (reception ws ps) h ≡ done tt) where
  pub blind_counts : counts_of s (reception vs ps) h ≡ counts_of s (reception ws ps) h
  blind_counts = laws.counts_are s (reception vs ps) h e ∙ sym (laws.counts_are s (reception ws ps) h f)

  pub blind_place : (t : ℕ) → t < s.n → get_or vs t nan ≡ get_or ws t nan
      → held (kept_after s (reception vs ps) h) (L s t) ≡ held (kept_after s (reception ws ps) h) (L s t)
  blind_place t l q =
      laws.goes_to s (reception vs ps) h e t l
      ∙ ap (λ (v : Float). heard (get_or ps t 0) v (held h (L s t))) q
      ∙ sym (laws.goes_to s (reception ws ps) h f t l)

-- the places are those of a deinterleaved block: position k hears entry k of the block that `blocks` deinterleaves, and of its presence bytes
pub as_deinterleaved : (s : Set) (b : Reception) (h : Kept) (dst : List Float) (bytes : List ℕ) → Listed s → added_of s b h ≡ done tt
    → length dst ≡ s.n → length bytes ≡ s.n → (k : ℕ) → k < s.n
    → held (kept_after s b h) k ≡ heard (get_or (moved Deinterleaver s 0 b.present bytes) k 0) (get_or (moved Deinterleaver s nan b.received dst) k nan) (held h k)
as_deinterleaved s b h dst bytes listed e d p k l =
    let n = laws.its_lengths s b h e in
    let a = symbols_are s (laws.not_nine s b h e) in
    let z = sym a.0 in
    let h' : k < symbols_of s = rw a.0 l in
    let m : block_m s k ≡ M s k = ap (λ (f : ℕ → ℕ). f k) a.2 in
    laws.hears s b h e k l
    ∙ ap₂ (λ (x : ℕ) (v : Float). heard x v (held h k))
    (sym (target_back s listed 0 b.present bytes (n.present ∙ z) (p ∙ z) k h' ∙ ap (λ (x : ℕ). get_or b.present x 0) m))
    (sym (target_back s listed nan b.received dst (n.received ∙ z) (d ∙ z) k h' ∙ ap (λ (x : ℕ). get_or b.received x nan) m))

-- The loop that adds a block: what holds at each turn. Each position is met once, so what is written there is made of what was stored before the call;
-- the block of what is written, in output order, is scattered as any block is (Move of `laws`).
use Rattle.std.specs.Prelude.{ℕ, ◌+◌, ◌≤◌, ◌<◌, List, ◌≢◌, ◌≡◌, Float, length, get_or, set}
use Rattle.std.proofs.Common.{sym, ap, ap₂, ◌∙◌, subst, zero-add, arith}
use Rattle.std.specs.Float.{nan}
use Rattle.laws.specs.Run.{run, length_run, get_or_run}
use Rattle.laws.specs.Move.{scatter, unmet}
use Rattle.laws.specs.Loop.{by, Within, Scattered, scatter_first, scatter_more, scatter_all}
use Rattle.positions.specs.declared.Running.{Running}
use Rattle.positions.specs.Heard.{running, Reception, Kept, kept, held, heard, Hears}
use Rattle.adders.specs.Lines.{heard_at}

-- a table holds so many addresses, and all that is lent is that long
pub record Fitting (table : List ℕ) (b : Reception) (h : Kept) : Type 0 where
  pub presences : length b.present ≡ length b.received
  pub sums : length h.sums ≡ length b.received
  pub counts : length h.counts ≡ length b.received
  pub room : length b.received ≤ length table
  pub within : Within table (length b.received) (length b.received)

-- the table besides has no address twice, and no count passes 65,535
pub record Ready (table : List ℕ) (b : Reception) (h : Kept) : Type 0 where
  pub fitting : Fitting table b h
  pub once : (i j : ℕ) → i < length b.received → j < length b.received → by table i ≡ by table j → i ≡ j
  pub spare : (t : ℕ) → t < length b.received → (heard_at (by table) b h t).count ≤ 65535

-- what is written for the block, in output order, and where that goes
module _ (l : ℕ → ℕ) (n : ℕ) (b : Reception) (h : Kept) where
  abbrev pub new_sums : List Float
  new_sums = run (λ t. (heard_at l b h t).sum) 0 n

  abbrev pub new_counts : List ℕ
  new_counts = run (λ t. (heard_at l b h t).count) 0 n

  abbrev pub sums_by : List Float
  sums_by = scatter l n nan new_sums h.sums

  abbrev pub counts_by : List ℕ
  counts_by = scatter l n 0 new_counts h.counts

-- the first t values are added
pub record Added (table : List ℕ) (b : Reception) (h : Kept) (ss : List Float) (cs : List ℕ) (t : ℕ) : Type 0 where
  pub sums : Scattered table nan (new_sums (by table) (length b.received) b h) h.sums ss t
  pub counts : Scattered table 0 (new_counts (by table) (length b.received) b h) h.counts cs t

module _ {table : List ℕ} {b : Reception} {h : Kept} (r : Ready table b h) where
  -- value t of a list by a rule, which has as many as were received
  in_run : {A : Type 0} (f : ℕ → A) {t : ℕ} → t < length b.received → t < length (run f 0 (length b.received))
  in_run f l = omega (arith, length_run f 0 (length b.received))

  entry : {A : Type 0} (f : ℕ → A) (z : A) (t : ℕ) → t < length b.received → get_or (run f 0 (length b.received)) t z ≡ f t
  entry f z t l = get_or_run f 0 (length b.received) t z l ∙ ap f (zero-add t)

  pub added_none : Added table b h h.sums h.counts 0
  added_none = record { sums = scatter_first table nan _ h.sums; counts = scatter_first table 0 _ h.counts }

  module _ {ss : List Float} {cs : List ℕ} {t : ℕ} (a : Added table b h ss cs t) (lt : t < length b.received) where
    -- the position of value t is as it was before the call
    as_stored : held (kept ss cs) (by table t) ≡ held h (by table t)
    as_stored =
        ap₂ running
        (ap (λ (l : List Float). get_or l (by table t) nan) a.sums.list ∙ unmet (by table) t nan (new_sums (by table) (length b.received) b h) h.sums (by table t) fresh)
        (ap (λ (l : List ℕ). get_or l (by table t) 0) a.counts.list ∙ unmet (by table) t 0 (new_counts (by table) (length b.received) b h) h.counts (by table t) fresh)
      where
        fresh : (j : ℕ) → j < t → by table t ≢ by table j
        fresh j g e = let z = r.once t j lt (omega arith) e in let y : ⊥ = omega arith in y

    -- so what value t makes of it is what it makes of what was stored
    heard_so : heard (get_or b.present t 0) (get_or b.received t nan) (held (kept ss cs) (by table t)) ≡ heard_at (by table) b h t
    heard_so = ap (heard (get_or b.present t 0) (get_or b.received t nan)) as_stored

    pub may_hear : Hears (get_or b.present t 0) (get_or b.received t nan) (by table t) (kept ss cs)
    may_hear = record {
      sums = omega (arith, a.sums.long, r.fitting.sums, r.fitting.within t lt);
      counts = omega (arith, a.counts.long, r.fitting.counts, r.fitting.within t lt);
      spare = subst (λ (x : Running). x.count ≤ 65535) (sym heard_so) (r.spare t lt);
    }

    pub added_more : {ss₁ : List Float} {cs₁ : List ℕ}
        → ss₁ ≡ set ss (by table t) (heard (get_or b.present t 0) (get_or b.received t nan) (held (kept ss cs) (by table t))).sum
        → cs₁ ≡ set cs (by table t) (heard (get_or b.present t 0) (get_or b.received t nan) (held (kept ss cs) (by table t))).count
        → Added table b h ss₁ cs₁ (t + 1)
    added_more p q = record {
      sums = rw (p ∙ ap (set ss (by table t)) (ap (λ (x : Running). x.sum) heard_so ∙ sym (entry (λ k. (heard_at (by table) b h k).sum) nan t lt)))
          (scatter_more table nan _ h.sums a.sums (in_run (λ k. (heard_at (by table) b h k).sum) lt));
      counts = rw (q ∙ ap (set cs (by table t)) (ap (λ (x : Running). x.count) heard_so ∙ sym (entry (λ k. (heard_at (by table) b h k).count) 0 t lt)))
          (scatter_more table 0 _ h.counts a.counts (in_run (λ k. (heard_at (by table) b h k).count) lt));
    }

  pub added_all : {ss : List Float} {cs : List ℕ} {t : ℕ} → Added table b h ss cs t → length b.received ≤ t
      → (ss ≡ sums_by (by table) (length b.received) b h) × (cs ≡ counts_by (by table) (length b.received) b h)
  added_all a g =
      let n = length_run (λ k. (heard_at (by table) b h k).sum) 0 (length b.received) in
      let m = length_run (λ k. (heard_at (by table) b h k).count) 0 (length b.received) in (
        scatter_all table nan _ h.sums a.sums (omega (arith, n)) ∙ ap (λ (k : ℕ). scatter (by table) k nan (new_sums (by table) (length b.received) b h) h.sums) n,
        scatter_all table 0 _ h.counts a.counts (omega (arith, m)) ∙ ap (λ (k : ℕ). scatter (by table) k 0 (new_counts (by table) (length b.received) b h) h.counts) m,
      )

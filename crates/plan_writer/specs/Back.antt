-- A written file read back: its header says its sets, its lists are their L, and it is of the form.
use Rattle.std.specs.Prelude.{ℕ, zero, suc, ◌+◌, ◌*◌, ◌≤◌, ◌<◌, true, ◌≡◌, refl, get_or}
use mathlib.Core.List.{List, [], ◌∷◌, ◌++◌, append_assoc}
use Rattle.std.proofs.Math.Path.{sym, ap, ap₂}
use Rattle.std.proofs.Common.{◌∙◌, subst, zero-add, add-zero, suc-add, add-suc, eq-eqb}
use native.Mathlib.Omega.{arith}
use Rattle.std.proofs.Math.Dec.{eqb}
use Rattle.std.proofs.Math.ListN.{length, length-append}
use Rattle.laws.specs.Members.{All}
use Rattle.laws.specs.Outcome.{clear, first, clear_front, clear_back}
use Rattle.laws.specs.Run.{get_or_run, run_get_or, run_same, length_run}
use Rattle.big_end.specs.Numbers.{number_at, pair_at, number_bytes, pair_bytes}
use Rattle.big_end.specs.Back.{number_back, pair_back, number_part, pair_part}
use Rattle.sets.specs.declared.Set.{Set}
use Rattle.sizes.specs.Listed.{bits_small}
use Rattle.sizes.specs.Admits.{listed_passing}
use Rattle.sets.specs.Set.{size_of}
use Rattle.sets.proofs.Admits.{accepted_listed}
use Rattle.families.specs.Rules.{L, lawful}
use Rattle.pieces.specs.Pieces.{list_of}
use Rattle.plan_form.specs.Form.{entry_place, set_of, plans_in, set_in, offset_in, count_in, addresses_at, list_in, lists_meet, formed}
use Rattle.plan_form.specs.Meets.{by_lists}
use Rattle.plan_form.specs.Planned.{planned_lines, planned_profile, planned_accepted}
use Rattle.plan_writer.specs.File.{entry_bytes, entries_bytes, list_bytes, lists_bytes, file_of, total_of, file_length, all_lines}
use Rattle.plan_writer.specs.Lengths.{entry_length, entries_length, listed_length, file_length_lem}

-- a set of a profile, bits and N, numbers of 32 bits, whose addresses have 16
pub record Kept (s : Set) : Type 0 where
  pub three : set_of s.profile s.bits s.n ≡ s
  pub profile : s.profile < 4294967296
  pub bits : s.bits < 4294967296
  pub n : s.n < 4294967296
  pub low : (k : ℕ) → k < s.n → get_or (list_of s) k 0 < 65536

-- an entry read back
pub record EntryRead (f : List ℕ) (i : ℕ) (s : Set) (at : ℕ) : Type 0 where
  pub set_is : set_in f i ≡ s
  pub offset_is : offset_in f i ≡ at
  pub count_is : count_in f i ≡ s.n

set_by : {a b c : ℕ} (s : Set) → a ≡ s.profile → b ≡ s.bits → c ≡ s.n → set_of a b c ≡ set_of s.profile s.bits s.n
set_by {a} {b} {c} s p q r = ap₂ (λ (x y : ℕ). set_of x y c) p q ∙ ap (set_of s.profile s.bits) r

entry_read : (p r : List ℕ) (i at : ℕ) (s : Set) → length p ≡ entry_place i → Kept s → at < 4294967296 → EntryRead (p ++ (entry_bytes s at ++ r)) i s at
unfolding set_in entry_bytes number_at
entry_read p r i at s e w h = record {
  set_is =
      let l = entry_bytes s at ++ r in
      let a : number_at (p ++ l) (entry_place i) ≡ s.profile =
      ap (number_at (p ++ l)) (let z : entry_place i ≡ entry_place i + 0 = omega arith in z) ∙ number_part p l (entry_place i) 0 e ∙ number_back s.profile w.profile in
      let b : number_at (p ++ l) (entry_place i + 4) ≡ s.bits = number_part p l (entry_place i) 4 e ∙ number_back s.bits w.bits in
      let c : number_at (p ++ l) (entry_place i + 8) ≡ s.n = number_part p l (entry_place i) 8 e ∙ number_back s.n w.n in
      set_by s a b c ∙ w.three;
  offset_is = number_part p (entry_bytes s at ++ r) (entry_place i) 12 e ∙ number_back at h;
  count_is = number_part p (entry_bytes s at ++ r) (entry_place i) 16 e ∙ number_back s.n w.n;
}

-- a list read back
address_read : (l r : List ℕ) (t : ℕ) → ((k : ℕ) → k < length l → get_or l k 0 < 65536) → t < length l → pair_at (list_bytes l ++ r) (2 * t) ≡ get_or l t 0
unfolding list_bytes pair_at
address_read [] r t w h = absurd (let z : ⊥ = omega arith in z)
address_read (a ∷ l) r zero w h = pair_back a (w 0 (omega arith))
address_read (a ∷ l) r (suc t) w h =
    ap (λ (k : ℕ). pair_at (pair_bytes a ++ (list_bytes l ++ r)) k) (let e : 2 * suc t ≡ 2 + 2 * t = omega arith in e)
    ∙ pair_part (pair_bytes a) (list_bytes l ++ r) 2 (2 * t) refl
    ∙ address_read l r t (λ k m. w (suc k) (omega arith)) (omega arith)

list_read : (q l r : List ℕ) (at : ℕ) → length q ≡ at → ((k : ℕ) → k < length l → get_or l k 0 < 65536) → addresses_at (q ++ (list_bytes l ++ r)) at (length l) ≡ l
unfolding addresses_at
list_read q l r at e w =
    run_same (λ t. pair_at (q ++ (list_bytes l ++ r)) (at + 2 * t)) (λ t. get_or l t 0) 0 (length l)
    (λ t h. pair_part q (list_bytes l ++ r) at (2 * t) e ∙ address_read l r t w (omega arith))
    ∙ run_get_or l 0

-- plan j of a file is this set's
pub record PlanRead (f : List ℕ) (j : ℕ) (s : Set) : Type 0 where
  pub set_is : set_in f j ≡ s
  pub list_is : list_in f j ≡ list_of s

-- the plans from plan i on, whose headers stand behind p and whose lists stand behind q
module _ (f : List ℕ) where
  pub record Laid (p q r : List ℕ) (ss : List Set) (i at : ℕ) : Type 0 where
    pub headers : f ≡ p ++ (entries_bytes ss at ++ r)
    pub lists : f ≡ q ++ lists_bytes ss
    pub p_long : length p ≡ entry_place i
    pub q_long : length q ≡ at
    pub kept : All Kept ss
    pub small : at + 2 * total_of ss < 4294967296

  module _ {p q r : List ℕ} {s : Set} {ss : List Set} {i at : ℕ} (z : Laid p q r (s ∷ ss) i at) where
    head_read : EntryRead f i s at
    unfolding entries_bytes
    head_read =
        rw (z.headers ∙ ap (λ (l : List ℕ). p ++ l) (append_assoc (entry_bytes s at) (entries_bytes ss (at + 2 * s.n)) r))
        (entry_read p (entries_bytes ss (at + 2 * s.n) ++ r) i at s z.p_long z.kept.0 (omega (arith, z.small)))

    laid_next : Laid (p ++ entry_bytes s at) (q ++ list_bytes (list_of s)) r ss (suc i) (at + 2 * s.n)
    unfolding entries_bytes lists_bytes
    laid_next = record {
      headers =
          z.headers ∙ ap (λ (l : List ℕ). p ++ l) (append_assoc (entry_bytes s at) (entries_bytes ss (at + 2 * s.n)) r)
          ∙ sym (append_assoc p (entry_bytes s at) (entries_bytes ss (at + 2 * s.n) ++ r));
      lists = z.lists ∙ sym (append_assoc q (list_bytes (list_of s)) (lists_bytes ss));
      p_long = length-append p (entry_bytes s at) ∙ omega (arith, z.p_long, entry_length s at);
      q_long = length-append q (list_bytes (list_of s)) ∙ omega (arith, z.q_long, listed_length s);
      kept = z.kept.1;
      small = omega (arith, z.small);
    }

    head_plan : PlanRead f i s
    unfolding lists_bytes
    head_plan =
        let e = head_read in
        let n : length (list_of s) ≡ s.n = length_run (L s) 0 s.n in
        record {
          set_is = e.set_is;
          list_is =
              ap₂ (addresses_at f) e.offset_is (e.count_is ∙ sym n)
              ∙ ap (λ (g : List ℕ). addresses_at g at (length (list_of s))) z.lists
              ∙ list_read q (list_of s) (lists_bytes ss) at z.q_long (λ k h. z.kept.0.low k (omega (arith, n)));
        }

  -- the lists meet, to the end
  laid_meet : (ss : List Set) (p q r : List ℕ) (i at : ℕ) → Laid p q r ss i at → lists_meet f (length ss) i at ≡ eqb (at + 2 * total_of ss) (length f)
  unfolding lists_meet
  laid_meet [] p q r i at z = ap (λ (k : ℕ). eqb k (length f)) (let e : at ≡ at + 2 * 0 = omega arith in e)
  laid_meet (s ∷ ss) p q r i at z =
      let e = head_read z in
      rw (eq-eqb (offset_in f i) at e.offset_is, e.count_is)
      (laid_meet ss (p ++ entry_bytes s at) (q ++ list_bytes (list_of s)) r (suc i) (at + 2 * s.n) (laid_next z)
      ∙ ap (λ (k : ℕ). eqb k (length f)) (let e : at + 2 * s.n + 2 * total_of ss ≡ at + 2 * (s.n + total_of ss) = omega arith in e))

  -- each plan is its set's
  laid_plan : (ss : List Set) (p q r : List ℕ) (i at : ℕ) → Laid p q r ss i at → (j : ℕ) → j < length ss → PlanRead f (i + j) (get_or ss j (set_of 0 0 0))
  laid_plan [] p q r i at z j h = absurd (let y : ⊥ = omega arith in y)
  laid_plan (s ∷ ss) p q r i at z zero h = subst (λ (k : ℕ). PlanRead f k s) (sym (add-zero i)) (head_plan z)
  laid_plan (s ∷ ss) p q r i at z (suc j) h =
      subst (λ (k : ℕ). PlanRead f k (get_or ss j (set_of 0 0 0))) (suc-add i j ∙ sym (add-suc i j))
      (laid_plan ss (p ++ entry_bytes s at) (q ++ list_bytes (list_of s)) r (suc i) (at + 2 * s.n) (laid_next z) j (omega arith))

-- good sets, some and few, whose file is no larger than it may be
pub record GoodSets (ss : List Set) : Type 0 where
  pub three : All (λ s. set_of s.profile s.bits s.n ≡ s) ss
  pub good : first (all_lines ss) ≡ clear
  pub some : 1 ≤ length ss
  pub few : length ss ≤ 16
  pub size : file_length ss ≤ 65536

-- have small numbers and low addresses
good_kept : (s : Set) → set_of s.profile s.bits s.n ≡ s → first (planned_lines s) ≡ clear → 2 * s.n ≤ 65536 → Kept s
good_kept s t e h =
    let a = planned_accepted s e in
    record {
      three = t;
      profile = omega (arith, planned_profile s e);
      bits = omega (arith, (bits_small (size_of s) (listed_passing (size_of s) (accepted_listed s a)).bits_pass).1);
      n = omega arith;
      low = λ k l. rw (get_or_run (L s) 0 s.n k 0 l, zero-add k) (omega (arith, (lawful s a).perm.l_below k l));
    }

all_kept : (ss : List Set) → All (λ s. set_of s.profile s.bits s.n ≡ s) ss → first (all_lines ss) ≡ clear → 2 * total_of ss ≤ 65536 → All Kept ss
all_kept [] t e h = tt
all_kept (s ∷ ss) t e h =
    (good_kept s t.0 (clear_front (planned_lines s) (all_lines ss) e) (omega arith), all_kept ss t.1 (clear_back (planned_lines s) (all_lines ss) e) (omega arith))

pub good_at : (ss : List Set) (j : ℕ) → first (all_lines ss) ≡ clear → j < length ss → first (planned_lines (get_or ss j (set_of 0 0 0))) ≡ clear
good_at [] j e h = absurd (let y : ⊥ = omega arith in y)
good_at (s ∷ ss) zero e h = clear_front (planned_lines s) (all_lines ss) e
good_at (s ∷ ss) (suc j) e h = good_at ss j (clear_back (planned_lines s) (all_lines ss) e) (omega arith)

-- the file of good sets
module _ (ss : List Set) (g : GoodSets ss) where
  total_small : entry_place (length ss) + 2 * total_of ss ≤ 65536
  unfolding file_length
  total_small = g.size

  laid_file : Laid (file_of ss) (number_bytes (length ss)) (number_bytes (length ss) ++ entries_bytes ss (entry_place (length ss))) (lists_bytes ss) ss 0 (entry_place (length ss))
  unfolding file_of
  laid_file = record {
    headers = refl;
    lists = sym (append_assoc (number_bytes (length ss)) (entries_bytes ss (entry_place (length ss))) (lists_bytes ss));
    p_long = refl;
    q_long =
        length-append (number_bytes (length ss)) (entries_bytes ss (entry_place (length ss)))
        ∙ omega (arith, entries_length ss (entry_place (length ss)));
    kept = all_kept ss g.three g.good (omega (arith, total_small));
    small = omega (arith, total_small);
  }

  pub plans_read : length ss ≡ plans_in (file_of ss)
  unfolding file_of number_at
  plans_read = sym (number_back (length ss) (omega (arith, g.few)))

  long : length (file_of ss) ≡ entry_place (length ss) + 2 * total_of ss
  unfolding file_length
  long = file_length_lem ss

  -- it is of the form
  pub written_formed : formed (file_of ss) ≡ true
  written_formed =
      sym (by_lists (file_of ss) (omega (arith, long, total_small)) (omega (arith, long)) plans_read g.some g.few (omega (arith, long)))
      ∙ laid_meet (file_of ss) ss _ _ _ 0 (entry_place (length ss)) laid_file
      ∙ eq-eqb (entry_place (length ss) + 2 * total_of ss) (length (file_of ss)) (sym long)

  -- and plan j, counted from 0, is its set's
  pub plan_read : (j : ℕ) → j < length ss → PlanRead (file_of ss) j (get_or ss j (set_of 0 0 0))
  plan_read j h =
      subst (λ (k : ℕ). PlanRead (file_of ss) k (get_or ss j (set_of 0 0 0))) (zero-add j)
      (laid_plan (file_of ss) ss _ _ _ 0 (entry_place (length ss)) laid_file j h)

-- What stands behind each return of judging a block, behind a block that was judged, and behind a table that was filled. Over a block of any length.
use Rattle.std.specs.Prelude.{ℕ, ◌+◌, ◌*◌, ◌/◌, ◌%◌, ◌≤◌, ◌<◌, List, Bool, ◌≡◌, refl, eqb, length}
use Rattle.std.proofs.Math.Bool.{true, false, cond}
use Rattle.std.proofs.Common.{sym, ◌∙◌, mul-one}
use Rattle.std.proofs.Math.Path.{ap}
use native.Mathlib.Omega.{arith}
use borrow.Author.Tests.{eq-eqb, ne_eqb, eqb-true, not-false}
use Rattle.laws.specs.declared.Way.TheVariants.{Interleaver}
use Rattle.laws.specs.Outcome.{done, refused, clear, first, after, clear_back, first_clear, answer_keeps, answer_clear}
use Rattle.laws.specs.Loop.{by}
use Rattle.laws.specs.Perm.{Perm}
use Rattle.laws.specs.Digits.{high_below}
use Rattle.laws.specs.Leaves.{holds_l}
use Rattle.laws.specs.Walk.{Rule, Leaf}
use Rattle.sets.specs.declared.Set.{Set}
use Rattle.sets.specs.declared.Refusal.{Refusal}
use Rattle.sets.specs.Set.{family_of, is_coupled}
use Rattle.sets.specs.Verdict.{set_lines, refusal, verdict_of}
use Rattle.sets.specs.Admits.{Accepted}
use Rattle.sets.proofs.Admits.{accepted_front, set_refused, front_accepted}
use Rattle.families.specs.Rules.{L, lawful}
use Rattle.families.specs.Symbols.{symbols_of, block_l, block_m, symbols_two, block_coupled, symbols_plain, block_plain, block_once, symbols_most}
use Rattle.families.specs.Taken.{WalkLeaf, leaf_had}
use Rattle.couples.specs.Symbols.{swapped, symbol_l}
use Rattle.couples_walk.specs.Spread.{OfCouples, Spread}
use Rattle.tables.specs.Answer.{length_lines, block_lines, moved_of}
use Rattle.tables.specs.Passed.{Judged, Tabled}

-- judging, return by return. The set is refused: so is the block
pub block_refused : (s : Set) (total i o : ℕ) {x : Refusal} → verdict_of s ≡ refused x → refused x ≡ moved_of s total i o
unfolding block_lines
block_refused s total i o e = set_refused s (length_lines total i o) tt e

-- it is accepted: the two lengths decide
module _ (s : Set) (total i o : ℕ) (a : Accepted s) where
  front : first (block_lines s total i o) ≡ first (length_lines total i o)
  unfolding block_lines
  front = accepted_front s (length_lines total i o) a

  -- as a length that was worked out has them
  module _ {t : ℕ} (w : t ≡ total) where
    pub is_five : {x : Refusal} → (i ≡ t → ⊥) → x ≡ refusal s 5 → refused x ≡ moved_of s total i o
    is_five n q = rw (front, ne_eqb i total (λ e. n (e ∙ sym w))) (ap refused q)

    pub is_six : {x : Refusal} → i ≡ t → (o ≡ t → ⊥) → x ≡ refusal s 6 → refused x ≡ moved_of s total i o
    is_six e n q = rw (front, eq-eqb i total (e ∙ w), ne_eqb o total (λ e. n (e ∙ sym w))) (ap refused q)

-- a block of the lengths that it must have, of an accepted set, is moved
pub block_served : (s : Set) (total : ℕ) {i o : ℕ} → Accepted s → i ≡ total → o ≡ total → moved_of s total i o ≡ done tt
block_served s total {i} {o} a e f = rw (front s total i o a, eq-eqb i total e, eq-eqb o total f)

-- of symbols of one entry the length is how many there are
pub answer_one : (s : Set) (i o : ℕ) → moved_of s (symbols_of s * 1) i o ≡ moved_of s (symbols_of s) i o
answer_one s i o = rw (mul-one (symbols_of s))

-- where a call on a block is done, it was judged so
module _ (s : Set) (total i o : ℕ) (e : moved_of s total i o ≡ done tt) where
  all_clear : first (block_lines s total i o) ≡ clear
  all_clear = answer_clear (refusal s) tt (block_lines s total i o) e

  pub judged_so : Judged s total i o
  unfolding block_lines
  judged_so =
      let c = first_clear (length_lines total i o) (clear_back (set_lines s) (length_lines total i o) all_clear) in
      record {
        accepted = front_accepted s (length_lines total i o) all_clear;
        input = eqb-true i total (not-false (eqb i total) c.0);
        output = eqb-true o total (not-false (eqb o total) c.1.0);
      }

  pub its_perm : Perm (symbols_of s) (block_l s) (block_m s)
  its_perm = block_once s judged_so.accepted

  pub its_lengths : (i ≡ total) × (o ≡ total)
  its_lengths = (judged_so.input, judged_so.output)

  -- and a buffer after the call is the new one
  pub its_output : {B : Type 0} (new old : B) → after (block_lines s total i o) new old ≡ new
  its_output new old = rw all_clear

-- and so for one that was judged
pub judged_output : {B : Type 0} {s : Set} {total i o : ℕ} → Judged s total i o → (new old : B) → after (block_lines s total i o) new old ≡ new
judged_output {B} {s} {total} {i} {o} j new old = its_output s total i o (block_served s total j.accepted j.input j.output) new old

-- one that was refused: a buffer after the call is the old one
pub kept_output : {B : Type 0} (s : Set) (total i o : ℕ) {x : Refusal} → refused x ≡ moved_of s total i o → (new old : B)
    → old ≡ after (block_lines s total i o) new old
kept_output s total i o e new old = sym (answer_keeps (refusal s) tt (block_lines s total i o) (sym e) new old)

-- the table that the walk from the first cell filled, where there is room for the symbols
module _ (s : Set) (a : Accepted s) where
  size_within : s.n ≤ symbols_of s
  unfolding symbols_of
  size_within = go (is_coupled (family_of s))
    where
      go : (c : Bool) → s.n ≤ cond c (2 * s.n) s.n
      go true = omega arith
      go false = omega arith

  tabled : {table : List ℕ} → symbols_of s ≤ length table → ((t : ℕ) → t < symbols_of s → by table t ≡ block_l s t) → Tabled s table
  tabled r h = record { room = r; holds = h; within = λ t l. rw (h t l) ((block_once s a).l_below t l) }

  module _ (old : List ℕ) {table : List ℕ} {leaf : Leaf} (room : symbols_of s ≤ length old) (w : WalkLeaf Interleaver s 0 old table leaf)
      (same : length table ≡ length old) where
    walked : (k : ℕ) → k < s.n → by table k ≡ L s k
    walked k l = holds_l (lawful s a) (leaf_had Interleaver s refl w) k (omega (arith, size_within)) l

    -- it is the table, but for couples ..
    pub tabled_plain : is_coupled (family_of s) ≡ false → Tabled s table
    tabled_plain c =
        tabled (omega arith) (λ t l. walked t (omega (arith, symbols_plain s c)) ∙ ap (λ (r : Rule). r.l t) (sym (block_plain s c)))

    -- .. which are spread to their symbols
    module _ (c : is_coupled (family_of s) ≡ true) where
      pub couples_tabled : OfCouples s.n table
      couples_tabled =
          let q = symbols_two s c in
          record {
            room = omega (arith, room, same, q);
            small = omega (arith, symbols_most s a, q);
            below = λ k l. rw (walked k l) ((lawful s a).perm.l_below k l);
          }

      pub tabled_spread : {new : List ℕ} → Spread s.n table new → Tabled s new
      unfolding symbol_l
      tabled_spread p =
          let q = symbols_two s c in
          tabled (omega (arith, room, same, p.long))
          (λ t l.
          let h : t < 2 * s.n = omega arith in
          p.symbols t h
          ∙ ap (λ (x : ℕ). swapped (2 * x + t % 2)) (walked (t / 2) (high_below 2 s.n t (omega arith) h))
          ∙ ap (λ (r : Rule). r.l t) (sym (block_coupled s c)))

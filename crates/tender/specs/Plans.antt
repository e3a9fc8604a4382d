-- Change request 9: which file is a plan file, which refusal a call on one gives, what judging a plan says, and what is written.
use Rattle.std.specs.Prelude.{ℕ, max, ◌-◌, ◌/◌, ◌≤◌, ◌<◌, true, ◌↔◌, ◌≢◌, ◌≡◌, eqb, length}
use mathlib.Core.List.{List, [], ◌∷◌, Memᴰ}
use Rattle.std.proofs.Math.Path.{refl, ap, subst}
use Rattle.std.proofs.Common.{sym, ◌∙◌, arith}
use borrow.Author.Tests.{ltb-false, eqb-false, eqb-true, not-false, ne_eqb, le-ltb}
use Rattle.laws.specs.Outcome.{done, refused, Clear, first_clear, clear_first, clear_done, clear_front, clear_back, answer_clear}
use Rattle.laws.specs.Sentences.{FirstTrue}
use Rattle.sets.specs.Verdict.{set_lines, refusal, verdict_of}
use Rattle.sets.specs.Admits.{Accepted}
use Rattle.sets.proofs.Handed.{its_number}
use Rattle.pieces.specs.Pieces.{list_of}
use Rattle.plan_form.specs.Form.{plans_in, set_in, set_of, list_in, formed}
use Rattle.plan_form.specs.Gapless.{PlanFile, formed_exactly}
use Rattle.plan_form.specs.Lists.{wrongs}
use Rattle.plan_form.specs.Right.{Right, Wrongly, wrong_positions}
use Rattle.plan_form.specs.Planned.{planned_lines, planned_profile, planned_accepted}
use Rattle.plan_writer.specs.File.{set_at, sets_in, file_of, file_length, bad_of}
use Rattle.plan_writer.specs.Bad.{FirstBad}
use Rattle.plans.specs.declared.judging.Compared.{Compared}
use Rattle.plans.specs.declared.judging.Compared.TheVariants.{Same, Wrong}
use Rattle.plans.specs.Judging.{same, wrong, compared, judge_lines, judged_of, counted_of}
use Rattle.plans.specs.Writing.{length_lines, write_lines, room_lines, length_of, written_of, buffer_of}
use Rattle.plans.proofs.WritingLaws.{length_says, write_done, write_new}
use Rattle.plans.specs.Differing.{differed_of}
use Rattle.plans.specs.Laws as law
use Rattle.plans.proofs.Back as back
use Rattle.plans.specs.Refusals.{file_sentence, judge_sentences, length_sentences, write_sentences, files_sentences}
use Rattle.plans.proofs.Refusals.{buffer_kept}
use Rattle.plans.proofs.Refusals as order
use Rattle.tender.specs.Fits.{HandsOn, carries}

-- "anything else, or more than 65,536 bytes, is refusal 12": PlanFile has the sentences
pub plan_form : (f : List ℕ) → (formed f ≡ true) ↔ PlanFile f
plan_form f = formed_exactly f

-- each refusal is given exactly when its sentence is the first that holds: counting plans 12; judging one 12, 4, 1, 2, 3 ..
pub plan_count_refused : (f : List ℕ) (k : ℕ) → (counted_of f ≡ refused (refusal (set_of 0 0 0) k)) ↔ FirstTrue (file_sentence f ∷ []) k
plan_count_refused f k = order.refusal_order_count f k

pub plan_judge_refused : (f : List ℕ) (plan k : ℕ) → (judged_of f plan ≡ refused (refusal (set_in f (plan - 1)) k)) ↔ FirstTrue (judge_sentences f plan) k
plan_judge_refused f plan k = order.refusal_order_judge f plan k

-- .. a file's length 12, the first bad set's own, 12; writing it these and 6 ..
pub plan_length_refused : (l : List ℕ) (k : ℕ) → (length_of l ≡ refused (refusal (bad_of (sets_in l)) k)) ↔ FirstTrue (length_sentences l) k
plan_length_refused l k = order.refusal_order_length l k

pub plan_write_refused : (l : List ℕ) (room k : ℕ) → (written_of l room ≡ refused (refusal (bad_of (sets_in l)) k)) ↔ FirstTrue (write_sentences l room) k
plan_write_refused l room k = order.refusal_order_write l room k

-- .. and then the buffer is what it was ..
pub plan_write_alone : (l old : List ℕ) (k : ℕ) → FirstTrue (write_sentences l (length old)) k
    → (written_of l (length old) ≡ refused (refusal (bad_of (sets_in l)) k)) × (buffer_of l old ≡ old)
plan_write_alone l old k h = ((order.refusal_order_write l (length old) k).1 h, buffer_kept l old k h)

-- .. the differences of two files 12, of either
pub plan_differ_refused : (f g : List ℕ) (plan position k : ℕ)
    → (differed_of f g plan position ≡ refused (refusal (set_of 0 0 0) k)) ↔ FirstTrue (files_sentences f g) k
plan_differ_refused f g plan position k = order.refusal_order_differ f g plan position k

-- a refusal of the writer that is neither 12 nor 6 is of the first set that is refused: those before it are good, and the number is its own
pub plan_first_bad : (l : List ℕ) (k : ℕ) → k ≢ 12 → k ≢ 6
    → (length_of l ≡ refused (refusal (bad_of (sets_in l)) k) → FirstBad (sets_in l) (bad_of (sets_in l)) k)
    × ((room : ℕ) → written_of l room ≡ refused (refusal (bad_of (sets_in l)) k) → FirstBad (sets_in l) (bad_of (sets_in l)) k)
plan_first_bad l k n m = (
  λ e. order.length_of_bad l k (ne_eqb 12 k (λ q. n (sym q))) e,
  λ room e. order.write_of_bad l k (ne_eqb 12 k (λ q. n (sym q))) room (ne_eqb 6 k (λ q. m (sym q))) e,
)

-- a refusal carries the size that would have fitted, of the plan's set, and of the first bad set
pub plan_fits : ((f : List ℕ) (plan : ℕ) → HandsOn (set_in f (plan - 1)) (judged_of f plan))
    × ((l : List ℕ) → HandsOn (bad_of (sets_in l)) (length_of l))
    × ((l : List ℕ) (room : ℕ) → HandsOn (bad_of (sets_in l)) (written_of l room))
unfolding judged_of length_of written_of
plan_fits = (
  λ f plan x e. carries (set_in f (plan - 1)) x
      (its_number (set_in f (plan - 1)) (compared (list_in f (plan - 1)) (list_of (set_in f (plan - 1)))) x (judge_lines f plan) e),
  λ l x e. carries (bad_of (sets_in l)) x (its_number (bad_of (sets_in l)) (file_length (sets_in l)) x (length_lines l) e),
  λ l room x e. carries (bad_of (sets_in l)) x (its_number (bad_of (sets_in l)) tt x (write_lines l room) e),
)

-- a plan that may be judged: of a plan file that has it, with a set that we accept and that plan files know
pub record Judgeable (f : List ℕ) (plan : ℕ) : Type 0 where
  pub file : PlanFile f
  pub some : 1 ≤ plan
  pub has : plan ≤ plans_in f
  pub known : (set_in f (plan - 1)).profile ≤ 5
  pub accepted : Accepted (set_in f (plan - 1))

module _ (f : List ℕ) (plan : ℕ) where
  judgeable : Clear (judge_lines f plan) → Judgeable f plan
  unfolding judge_lines
  judgeable c =
      let n : ¬ (plan ≡ 0) = eqb-false plan 0 c.1.0 in
      let p = clear_first (planned_lines (set_in f (plan - 1))) c.1.1.1 in
      record {
        file = (formed_exactly f).0 (not-false (formed f) c.0);
        some = omega arith;
        has = ltb-false (plans_in f) plan c.1.1.0;
        known = planned_profile (set_in f (plan - 1)) p;
        accepted = planned_accepted (set_in f (plan - 1)) p;
      }

  judgeable_clear : Judgeable f plan → Clear (judge_lines f plan)
  unfolding judge_lines verdict_of
  judgeable_clear j = (
    rw ((formed_exactly f).1 j.file),
    (
      ne_eqb plan 0 (λ e. omega (arith, j.some)),
      (
        le-ltb (plans_in f) plan j.has,
        (
          le-ltb 5 (set_in f (plan - 1)).profile j.known,
          first_clear (set_lines (set_in f (plan - 1))) (answer_clear (refusal (set_in f (plan - 1))) tt (set_lines (set_in f (plan - 1))) j.accepted),
        ),
      ),
    ),
  )

  -- a plan is judged equal exactly if it may be judged and its list is L, at 0 to N - 1
  pub judged_equal : (judged_of f plan ≡ done same) ↔ (Judgeable f plan × (list_in f (plan - 1) ≡ list_of (set_in f (plan - 1))))
  judged_equal = (
    λ e. let h = (law.judged_equal f plan).0 e in (judgeable h.0, h.1),
    λ h. (law.judged_equal f plan).1 (judgeable_clear h.0, h.1),
  )

  -- else, where it may be judged, it is wrong, and what is said is true of its list and L: the first position is wrong, none before it is, and there are as
  -- many wrong ones as are said, for with the right ones they are all positions below the larger count
  pub judged_wrong : (first count : ℕ) → judged_of f plan ≡ done (wrong first count)
      → Judgeable f plan × Wrongly (list_in f (plan - 1)) (list_of (set_in f (plan - 1))) first count
  judged_wrong first count e = let h = law.judged_wrong f plan first count e in (judgeable h.0, h.1)

  pub judged_not_equal : Judgeable f plan → (list_in f (plan - 1) ≡ list_of (set_in f (plan - 1)) → ⊥)
      → (p : ℕ) × (c : ℕ) × (judged_of f plan ≡ done (wrong p c))
  unfolding judged_of
  judged_not_equal j n =
      let xs = list_in f (plan - 1) in
      let ys = list_of (set_in f (plan - 1)) in
      let e = clear_done (refusal (set_in f (plan - 1))) (compared xs ys) (judge_lines f plan) (judgeable_clear j) in
      go (compared xs ys) refl e
    where
      go : (c : Compared) → compared (list_in f (plan - 1)) (list_of (set_in f (plan - 1))) ≡ c → judged_of f plan ≡ done (compared (list_in f (plan - 1)) (list_of (set_in f (plan - 1))))
          → (p : ℕ) × (k : ℕ) × (judged_of f plan ≡ done (wrong p k))
      go Same q e = absurd (n ((law.judged_equal f plan).0 (e ∙ ap done q)).1)
      go (Wrong p k) q e = (p, k, e ∙ ap done q)

-- the wrong positions of two lists: those below the larger length that aren't right in both, a missing or surplus place among them
pub wrong_exactly : (xs ys : List ℕ) (p : ℕ) → Memᴰ p (wrongs xs ys) ↔ ((p < max (length xs) (length ys)) × (Right xs ys p → ⊥))
wrong_exactly xs ys p = wrong_positions xs ys p

-- what was written: a plan file with as many plans as there were sets, plan by plan the set that was given, each judged equal: its list is L of that set
pub record Written (l f : List ℕ) : Type 0 where
  pub is_file : PlanFile f
  pub is_long : length f ≡ file_length (sets_in l)
  pub has_plans : counted_of f ≡ done (length l / 3)
  pub its_sets : (plan : ℕ) → 1 ≤ plan → plan ≤ length l / 3 → set_in f (plan - 1) ≡ set_at l (plan - 1)
  pub all_equal : (plan : ℕ) → 1 ≤ plan → plan ≤ length l / 3 → judged_of f plan ≡ done same

-- writing is done exactly where a length is told, and the buffer has it
module _ (l : List ℕ) where
  measured : (room : ℕ) → written_of l room ≡ done tt → length_of l ≡ done (file_length (sets_in l))
  unfolding written_of write_lines length_of
  measured room e =
      let c = answer_clear (refusal (bad_of (sets_in l))) tt (write_lines l room) e in
      clear_done (refusal (bad_of (sets_in l))) (file_length (sets_in l)) (length_lines l) (first_clear (length_lines l) (clear_front (length_lines l) (room_lines l room) c))

  fits : (room : ℕ) → written_of l room ≡ done tt → room ≡ file_length (sets_in l)
  unfolding written_of write_lines
  fits room e =
      let c = answer_clear (refusal (bad_of (sets_in l))) tt (write_lines l room) e in
      eqb-true room (file_length (sets_in l)) (not-false (eqb room (file_length (sets_in l))) (first_clear (room_lines l room) (clear_back (length_lines l) (room_lines l room) c)).0)

  pub written_where_told : (room : ℕ) → (written_of l room ≡ done tt) ↔ (length_of l ≡ done room)
  written_where_told room = (
    λ e. measured room e ∙ ap done (sym (fits room e)),
    λ e. sym (write_done l room (sym e) refl),
  )

  -- and then the buffer holds the file: every plan of a written file is judged equal, and the file is of the form
  pub written_equal : (old : List ℕ) → written_of l (length old) ≡ done tt → Written l (buffer_of l old)
  unfolding buffer_of
  written_equal old e =
      let q = (written_where_told (length old)).0 e in
      let f = write_new l (length old) (sym q) refl (file_of (sets_in l)) old in
      subst (Written l) f (record {
        is_file = (formed_exactly (file_of (sets_in l))).0 (back.written_formed_so l q);
        is_long = back.written_long l q ∙ (length_says l (sym q)).long;
        has_plans = back.written_counted l q;
        its_sets = back.written_sets l q;
        all_equal = back.written_equal l q;
      })

-- two different lists of sets make different files
pub written_apart : (l m old new : List ℕ) → written_of l (length old) ≡ done tt → written_of m (length new) ≡ done tt
    → buffer_of l old ≡ buffer_of m new → sets_in l ≡ sets_in m
unfolding buffer_of
written_apart l m old new e u q =
    let a = (written_where_told l (length old)).0 e in
    let b = (written_where_told m (length new)).0 u in
    back.files_apart (sets_in l) (sets_in m) (back.good_sets l a) (back.good_sets m b)
    (write_new l (length old) (sym a) refl (file_of (sets_in l)) old ∙ q ∙ sym (write_new m (length new) (sym b) refl (file_of (sets_in m)) new))

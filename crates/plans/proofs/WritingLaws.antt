-- What asking for the length of a file and writing it answer. The lines stand in the order of the checks: 12 for the number of sets, the first bad set's own,
-- 12 for the size, 6 for the buffer.
use Rattle.std.specs.Prelude.{ℕ, ◌+◌, ◌*◌, ◌/◌, ◌%◌, ◌≤◌, ◌<◌, List, ◌++◌, eqb, length}
use Rattle.std.proofs.Math.Path.{◌≡◌, refl, sym, ap}
use Rattle.std.proofs.Common.{◌∙◌, arith}
use borrow.Author.Tests.{eq-eqb, ne_eqb, eqb-true, lt-ltb, le-ltb, ltb-false, not-false}
use Rattle.laws.specs.Outcome.{Outcome, done, refused, Ruling, clear, stopped, first, settle, judged, after}
use Rattle.laws.specs.Outcome.{clear_then, clear_front, clear_back, stopped_front, refused_front, done_clear, clear_first, first_clear, answer_keeps}
use Rattle.laws.specs.Run.{length_run}
use Rattle.sets.specs.declared.Refusal.{Refusal}
use Rattle.sets.specs.Verdict.{refusal}
use Rattle.plan_form.specs.Form.{entry_place}
use Rattle.plan_writer.specs.File.{set_at, sets_in, total_of, file_length, all_lines, bad_of, measured_of}
use Rattle.plan_writer.specs.Storing.{Filed}
use Rattle.plans.specs.Writing.{count_lines, size_lines, room_lines, length_lines, write_lines, length_of, written_of, Good}

-- asking for the length, return by return. 12 and 6 carry nothing of a set
module _ (l : List ℕ) where
  pub length_uneven : (length l % 3 ≡ 0 → ⊥) → refused (record { number = 12; size = 0 }) ≡ length_of l
  unfolding length_of length_lines refusal
  length_uneven n = sym (simp (ne_eqb (length l % 3) 0 n))

  module _ (e : length l % 3 ≡ 0) where
    pub length_few : length l / 3 < 1 → refused (record { number = 12; size = 0 }) ≡ length_of l
    unfolding length_of length_lines refusal
    length_few h = sym (simp (eq-eqb (length l % 3) 0 e, lt-ltb (length l / 3) 1 h))

    module _ (some : 1 ≤ length l / 3) where
      pub length_many : 16 < length l / 3 → refused (record { number = 12; size = 0 }) ≡ length_of l
      unfolding length_of length_lines refusal
      length_many h = sym (simp (eq-eqb (length l % 3) 0 e, le-ltb (length l / 3) 1 some, lt-ltb 16 (length l / 3) h))

      module _ (few : length l / 3 ≤ 16) where
        behind : first (length_lines l) ≡ first (all_lines (sets_in l) ++ size_lines l)
        unfolding length_lines
        behind =
            clear_then (count_lines l) (all_lines (sets_in l) ++ size_lines l)
            (simp (eq-eqb (length l % 3) 0 e, le-ltb (length l / 3) 1 some, le-ltb 16 (length l / 3) few))

        pub length_stops : {x : Refusal} → refused x ≡ measured_of (sets_in l) (entry_place (length l / 3)) → refused x ≡ length_of l
        unfolding length_of measured_of
        length_stops {x} q = go (first (all_lines (sets_in l))) refl q
          where
            go : (r : Ruling) → first (all_lines (sets_in l)) ≡ r
                → refused x ≡ settle {A = Outcome Refusal ℕ} r (λ k. refused (refusal (bad_of (sets_in l)) k)) (done (entry_place (length l / 3) + 2 * total_of (sets_in l)))
                → refused x ≡ judged (refusal (bad_of (sets_in l))) (length_lines l) (file_length (sets_in l))
            go clear p q = let z : ◌≡◌ {A = ℕ} 0 1 = cc in absurd (omega arith)
            go (stopped k) p q = q ∙ sym (rw (behind ∙ stopped_front (all_lines (sets_in l)) (size_lines l) k p))

        module _ {b : ℕ} (q : done b ≡ measured_of (sets_in l) (entry_place (length l / 3))) where
          all_good : (first (all_lines (sets_in l)) ≡ clear) × (b ≡ file_length (sets_in l))
          unfolding measured_of file_length
          all_good =
              let d = done_clear (refusal (bad_of (sets_in l))) (entry_place (length l / 3) + 2 * total_of (sets_in l)) (all_lines (sets_in l)) b (sym q) in
              (clear_first (all_lines (sets_in l)) d.0, sym d.1 ∙ ap (λ (k : ℕ). entry_place k + 2 * total_of (sets_in l)) (sym (length_run (set_at l) 0 (length l / 3))))

          size_decides : first (length_lines l) ≡ first (size_lines l)
          size_decides = behind ∙ clear_then (all_lines (sets_in l)) (size_lines l) all_good.0

          pub length_large : 65536 < b → refused (record { number = 12; size = 0 }) ≡ length_of l
          unfolding length_of refusal
          length_large h = sym (rw (size_decides, lt-ltb 65536 (file_length (sets_in l)) (rw all_good.1 at h)))

          pub length_good : b ≤ 65536 → done b ≡ length_of l
          unfolding length_of
          length_good h = ap done all_good.1 ∙ sym (rw (size_decides, le-ltb 65536 (file_length (sets_in l)) (rw all_good.1 at h)))

pub length_says : (l : List ℕ) {b : ℕ} → done b ≡ length_of l → Good l b
unfolding length_of length_lines
length_says l {b} q =
    let d = done_clear (refusal (bad_of (sets_in l))) (file_length (sets_in l)) (length_lines l) b (sym q) in
    let c = clear_first (length_lines l) d.0 in
    let counts = first_clear (count_lines l) (clear_front (count_lines l) (all_lines (sets_in l) ++ size_lines l) c) in
    let back = clear_back (count_lines l) (all_lines (sets_in l) ++ size_lines l) c in
    let size = first_clear (size_lines l) (clear_back (all_lines (sets_in l)) (size_lines l) back) in
    record {
      whole = eqb-true (length l % 3) 0 (not-false (eqb (length l % 3) 0) counts.0);
      some = ltb-false (length l / 3) 1 counts.1.0;
      few = ltb-false 16 (length l / 3) counts.1.1.0;
      good = clear_front (all_lines (sets_in l)) (size_lines l) back;
      long = sym d.1;
      small = rw (← d.1) (ltb-false 65536 (file_length (sets_in l)) size.0);
    }

-- writing, return by return
module _ (l : List ℕ) (room : ℕ) where
  pub write_stops : {x : Refusal} → refused x ≡ length_of l → refused x ≡ written_of l room
  unfolding length_of written_of write_lines
  write_stops {x} q = sym (refused_front (refusal (bad_of (sets_in l))) (file_length (sets_in l)) (length_lines l) (room_lines l room) (sym q) tt)

  pub write_keeps : {x : Refusal} → refused x ≡ written_of l room → (new old : List ℕ) → old ≡ after (write_lines l room) new old
  unfolding written_of
  write_keeps q new old = sym (answer_keeps (refusal (bad_of (sets_in l))) tt (write_lines l room) (sym q) new old)

  module _ {b : ℕ} (q : done b ≡ length_of l) where
    decides : first (write_lines l room) ≡ first (room_lines l room)
    unfolding write_lines length_of
    decides = clear_then (length_lines l) (room_lines l room) (clear_first (length_lines l) (done_clear (refusal (bad_of (sets_in l))) (file_length (sets_in l)) (length_lines l) b (sym q)).0)

    pub write_six : (room ≡ b → ⊥) → refused (record { number = 6; size = 0 }) ≡ written_of l room
    unfolding written_of refusal
    write_six n = sym (rw (decides, ne_eqb room (file_length (sets_in l)) (λ e. n (e ∙ sym (length_says l q).long))))

    module _ (e : room ≡ b) where
      all_clear : first (write_lines l room) ≡ clear
      all_clear = decides ∙ rw (eq-eqb room (file_length (sets_in l)) (e ∙ (length_says l q).long))

      pub write_done : done tt ≡ written_of l room
      unfolding written_of
      write_done = sym (rw all_clear)

      pub write_new : (new old : List ℕ) → new ≡ after (write_lines l room) new old
      write_new new old = sym (rw all_clear)

      pub write_filed : Filed l (length l / 3) room
      unfolding file_length
      write_filed =
          let g = length_says l q in
          record {
            few = g.few;
            there = omega arith;
            good = g.good;
            fits = ap (λ (k : ℕ). entry_place k + 2 * total_of (sets_in l)) (sym (length_run (set_at l) 0 (length l / 3))) ∙ sym (e ∙ g.long);
            small = omega (arith, g.small);
          }

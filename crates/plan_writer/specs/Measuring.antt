-- The loop that tests sets: those before the next are good, and what is left of the test from here is the whole of it.
use Rattle.std.specs.Prelude.{ℕ, suc, ◌+◌, ◌*◌, ◌-◌, ◌≤◌, ◌<◌, List, [], ◌∷◌, ◌≡◌}
use Rattle.std.proofs.Math.Path.{sym, ap}
use Rattle.std.proofs.Common.{◌∙◌, add-one}
use Rattle.std.proofs.Math.Nat.{sub-zero}
use native.Mathlib.Omega.{arith}
use Rattle.laws.specs.Outcome.{done, refused, clear, stopped, first, judged, clear_then, stopped_front}
use Rattle.laws.specs.Run.{run}
use Rattle.sets.specs.declared.Set.{Set}
use Rattle.sets.specs.declared.Refusal.{Refusal}
use Rattle.sets.specs.Verdict.{refusal}
use Rattle.plan_form.specs.Form.{entry_place}
use Rattle.plan_form.specs.Planned.{planned_lines}
use Rattle.plan_writer.specs.File.{total_of, all_lines, bad_of, measured_of}

measure_none : (bytes : ℕ) → done bytes ≡ measured_of [] bytes
unfolding measured_of
measure_none bytes = ap done (let e : bytes ≡ bytes + 2 * 0 = omega arith in e)

module _ (s : Set) (ss : List Set) (bytes : ℕ) where
  measure_next : first (planned_lines s) ≡ clear → measured_of ss (bytes + 2 * s.n) ≡ measured_of (s ∷ ss) bytes
  unfolding measured_of bad_of
  measure_next e =
      ap (λ (b : ℕ). judged (refusal (bad_of ss)) (all_lines ss) b)
      (let q : bytes + 2 * s.n + 2 * total_of ss ≡ bytes + 2 * (s.n + total_of ss) = omega arith in q)
      ∙ sym (rw (clear_then (planned_lines s) (all_lines ss) e, e))

  measure_stops : {k : ℕ} → first (planned_lines s) ≡ stopped k → refused (refusal s k) ≡ measured_of (s ∷ ss) bytes
  unfolding measured_of bad_of
  measure_stops {k} e = sym (rw (stopped_front (planned_lines s) (all_lines ss) k e, e))

-- one set, and those behind it
pub one_left : (f : ℕ → Set) (count i : ℕ) → i < count → {s : Set} → s ≡ f i → run f i (count - i) ≡ s ∷ run f (i + 1) (count - (i + 1))
one_left f count i h {s} q = rw (let e : count - i ≡ suc (count - (i + 1)) = omega arith in e, add-one i, q)

pub record Measuring (f : ℕ → Set) (count bytes i : ℕ) : Type 0 where
  pub here : i ≤ count
  -- (324 is the longest header, 8,589,934,590 twice the largest number of 32 bits)
  pub small : bytes ≤ 324 + 8589934590 * i
  pub same : measured_of (run f i (count - i)) bytes ≡ measured_of (run f 0 count) (entry_place count)

pub measuring_first : (f : ℕ → Set) (count : ℕ) → count ≤ 16 → Measuring f count (entry_place count) 0
measuring_first f count h = record { here = omega arith; small = omega arith; same = rw sub-zero }

module _ {f : ℕ → Set} {count bytes i : ℕ} (t : Measuring f count bytes i) where
  pub measuring_end : count ≤ i → done bytes ≡ measured_of (run f 0 count) (entry_place count)
  measuring_end h = measure_none bytes ∙ sym (rw (let e : count - i ≡ 0 = omega arith in e)) ∙ t.same

  module _ (h : i < count) {s : Set} (q : s ≡ f i) where
    abbrev rest : List Set
    rest = run f (i + 1) (count - (i + 1))

    from_here : measured_of (s ∷ rest) bytes ≡ measured_of (run f 0 count) (entry_place count)
    from_here = sym (ap (λ (l : List Set). measured_of l bytes) (one_left f count i h q)) ∙ t.same

    pub measuring_stops : {k : ℕ} → first (planned_lines s) ≡ stopped k → {x : Refusal} → x ≡ refusal s k
        → refused x ≡ measured_of (run f 0 count) (entry_place count)
    measuring_stops e r = ap refused r ∙ measure_stops s rest bytes e ∙ from_here

    pub measuring_more : first (planned_lines s) ≡ clear → s.n < 4294967296 → Measuring f count (bytes + 2 * s.n) (i + 1)
    measuring_more e l = record {
      here = omega arith;
      small = omega (arith, t.small);
      same = measure_next s rest bytes e ∙ from_here;
    }

-- Storing the headers and the lists of a file, set by set: what is still to be stored, stored from here, makes the whole.
use Rattle.std.specs.Prelude.{ℕ, ◌+◌, ◌*◌, ◌-◌, ◌≤◌, ◌<◌, ◌≡◌, refl}
use mathlib.Core.List.{List, ◌++◌}
use Rattle.std.proofs.Math.Path.{sym, ap}
use Rattle.std.proofs.Common.{◌∙◌}
use Rattle.std.proofs.Math.Nat.{sub-zero}
use native.Mathlib.Omega.{arith}
use Rattle.std.proofs.Math.ListN.{length}
use Rattle.std.proofs.Math.Seq.{sets, length-sets}
use Rattle.laws.specs.Outcome.{clear, first, clear_front, clear_back}
use Rattle.laws.specs.Run.{run}
use Rattle.big_end.specs.Numbers.{number_bytes}
use Rattle.big_end.specs.Stores.{sets_then}
use Rattle.sets.specs.declared.Set.{Set}
use Rattle.sets.specs.Admits.{Accepted}
use Rattle.pieces.specs.Pieces.{list_of}
use Rattle.plan_form.specs.Form.{entry_place}
use Rattle.plan_form.specs.Planned.{planned_lines, planned_accepted}
use Rattle.plan_writer.specs.File.{set_at, entry_bytes, entries_bytes, list_bytes, lists_bytes, total_of, all_lines}
use Rattle.plan_writer.specs.Measuring.{one_left}
use Rattle.plan_writer.specs.Lengths.{entry_length, listed_length}

-- the five numbers of a plan
pub entry-put : (o₀ : List ℕ) {o₁ o₂ o₃ o₄ o₅ : List ℕ} (at : ℕ) (s : Set) (offset : ℕ)
    → o₁ ≡ sets o₀ at (number_bytes s.profile) → o₂ ≡ sets o₁ (at + 4) (number_bytes s.bits) → o₃ ≡ sets o₂ (at + 8) (number_bytes s.n)
    → o₄ ≡ sets o₃ (at + 12) (number_bytes offset) → o₅ ≡ sets o₄ (at + 16) (number_bytes s.n) → o₅ ≡ sets o₀ at (entry_bytes s offset)
unfolding entry_bytes
entry-put o₀ {o₁} {o₂} {o₃} {o₄} {o₅} at s offset p q r t u =
    let w₄ = number_bytes s.n in
    let w₃ = number_bytes offset ++ w₄ in
    let w₂ = number_bytes s.n ++ w₃ in
    let w₁ = number_bytes s.bits ++ w₂ in
    sym (sets_then o₀ at (at + 4) (number_bytes s.profile) w₁ p refl
    ∙ sets_then o₁ (at + 4) (at + 8) (number_bytes s.bits) w₂ q (let e : at + 4 + 4 ≡ at + 8 = omega arith in e)
    ∙ sets_then o₂ (at + 8) (at + 12) (number_bytes s.n) w₃ r (let e : at + 8 + 4 ≡ at + 12 = omega arith in e)
    ∙ sets_then o₃ (at + 12) (at + 16) (number_bytes offset) w₄ t (let e : at + 12 + 4 ≡ at + 16 = omega arith in e)
    ∙ sym u)

-- what writing the file asks: so many sets, all good, and a buffer of the file's length
pub record Filed (numbers : List ℕ) (count room : ℕ) : Type 0 where
  pub few : count ≤ 16
  pub there : 3 * count ≤ length numbers
  pub good : first (all_lines (run (set_at numbers) 0 count)) ≡ clear
  pub fits : entry_place count + 2 * total_of (run (set_at numbers) 0 count) ≡ room
  pub small : room ≤ 65536

-- the sets from i on, whose lists begin at `at`
pub record Left (f : ℕ → Set) (count room at i : ℕ) : Type 0 where
  pub here : i ≤ count
  pub good : first (all_lines (run f i (count - i))) ≡ clear
  pub fits : at + 2 * total_of (run f i (count - i)) ≡ room

pub left_first : {numbers : List ℕ} {count room : ℕ} → Filed numbers count room → Left (set_at numbers) count room (entry_place count) 0
left_first z = record { here = omega arith; good = rw sub-zero z.good; fits = rw sub-zero z.fits }

module _ {f : ℕ → Set} {count room at i : ℕ} (l : Left f count room at i) (h : i < count) {s : Set} (q : s ≡ f i) where
  good_now : first (planned_lines s ++ all_lines (run f (i + 1) (count - (i + 1)))) ≡ clear
  good_now = sym (ap (λ (ss : List Set). first (all_lines ss)) (one_left f count i h q)) ∙ l.good

  pub next_good : Accepted s
  next_good = planned_accepted s (clear_front (planned_lines s) (all_lines (run f (i + 1) (count - (i + 1)))) good_now)

  fits_now : at + 2 * (s.n + total_of (run f (i + 1) (count - (i + 1)))) ≡ room
  fits_now = ap (λ (ss : List Set). at + 2 * total_of ss) (sym (one_left f count i h q)) ∙ l.fits

  pub next_fits : at + 2 * s.n ≤ room
  next_fits = omega (arith, fits_now)

  pub left_more : Left f count room (at + 2 * s.n) (i + 1)
  left_more = record {
    here = omega arith;
    good = clear_back (planned_lines s) (all_lines (run f (i + 1) (count - (i + 1)))) good_now;
    fits = omega (arith, fits_now);
  }

-- the loop over the headers, and the loop over the lists: i are stored, and the next list begins at `at`
pub record Entering (f : ℕ → Set) (count : ℕ) (out₀ out : List ℕ) (at i : ℕ) : Type 0 where
  pub rest : Left f count (length out₀) at i
  pub size : length out ≡ length out₀
  pub same : sets out (entry_place i) (entries_bytes (run f i (count - i)) at) ≡ sets out₀ 4 (entries_bytes (run f 0 count) (entry_place count))

pub record Enlisting (f : ℕ → Set) (count : ℕ) (out₀ out : List ℕ) (at i : ℕ) : Type 0 where
  pub rest : Left f count (length out₀) at i
  pub size : length out ≡ length out₀
  pub same : sets out at (lists_bytes (run f i (count - i))) ≡ sets out₀ (entry_place count) (lists_bytes (run f 0 count))

module _ {numbers : List ℕ} {count : ℕ} (out₀ : List ℕ) (z : Filed numbers count (length out₀)) where
  pub enter_first : Entering (set_at numbers) count out₀ out₀ (entry_place count) 0
  enter_first = record { rest = left_first z; size = refl; same = rw sub-zero }

  pub enlist_first : Enlisting (set_at numbers) count out₀ out₀ (entry_place count) 0
  enlist_first = record { rest = left_first z; size = refl; same = rw sub-zero }

module _ {f : ℕ → Set} {count : ℕ} {out₀ out : List ℕ} {at i : ℕ} (p : Entering f count out₀ out at i) where
  pub enter_end : count ≤ i → out ≡ sets out₀ 4 (entries_bytes (run f 0 count) (entry_place count))
  unfolding entries_bytes
  enter_end h = sym (rw (let e : count - i ≡ 0 = omega arith in e)) ∙ p.same

  pub enter_more : i < count → {s : Set} → s ≡ f i → {out' : List ℕ} → out' ≡ sets out (entry_place i) (entry_bytes s at)
      → Entering f count out₀ out' (at + 2 * s.n) (i + 1)
  unfolding entries_bytes
  enter_more h {s} q {out'} e = record {
    rest = left_more p.rest h q;
    size = ap length e ∙ length-sets out (entry_place i) (entry_bytes s at) ∙ p.size;
    same =
        sym (sets_then out (entry_place i) (entry_place (i + 1)) (entry_bytes s at) (entries_bytes (run f (i + 1) (count - (i + 1))) (at + 2 * s.n)) e
        (omega (arith, entry_length s at)))
        ∙ ap (λ (ss : List Set). sets out (entry_place i) (entries_bytes ss at)) (sym (one_left f count i h q))
        ∙ p.same;
  }

module _ {f : ℕ → Set} {count : ℕ} {out₀ out : List ℕ} {at i : ℕ} (p : Enlisting f count out₀ out at i) where
  pub enlist_end : count ≤ i → out ≡ sets out₀ (entry_place count) (lists_bytes (run f 0 count))
  unfolding lists_bytes
  enlist_end h = sym (rw (let e : count - i ≡ 0 = omega arith in e)) ∙ p.same

  pub enlist_more : i < count → {s : Set} → s ≡ f i → {out' : List ℕ} → out' ≡ sets out at (list_bytes (list_of s))
      → Enlisting f count out₀ out' (at + 2 * s.n) (i + 1)
  unfolding lists_bytes
  enlist_more h {s} q {out'} e = record {
    rest = left_more p.rest h q;
    size = ap length e ∙ length-sets out at (list_bytes (list_of s)) ∙ p.size;
    same =
        sym (sets_then out at (at + 2 * s.n) (list_bytes (list_of s)) (lists_bytes (run f (i + 1) (count - (i + 1)))) e (omega (arith, listed_length s)))
        ∙ ap (λ (ss : List Set). sets out at (lists_bytes ss)) (sym (one_left f count i h q))
        ∙ p.same;
  }

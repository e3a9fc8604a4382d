-- Exactly the sets of a listed size and stream, with what they must have beside them, are accepted: no line of the test applies to a size if and
-- only if it stands in the table that is counted out (specs/Profiles.antt of profiles), since exactly those sizes pass their tests (specs/Admits.antt of sizes).
use Rattle.std.specs.Prelude.{◌≡◌, true, ◌↔◌}
use Rattle.std.proofs.Common.{sym}
use mathlib.Core.List.{List, ◌++◌, Memᴰ}
use Rattle.std.proofs.lemmas.Bool.{not-false}
use Rattle.laws.specs.Outcome.{done, refused, Line, clear, first, judged, refused_front, Clear, done_clear, clear_done, done_front, first_clear, clear_front}
use Rattle.laws.specs.Told.{told_clear, clear_join, clear_parts}
use Rattle.sets.specs.declared.Set.{Set}
use Rattle.sets.specs.declared.Refusal.{Refusal}
use Rattle.sizes.specs.declared.Size.{Size}
use Rattle.sets.specs.Set.{size_of}
use Rattle.sizes.specs.Tests.{listed_sizes}
use Rattle.sizes.specs.Admits.{listed_passing, passing_listed}
use Rattle.sets.specs.Stream.{stream_listed, stream_lines}
use Rattle.sets.specs.Beside.{factors_in, factors_apart, beside_lines, beside_told}
use Rattle.sets.specs.Verdict.{size_lines, set_lines, refusal, verdict_of}
use Rattle.sets.specs.Admits.{Accepted, Cleared, Passed}

-- then none of its lines applies, and what stands behind them decides ..
pub accepted_front : (s : Set) (more : List Line) → Accepted s → first (set_lines s ++ more) ≡ first more
unfolding verdict_of
accepted_front s more e = done_front (refusal s) tt tt (set_lines s) more e

-- .. where it is refused, so is the call ..
pub set_refused : (s : Set) (more : List Line) {x : Refusal} {A : Type 0} (a : A) → verdict_of s ≡ refused x → refused x ≡ judged (refusal s) (set_lines s ++ more) a
unfolding verdict_of
set_refused s more a e = sym (refused_front (refusal s) tt (set_lines s) more e a)

-- .. and where no line of a call applies, its set is accepted
pub front_accepted : (s : Set) (more : List Line) → first (set_lines s ++ more) ≡ clear → Accepted s
unfolding verdict_of
front_accepted s more e = clear_done (refusal s) tt (set_lines s) (first_clear (set_lines s) (clear_front (set_lines s) more e))

-- no line of its size applies to it
pub listed_clear : (z : Size) → Memᴰ z listed_sizes → Clear (size_lines z)
listed_clear z m = let p = listed_passing z m in (rw p.profile_passes, (rw p.bits_pass, (rw p.size_passes, tt)))

pub clear_listed : (z : Size) → Clear (size_lines z) → Memᴰ z listed_sizes
clear_listed z c = passing_listed z (not-false _ c.0) (not-false _ c.1.0) (not-false _ c.1.1.0)

accepted_clear : (s : Set) → verdict_of s ≡ done tt → Cleared s
unfolding verdict_of set_lines
accepted_clear s e =
    let c = clear_parts (size_lines (size_of s)) (stream_lines s ++ beside_lines s) (done_clear (refusal s) tt (set_lines s) tt e).0 in
    let d = clear_parts (stream_lines s) (beside_lines s) c.1 in
    record { of_size = c.0; of_stream = d.0; beside = d.1 }

clear_accepted : (s : Set) → Cleared s → verdict_of s ≡ done tt
unfolding verdict_of set_lines
clear_accepted s c =
    clear_done (refusal s) tt (set_lines s)
    (clear_join (size_lines (size_of s)) (stream_lines s ++ beside_lines s) c.of_size (clear_join (stream_lines s) (beside_lines s) c.of_stream c.beside))

pub accepted_listed : (s : Set) → verdict_of s ≡ done tt → Memᴰ (size_of s) listed_sizes
accepted_listed s e = clear_listed (size_of s) (accepted_clear s e).of_size

-- and its stream passes
pub accepted_stream : (s : Set) → verdict_of s ≡ done tt → stream_listed s ≡ true
accepted_stream s e = not-false _ (accepted_clear s e).of_stream.0

-- and its factors
pub accepted_factors : (s : Set) → verdict_of s ≡ done tt → (factors_in s ≡ true) × (factors_apart s ≡ true)
accepted_factors s e = let c = (accepted_clear s e).beside in (not-false _ c.0, not-false _ c.1.0)

pub passed_accepted : (s : Set) → Passed s ↔ (verdict_of s ≡ done tt)
passed_accepted s = (
  λ p. clear_accepted s (record {
    of_size = listed_clear (size_of s) p.size_listed_lem;
    of_stream = (rw p.stream_passes, tt);
    beside = (told_clear (beside_told s) p.size_listed_lem).1 p.beside_none;
  }),
  λ e. record {
    size_listed_lem = accepted_listed s e;
    stream_passes = accepted_stream s e;
    beside_none = (told_clear (beside_told s) (accepted_listed s e)).0 (accepted_clear s e).beside;
  },
)

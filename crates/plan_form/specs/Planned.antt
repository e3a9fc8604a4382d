-- The sets that a plan file may have: 1 for a profile that isn't 1 to 5, then what the set gets by itself.
use Rattle.std.specs.Prelude.{◌≤◌, ◌<◌, List, ◌∷◌, ◌≡◌, ltb}
use Rattle.std.proofs.Common.{sym, lt-ltb, le-ltb, ltb-false}
use Rattle.laws.specs.Outcome.{Line, line, clear, stopped, first, first_clear, clear_first}
use Rattle.sets.specs.declared.Set.{Set}
use Rattle.sets.specs.Verdict.{set_lines, ruling_of, clear_accepts}
use Rattle.sets.specs.Admits.{Accepted}

-- 1: plan files know profiles up to 5 only. Then 1, 2 and 3 as every set has them (16, 11 and 10 don't apply: the stream is 1, and no such profile reads
-- factors)
abbrev pub planned_lines : Set → List Line
planned_lines s = line 1 (ltb 5 s.profile) ∷ set_lines s

module _ (s : Set) where
  pub ruled_past : 5 < s.profile → stopped 1 ≡ first (planned_lines s)
  ruled_past h = sym (simp (lt-ltb 5 s.profile h))

  pub ruled_set : s.profile ≤ 5 → ruling_of s ≡ first (planned_lines s)
  ruled_set h = sym (simp (le-ltb 5 s.profile h))

  -- where no line applies the set is accepted, and its profile is one of the five
  module _ (e : first (planned_lines s) ≡ clear) where
    pub planned_profile : s.profile ≤ 5
    planned_profile = ltb-false 5 s.profile (first_clear (planned_lines s) e).0

    pub planned_accepted : Accepted s
    planned_accepted = clear_accepts s (clear_first (set_lines s) (first_clear (planned_lines s) e).1)

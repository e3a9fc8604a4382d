-- Repeated receptions of a block, added up: the lines of the two calls in the order of change request 2, without 8, by request 7, and with 1 for profile 9, by
-- request 12, what they have to say, and what is stored after a call.
use Rattle.std.specs.Prelude.{ℕ, Bool, cond, not, ◌&&◌, List, [], ◌∷◌, ◌++◌, ◌≡◌, refl, eqb, leb, Float, length}
use Rattle.laws.specs.Outcome.{Outcome, done, refused, apart, Line, line, judged, after}
use Rattle.sets.specs.declared.Set.{Set}
use Rattle.sets.specs.declared.Refusal.{Refusal}
use Rattle.sets.specs.Set.{family_of, is_coupled}
use Rattle.sets.specs.Verdict.{set_lines, refusal}
use Rattle.families.specs.Rules.{L}
use Rattle.positions.specs.declared.Running.{Running}
use Rattle.positions.specs.Heard.{Reception, Kept, held}
use Rattle.adders.specs.Lines.{value_lines}
use Rattle.adders.specs.Adding.{sums_by, counts_by}
use Rattle.combine.specs.declared.Reading.{Reading}
use Rattle.combine.specs.declared.Reading.TheVariants.{Soft, Blank, Refused}

-- two lists have n entries each
abbrev pub both_long : {A B : Type 0} → ℕ → List A → List B → Bool
both_long n xs ys = eqb (length xs) n && eqb (length ys) n

-- what is asked of what is lent to add a block: 5 the block or its presence bytes aren't N; 6 the sums or the counts aren't; then 14, 13, 15
abbrev pub lent_lines : Set → Reception → Kept → List Line
lent_lines s b h =
    line 5 (not (both_long s.n b.received b.present)) ∷ line 6 (not (both_long s.n h.sums h.counts)) ∷ value_lines (L s) s.n b h

-- 1, also: the set is of couples, whose receptions are not added up
abbrev pub coupled_line : Set → Line
coupled_line s = line 1 (is_coupled (family_of s))

-- the answer of that test alone
abbrev pub plain_of : Set → Outcome Refusal (Unit {0})
plain_of s = judged (refusal s) (coupled_line s ∷ []) tt

-- adding a block: 1 of couples, then 1, 2, 3, 16, 11, 10, and these
unfoldable pub add_lines : Set → Reception → Kept → List Line
add_lines s b h = coupled_line s ∷ (set_lines s ++ lent_lines s b h)

-- what adding a block has to say
unfoldable pub added_of : Set → Reception → Kept → Outcome Refusal (Unit {0})
added_of s b h = judged (refusal s) (add_lines s b h) tt

-- the sums and the counts after the call: value t goes to input index L(t), and what it makes of that position is stored there (`sums_by`, `counts_by`); where
-- a line applies, what was stored
unfoldable pub sums_of : Set → Reception → Kept → List Float
sums_of s b h = after (add_lines s b h) (sums_by (L s) s.n b h) h.sums

unfoldable pub counts_of : Set → Reception → Kept → List ℕ
counts_of s b h = after (add_lines s b h) (counts_by (L s) s.n b h) h.counts

-- what stands at a position
pub data Standing : Type 0 where
  soft : Running → Standing
  blank : Standing

-- a blank exactly where the count is 0
abbrev pub told_of : Running → Standing
told_of r = cond (eqb r.count 0) blank (soft r)

-- reading position k: 1 of couples, then 1, 2, 3, 16, 11, 10, 4 a position that is N or more, 6 the sums or the counts aren't N
unfoldable pub read_lines : Set → Kept → ℕ → List Line
read_lines s h k = coupled_line s ∷ (set_lines s ++ (line 4 (leb s.n k) ∷ line 6 (not (both_long s.n h.sums h.counts)) ∷ []))

unfoldable pub read_of : Set → Kept → ℕ → Outcome Refusal Standing
read_of s h k = judged (refusal s) (read_lines s h k) (told_of (held h k))

-- what the answer of a reading says
abbrev pub say_reading : Reading → Outcome Refusal Standing
say_reading (Soft r) = done (soft r)
say_reading Blank = done blank
say_reading (Refused x) = refused x

-- two answers that say the same are the same
pub readings_apart : (a b : Reading) → say_reading a ≡ say_reading b → a ≡ b
readings_apart = apart say_reading read same
  where
    read : Outcome Refusal Standing → Reading
    read (done (soft r)) = Soft r
    read (done blank) = Blank
    read (refused x) = Refused x

    same : (a : Reading) → read (say_reading a) ≡ a
    same (Soft r) = refl
    same Blank = refl
    same (Refused x) = refl

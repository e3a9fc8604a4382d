-- The test of a set: refusals 1, 2 and 3 of document 01, which are of its size, 16, which is of its stream (specs/Stream.antt), and then 11 and 10,
-- which are of its factors (specs/Beside.antt).
use Rattle.std.specs.Prelude.{ℕ, not, cond, List, [], ◌∷◌, ◌++◌, ◌≡◌, refl, eqb, Result, Ok, Err}
use Rattle.laws.specs.Outcome.{Outcome, done, refused, apart, Line, line, Ruling, clear, stopped, first, judged}
use Rattle.sets.specs.declared.Set.{Set}
use Rattle.sets.specs.declared.Refusal.{Refusal}
use Rattle.sizes.specs.declared.Size.{Size}
use Rattle.sets.specs.Set.{size_of}
use Rattle.sizes.specs.Tests.{profile_listed, bits_listed, size_listed}
use Rattle.fitting.specs.Fitting.{fitting}
use Rattle.sets.specs.Stream.{stream_lines}
use Rattle.sets.specs.Beside.{beside_lines}

-- 1: the profile isn't 1 to 9. 2: the bits aren't listed for the profile. 3: N isn't listed for that profile and those bits
abbrev pub size_lines : Size → List Line
size_lines z =
    line 1 (not (profile_listed z))
    ∷ line 2 (not (bits_listed z))
    ∷ line 3 (not (size_listed z))
    ∷ []

unfoldable pub set_lines : Set → List Line
set_lines s = size_lines (size_of s) ++ (stream_lines s ++ beside_lines s)

-- what a refusal of a set carries: its number, and with 3 the size that would have fitted, with every other number 0
unfoldable pub refusal : Set → ℕ → Refusal
refusal s k = record { number = k; size = cond (eqb k 3) (fitting (size_of s)) 0 }

-- which line of the test applies first, as the code has it, and what that says
abbrev pub Ruled : Type 0
Ruled = Result (Unit {0}) ℕ

abbrev pub say_ruled : Ruled → Ruling
say_ruled (Ok u) = clear
say_ruled (Err k) = stopped k

-- which line of the test applies first
abbrev pub ruling_of : Set → Ruling
ruling_of s = first (set_lines s)

-- what the test of a set has to say
unfoldable pub verdict_of : Set → Outcome Refusal (Unit {0})
verdict_of s = judged (refusal s) (set_lines s) tt

-- the size that a call's refusal carries; 0 where it is done
abbrev pub fitting_of : {A : Type 0} → Outcome Refusal A → ℕ
fitting_of (done a) = 0
fitting_of (refused x) = x.size

-- which line applies first says all: where none does the set is accepted, else it is refused with that one's number
pub clear_accepts : (s : Set) → ruling_of s ≡ clear → verdict_of s ≡ done tt
unfolding verdict_of
clear_accepts s e = rw e refl

pub stopped_refuses : (s : Set) {k : ℕ} → ruling_of s ≡ stopped k → verdict_of s ≡ refused (refusal s k)
unfolding verdict_of
stopped_refuses s e = rw e refl

-- a refusal's number is the one it was made of
pub refusal_number : (s : Set) (k : ℕ) → (refusal s k).number ≡ k
unfolding refusal
refusal_number s k = refl

-- two answers that say the same are the same
pub rulings_apart : (a b : Ruled) → say_ruled a ≡ say_ruled b → a ≡ b
rulings_apart = apart say_ruled read same
  where
    read : Ruling → Ruled
    read clear = Ok tt
    read (stopped k) = Err k

    same : (a : Ruled) → read (say_ruled a) ≡ a
    same (Ok u) = refl
    same (Err k) = refl

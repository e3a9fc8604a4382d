-- Text that is put behind what waits: Gathered's facts, over the whole text.
use Rattle.std.specs.Prelude.{ℕ, List}
use Rattle.words.specs.declared.text.Text.{Text}
use Rattle.words.specs.Gathered.{Put, PutNumber}

-- s is put
abbrev pub Puts : Text → List ℕ → Text → Type 0
Puts before s after = Put before.room before.at s after.room after.at

-- a number is put, in as few digits as hold it
abbrev pub PutsNumber : Text → ℕ → Text → Type 0
PutsNumber before n after = PutNumber before.room before.at n after.room after.at

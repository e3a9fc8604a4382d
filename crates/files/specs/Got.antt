-- What was read of a file: no more than there was room for.
use Rattle.std.specs.Prelude.{ℕ, ◌≤◌, Result, IfOk}
use Rattle.files.specs.declared.FileError.{FileError}

abbrev pub Within : Result ℕ FileError → ℕ → Type 0
Within r room = IfOk r (λ k. k ≤ room)

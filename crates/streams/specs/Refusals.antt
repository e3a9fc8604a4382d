-- The refusals of start and feed in the sentences of the paper, in the order of the checks: 9 and 7 of a start; 9, 7, 9 and 6 of a feed.
-- Here stand the definitions; what is said of them is proved in proofs/Refusals.antt.
use Rattle.std.specs.Prelude.{ℕ, ◌⊎◌, ◌≡◌}

-- kinds are 1 and 2
abbrev pub Known : ℕ → Type 0
Known k = (k ≡ 1) ⊎ (k ≡ 2)

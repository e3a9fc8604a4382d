-- A wrong build, stated as a definition: one that clears the rest of the slice; and where it differs. Both sides are computed.
use Rattle.std.specs.Prelude.{ℕ, ◌-◌, List, [], ◌∷◌, ◌++◌, ◌≡◌, refl, length, replicate}
use Rattle.laws.specs.Keep.{wrote}
use Rattle.laws.specs.declared.Way.{Way}
use Rattle.laws.specs.declared.Way.TheVariants.{Interleaver}
use Rattle.laws.specs.Walk as along
use Rattle.sets.specs.Set.{family_of, numbers_of, group_of, no_factors}
use Rattle.profiles.specs.Profiles.{entry_by}
use Rattle.carrier.specs.Formula.{back_step, last_step, carrier_l}
use Rattle.walks.specs.declared.Walk.{Walk}
use Rattle.families.specs.Rules.{rule_of}
use Rattle.walks.specs.Answer.{walk_list, walk_slice}

-- the slice of a walk that clears what it does not write
unfoldable pub cleared_slice : Way → Walk → List ℕ → List ℕ
cleared_slice way w old = walk_list way w (length old) ++ replicate (length old - length (walk_list way w (length old))) 0

-- IEEE 802.11a, bits 1, N 48, at the last cell but one
abbrev pub last_two : Walk
last_two = record { set = record { profile = 3; bits = 1; n = 48; stream = 1; factors = no_factors }; cell = 46 }

-- a slice of four 7s: two addresses, and then the 7s that stood there
pub rest_kept : walk_slice Interleaver last_two (7 ∷ 7 ∷ 7 ∷ 7 ∷ []) ≡ 31 ∷ 47 ∷ 7 ∷ 7 ∷ []
unfolding along.walk_slice along.walk_list rule_of family_of entry_by numbers_of group_of wrote carrier_l last_step back_step
rest_kept = refl

pub rest_cleared : cleared_slice Interleaver last_two (7 ∷ 7 ∷ 7 ∷ 7 ∷ []) ≡ 31 ∷ 47 ∷ 0 ∷ 0 ∷ []
unfolding cleared_slice along.walk_list rule_of family_of entry_by numbers_of group_of wrote carrier_l last_step back_step
rest_cleared = refl

-- `figures::values::is_blank`: the patterns above the infinity's.
use lib.Ieee.{binary32}
use lib.Ieee.Bits.{nan_bits_above}
use mathlib.Core.Path.{sym}
use Rattle.figures.proofs.values.is_blank.Goals as goal

pub returns : goal.returns
returns c = sym (nan_bits_above binary32 _)

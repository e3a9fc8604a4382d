-- `quadratic::sixteenth` is the 16th power modulo k.
use Rattle.quadratic.specs.Test.{sixteenth_is}
use Rattle.quadratic.proofs.sixteenth.Goals as goal

pub returns : goal.returns
returns c =
    sixteenth_is c.args.k c.args.f _ _ _ _ c.requires.2 c.square-second.ensures.0 c.square-fourth.ensures.0
    c.square-eighth.ensures.0 c.square.ensures.0

-- `walks::walk_m` is the call of its way.
use Rattle.walks.proofs.walk_m.Goals as goal

pub returns : goal.returns
returns c = record { answer = c.walk_by.ensures.answer; slice = c.walk_by.ensures.slice }

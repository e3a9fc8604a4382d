-- The definition's own product, by the kind's numbers, which are small.
use Rattle.channel.specs.Nearest.{delay_low, delay_is}
use Rattle.channel.proofs.delay.Goals as goal

pub returns : goal.returns
returns c = (delay_is c.of-z.ensures c.args.a, delay_low c.of-z.ensures c.args.a)

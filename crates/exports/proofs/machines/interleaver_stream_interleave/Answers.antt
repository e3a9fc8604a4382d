-- `exports::machines::interleaver_stream_interleave` is the call of its way.
use Rattle.exports.proofs.machines.interleaver_stream_interleave.Goals as goal

pub returns : goal.returns
returns c = record { number = c.feed.ensures.number; stream = c.feed.ensures.stream; store = c.feed.ensures.store; output = c.feed.ensures.output }

-- The feed of the deinterleaver.
use Rattle.streams.proofs.deinterleave.Goals as goal

pub returns : goal.returns
returns c = let e = c.feed.ensures in record { answer = e.answer; stream = e.stream; store = e.store; output = e.output }

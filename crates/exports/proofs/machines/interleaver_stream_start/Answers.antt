-- `exports::machines::interleaver_stream_start` hands on what is said of the store that is lent.
use mathlib.Core.Path.{◌≡◌}
use Rattle.streams.specs.Answers.{say, started_of}
use Rattle.exports.proofs.machines.interleaver_stream_start.Goals as goal

pub returns : goal.returns
returns c =
    let a = c.args in
    let started = c.start in
    let said : say started.result ≡ started_of a.kind a.store.now = started.ensures.answer in
    let held = c.answered.ensures in
    record { number = rw (← said) (held.number); store = started.ensures.store; stream = rw (← said) (held.stream) }

-- `lent::machines::feed` hands on what is said of the machine that is lent.
use mathlib.Core.Path.{◌≡◌}
use Rattle.streams.specs.Answers.{say, call, says}
use Rattle.flat.specs.Flat.{stream_of}
use Rattle.lent.proofs.machines.feed.Goals as goal

pub returns : goal.returns
returns c =
    let a = c.args in
    let kept = c.record_of in
    let fed = c.feed in
    let lent : kept.result ≡ stream_of a.stream.now = kept.ensures in
    let said : say fed.result ≡ says (call a.way kept.result a.store.now a.input.now a.out.now) = fed.ensures.answer in
    let held = c.answered.ensures in
    record {
      number = rw (← lent, ← said) held.number;
      stream = rw (← lent, ← said) held.stream;
      store = rw (← lent) fed.ensures.store;
      output = rw (← lent) fed.ensures.output;
    }

-- `lent::lists::walk_on` hands on, part by part, what is said of the walk that is lent.
use mathlib.Core.Path.{◌≡◌}
use Rattle.flat.specs.Flat.{walk_of}
use Rattle.lent.proofs.lists.walk_on.Goals as goal

pub returns : goal.returns
returns c =
    let lent : c.walk_of.result ≡ walk_of c.args.set.now c.args.cell.now = c.walk_of.ensures in
    let said = c.walk_by.ensures in
    let held = c.walked.ensures in
    record {
      number = rw (← lent, ← said.answer) held.number;
      cell = rw (← lent, ← said.answer) held.cell;
      slice = rw (← lent) said.slice;
      written = rw (← lent, ← said.answer) held.written;
      cells = rw (← lent, ← said.answer) held.cells;
    }

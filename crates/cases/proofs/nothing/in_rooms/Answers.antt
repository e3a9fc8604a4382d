-- Each store is a part of its room: no kind's is longer than ATSC's.
use Rattle.std.proofs.Common.{sym, arith, length-take-le}
use Rattle.kinds.specs.Kinds.{sound}
use Rattle.cases.proofs.nothing.in_rooms.Goals as goal

pub slice_bounds-room-end : goal.slice_bounds-room-end
slice_bounds-room-end c = omega (arith, c.of-n.ensures.store, (sound c.args.kind).low)

pub slice_bounds-feed_nothing-end : goal.slice_bounds-feed_nothing-end
slice_bounds-feed_nothing-end c = sym (length-take-le _ _ (omega (arith, c.of-n.ensures.store, (sound c.args.kind).low)))

pub slice_bounds-second-end : goal.slice_bounds-second-end
slice_bounds-second-end c = omega (arith, c.of-n.ensures.store, (sound c.args.kind).low)

pub slice_bounds-feed_nothing-end-2 : goal.slice_bounds-feed_nothing-end-2
slice_bounds-feed_nothing-end-2 c = sym (length-take-le _ _ (omega (arith, c.of-n.ensures.store, (sound c.args.kind).low)))

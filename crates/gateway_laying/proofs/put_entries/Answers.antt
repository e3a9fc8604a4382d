-- `gateway_laying::put_entries`.
use native.Mathlib.Omega.{arith}
use lib.ListN.{get_or}
use Rattle.kinds.specs.Kinds.{sound}
use Rattle.gateway_laying.specs.Laying.{entering_first, entering_end, entering_more, header_inside, start_low}
use Rattle.gateway_laying.proofs.put_entries.Goals as goal

pub loop-i-init : goal.loop-i-init
loop-i-init c = entering_first _ _ _

pub overflow_cast-share : goal.overflow_cast-share
overflow_cast-share c = omega (arith, start_low c.args.kinds.now c.loop-i.i, c.loop-i.invariant.start, c.loop-i-test.true, c.requires.few)

pub put_entry-requires : goal.put_entry-requires
put_entry-requires c = let g = c.loop-i.invariant in omega (arith, g.place, g.stored.size, c.loop-i-test.true, c.requires.fits, header_inside c.args.kinds.now)

pub overflow_add-share-in-loop-i : goal.overflow_add-share-in-loop-i
overflow_add-share-in-loop-i c = omega (arith, c.of-share.ensures.store, (sound (get_or c.args.kinds.now c.loop-i.i 0)).low, start_low c.args.kinds.now c.loop-i.i, c.loop-i.invariant.start, c.loop-i-test.true, c.requires.few)

pub loop-i-preserved : goal.loop-i-preserved
loop-i-preserved c = entering_more c.loop-i.invariant c.loop-i-test.true c.new.ensures c.put_entry.ensures c.of-share.ensures.store

pub returns : goal.returns
returns c = entering_end c.loop-i.invariant c.loop-i-test.false

-- `gateway_form::entries::put_entry`.
use Rattle.big_end.specs.Stores.{numbers_put}
use Rattle.gateway_form.specs.Form.{stand_bytes, entry_bytes}
use Rattle.kinds.specs.Kinds.{sizes_of, sound}
use native.Mathlib.Omega.{arith}
use Rattle.gateway_form.proofs.entries.put_entry.Goals as goal

pub overflow_cast-of : goal.overflow_cast-of
overflow_cast-of c = let k = sound c.args.s.kind in omega (arith, c.of.ensures.store, k.low)

pub returns : goal.returns
unfolding entry_bytes
returns c =
    let a = c.args in
    let long = c.of.ensures.store in
    numbers_put a.store.now a.at a.s.kind a.direction a.offset (sizes_of a.s.kind).store (stand_bytes a.s)
    c.put_number.ensures c.put_number-2.ensures c.put_number-3.ensures
    (rw long at c.put_number-4.ensures) c.put_stand.ensures

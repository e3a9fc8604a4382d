-- `gateway_laying::put_all`.
use native.Mathlib.Omega.{arith}
use Rattle.gateway_laying.specs.Laying.{header_inside, whole}
use Rattle.gateway_laying.proofs.put_all.Goals as goal

pub put_number-requires : goal.put_number-requires
put_number-requires c = omega (arith, c.requires.0.fits, header_inside c.args.kinds.now)

pub returns : goal.returns
returns c =
    let a = c.args in
    whole a.kinds.now a.directions.now a.fills.now a.store.now c.requires.0.fits c.put_number.ensures c.put_entries.ensures c.put_shares.ensures

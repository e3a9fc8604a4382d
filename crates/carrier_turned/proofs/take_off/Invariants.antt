-- `carrier_turned::take_off` takes the turn off each address. What is done is the law of a slice that is filled from the front, by what stood there.
use Rattle.laws.specs.Fill.{Filled}
use Rattle.laws.specs.Loop.{by}
use Rattle.carrier_turned.specs.Turned.{off}
use Rattle.carrier_turned.proofs.take_off.Given as goal

abbrev pub invariant-loop-a : goal.invariant-loop-a
invariant-loop-a l = Filled (λ y. off l.n l.v (by l.initial.out y)) 0 l.initial.out l.out l.a-index

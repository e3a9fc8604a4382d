-- `gateway_form::entries::put_stand`.
use Prim.Native.Nat.{◌+◌, ◌*◌, ◌≤◌}
use mathlib.Core.Path.{◌≡◌}
use lib.ListN.{length}
use Rattle.laws.specs.Chained.{Storing}
use Rattle.big_end.specs.Numbers.{number_bytes}
use Rattle.gateway_form.proofs.entries.put_stand.Given as goal

abbrev pub invariant-loop-place : goal.invariant-loop-place
invariant-loop-place l =
    Storing number_bytes l.place-items (l.at + 4) l.initial.store l.store l.next l.place-index × (l.next ≡ l.at + 4 + 4 * l.place-index) × (l.at + 208 ≤ length l.initial.store) × (length l.place-items ≡ 51)

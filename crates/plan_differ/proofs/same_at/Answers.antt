-- `plan_differ::same_at` asks both lists: each has the position, and the addresses are the same.
use Rattle.plan_differ.specs.Seeking.{apart_left, apart_right, by_addresses}
use Rattle.plan_differ.proofs.same_at.Goals as goal

pub returns-then-p-one : goal.returns-then-p-one
returns-then-p-one c = apart_left _ _ _ _ _ c.if-p-one.true

pub returns-then-p-two : goal.returns-then-p-two
returns-then-p-two c = apart_right _ _ _ _ _ c.if-p-one.false c.if-p-two.true

pub returns : goal.returns
returns c = by_addresses _ _ _ _ _ c.if-p-one.false c.if-p-two.false c.pair_at.ensures c.pair_at-2.ensures

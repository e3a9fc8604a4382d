-- The branch, the rings' places and the rest, by the kind's numbers.
use mathlib.Core.Path.{sym, ◌∙◌}
use borrow.Author.Tests.{lt-ltb, le-ltb}
use Rattle.kinds.specs.Ranges.{range_parts}
use Rattle.kinds.proofs.Stream.in_range.Goals as goal

pub returns-then-self-z : goal.returns-then-self-z
returns-then-self-z c =
    let self = c.args.self in
    let of = c.of-z in
    sym (range_parts self of.result of.ensures c.below-own.ensures c.below-rest.ensures ∙ rw (le-ltb self.branch of.result.branches c.if-self-z.true))

pub returns-then-own : goal.returns-then-own
returns-then-own c =
    let self = c.args.self in
    let of = c.of-z in
    sym (range_parts self of.result of.ensures c.below-own.ensures c.below-rest.ensures ∙ rw (lt-ltb self.branch of.result.branches c.if-self-z.false, c.if-own.true))

pub returns-else-own : goal.returns-else-own
returns-else-own c =
    let self = c.args.self in
    let of = c.of-z in
    sym (range_parts self of.result of.ensures c.below-own.ensures c.below-rest.ensures ∙ rw (lt-ltb self.branch of.result.branches c.if-self-z.false, c.if-own.false))

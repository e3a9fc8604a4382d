-- `named::among`: word after word, those of the kind counted.
use mathlib.Core.Path.{sym, ◌∙◌}
use borrow.Author.Rules.{rules}
use Rattle.named.specs.Named.{pick_first, pick_none, pick_empty, pick_found, pick_passed, pick_other}
use Rattle.named.proofs.among.Goals as goal
use Rattle.named.proofs.among.Goals.{then-is_named-named+else-left-eq0, else-is_named-named}

pub loop-j-init : goal.loop-j-init
loop-j-init c = pick_first _ _ _

pub returns-then-is_empty : goal.returns-then-is_empty
returns-then-is_empty c = pick_empty c.loop-j.invariant (search rules) c.word-w.ensures (sym c.is_empty.ensures ∙ c.if-is_empty.true)

pub returns-then-left-eq0 : goal.returns-then-left-eq0
returns-then-left-eq0 c =
    pick_found
    c.loop-j.invariant
    (search rules)
    c.word-w.ensures
    (sym c.is_empty.ensures ∙ c.if-is_empty.false)
    c.is_named.ensures
    c.if-is_named-named.true
    c.if-left-eq0.true

pub loop-j-preserved : goal.loop-j-preserved
loop-j-preserved c =
    let p = c.loop-j.invariant in
    let e = c.word-w.ensures in
    let n = sym c.is_empty.ensures ∙ c.if-is_empty.false in
    let b = c.is_named.ensures in
    elim c.if-is_named-named.branch [
      | then-is_named-named+else-left-eq0 w ↦ rw w.left-is (pick_passed p (search rules) e n b w.if-is_named-named.true w.if-left-eq0.false)
      | else-is_named-named w ↦ rw w.left-is (pick_other p (search rules) e n b w.if-is_named-named.false)
    ]

pub returns : goal.returns
returns c = pick_none c.loop-j.invariant (search rules)

-- `sizes::size_listed` is the test of the size, form by form.
use Prim.Native.Nat.{ℕ, ◌*◌, ◌%◌}
use mathlib.Core.Bool.{or-false, ◌&&◌}
use lib.Dec.{leb, eqb}
use mathlib.Core.Path.{sym, ap, ◌∙◌}
use Rattle.laws.specs.Members.{multiple}
use Rattle.sizes.specs.Listed.{size_by_lem}
use Rattle.sizes.proofs.size_listed.Goals as goal

pub returns-in-Only : goal.returns-in-Only
returns-in-Only c = sym (size_by_lem _ c.admitted_by-admitted.ensures c.in-Only.is)

pub returns-in-Doubled : goal.returns-in-Doubled
returns-in-Doubled c = sym (size_by_lem _ c.admitted_by-admitted.ensures c.in-Doubled.is ∙ simp or-false)

pub returns-in-Multiple : goal.returns-in-Multiple
returns-in-Multiple c = c.multiple_of.ensures ∙ sym (size_by_lem _ c.admitted_by-admitted.ensures c.in-Multiple.is)

pub returns-in-Grouped : goal.returns-in-Grouped
returns-in-Grouped c =
    c.multiple_of-in-Grouped.ensures
    ∙ ap (λ (u : ℕ). multiple (c.admitted_by-admitted.result.unit * u) c.admitted_by-admitted.result.limit c.args.size.n) c.group_by.ensures.value
    ∙ sym (size_by_lem _ c.admitted_by-admitted.ensures c.in-Grouped.is)

pub returns-in-Range : goal.returns-in-Range
returns-in-Range c = sym (size_by_lem _ c.admitted_by-admitted.ensures c.in-Range.is)

pub returns-in-Tiered : goal.returns-in-Tiered
returns-in-Tiered c =
    let n = c.args.size.n in
    let x = c.admitted_by-admitted.result in
    ap (λ (u : ℕ). leb x.unit n && (leb n x.limit && eqb (n % u) 0)) c.step_by.ensures.value
    ∙ sym (size_by_lem _ c.admitted_by-admitted.ensures c.in-Tiered.is)

pub returns-in-Fours : goal.returns-in-Fours
returns-in-Fours c = sym (size_by_lem _ c.admitted_by-admitted.ensures c.in-Fours.is)

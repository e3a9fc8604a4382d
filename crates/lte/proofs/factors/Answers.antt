-- `lte::factors` gives the numbers of the row of a listed K, and else 3.
use mathlib.Core.Bool.{Bool, true}
use mathlib.Core.Path.{◌≡◌, sym, ap, ap₂, ◌∙◌}
use Prim.Native.Nat.{ℕ, ◌<◌}
use lib.ListN.{get_or}
use Rattle.laws.specs.Outcome.{done, refused}
use Rattle.sets.specs.declared.Set.{Set}
use Rattle.sets.specs.Verdict.{refusal}
use Rattle.sizes.specs.Size.{size}
use Rattle.sizes.specs.Tests.{size_listed}
use Rattle.lte.specs.Table.{firsts, seconds, place_of, InTable, in_table_lem}
use Rattle.lte.specs.Factors.{two, given_of, passes_listed}
use Rattle.lte.proofs.factors.Goals as goal

-- a K that passes stands in the table
row_of : {k : ℕ} {b : Bool} → b ≡ size_listed (size 8 1 k) → b ≡ true → InTable k
row_of e t = in_table_lem (passes_listed _ (sym e ∙ t))

within : {k i : ℕ} → InTable k → i ≡ place_of k → i < 188
within r e = rw e r.place_in

pub returns-then-not-is_listed : goal.returns-then-not-is_listed
unfolding given_of
returns-then-not-is_listed c =
    ap refused (c.refusal_of.ensures ∙ ap (λ (x : Set). refusal x 3) c.set_of.ensures)
    ∙ simp (sym c.is_listed.ensures ∙ c.if-not-is_listed.true)

pub returns : goal.returns
unfolding given_of
returns c =
    let r = row_of c.is_listed.ensures c.if-not-is_listed.false in
    ap done (ap₂ two
    (c.first_at.ensures ∙ ap (λ (x : ℕ). get_or firsts x 0) c.place_of-i.ensures ∙ r.first_is)
    (c.second_at.ensures ∙ ap (λ (x : ℕ). get_or seconds x 0) c.place_of-i.ensures ∙ r.second_is))
    ∙ simp (sym c.is_listed.ensures ∙ c.if-not-is_listed.false)

pub place_of-i-requires : goal.place_of-i-requires
place_of-i-requires c = (row_of c.is_listed.ensures c.if-not-is_listed.false).least

pub first_at-requires : goal.first_at-requires
first_at-requires c = within (row_of c.is_listed.ensures c.if-not-is_listed.false) c.place_of-i.ensures

pub second_at-requires : goal.second_at-requires
second_at-requires c = within (row_of c.is_listed.ensures c.if-not-is_listed.false) c.place_of-i.ensures

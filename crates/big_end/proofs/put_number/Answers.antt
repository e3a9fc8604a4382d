-- `big_end::put_number` stores four bytes.
use Rattle.std.proofs.Common.{◌≡◌, ◌∙◌, ap, arith}
use Rattle.std.proofs.lemmas.List.Edits.{sets}
use Rattle.std.specs.Prelude.{length}
use Rattle.laws.specs.Parts.{part_back}
use Rattle.big_end.specs.Numbers.{number_bytes}
use Rattle.big_end.proofs.put_number.Goals as goal

pub returns : goal.returns
returns c =
    let a = c.args in
    let new : c.copy_from_slice.new.self ≡ number_bytes a.v = c.copy_from_slice.ensures.after ∙ c.to_be_bytes.ensures in
    part_back a.out.now a.at _ _ (ap length new ∙ omega arith) (omega (arith, c.requires)) ∙ ap (sets a.out.now a.at) new

-- `plans::writing::write` asks for the length, looks at the buffer, and stores the file.
use mathlib.Core.Path.{◌≡◌, ◌∙◌}
use Rattle.laws.specs.Outcome.{refused, say}
use native.Mathlib.Omega.{arith}
use lib.ListN.{length}
use Rattle.plans.specs.Writing.{buffer_of}
use Rattle.plans.proofs.WritingLaws.{write_stops, write_keeps, write_six, write_done, write_new, write_filed}
use borrow.Author.Rules.{rules}
use Rattle.plans.proofs.writing.write.Goals as goal

pub returns-then-out-bytes : goal.returns-then-out-bytes
unfolding buffer_of
returns-then-out-bytes c =
    let q = write_six _ (length c.args.out.now) c.in_ok-bytes.ensures (λ e. omega (arith, e, c.if-out-bytes.true)) in
    record { answer = q; buffer = write_keeps _ _ q _ _ }

pub put_file-requires : goal.put_file-requires
put_file-requires c = (write_filed _ _ c.in_ok-bytes.ensures c.if-out-bytes.false, search rules)

pub returns-in_err-bytes : goal.returns-in_err-bytes
unfolding buffer_of
returns-in_err-bytes c =
    let said : say c.from_residual.result ≡ refused c.in_err-bytes.field-0.0 = search rules in
    let q = write_stops _ (length c.args.out.now) c.in_err-bytes.ensures in
    record { answer = said ∙ q; buffer = write_keeps _ _ q _ _ }

pub returns : goal.returns
unfolding buffer_of
returns c =
    let q = c.in_ok-bytes.ensures in
    record { answer = write_done _ (length c.args.out.now) q c.if-out-bytes.false; buffer = c.put_file.ensures ∙ write_new _ (length c.args.out.now) q c.if-out-bytes.false _ _ }

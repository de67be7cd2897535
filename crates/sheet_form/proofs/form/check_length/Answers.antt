use Rattle.std.proofs.Common.{sym, ◌∙◌}
use Rattle.sheet.specs.FormLaws.{length_sized}
use Rattle.sheet_form.proofs.form.check_length.Goals as goal

pub returns-then-length_ok-clause-sized : goal.returns-then-length_ok-clause-sized
returns-then-length_ok-clause-sized c = length_sized _ (sym c.length_ok.ensures ∙ c.if-length_ok.true)

use Rattle.std.proofs.Common.{sym, ap, ◌∙◌, not}
use Rattle.sheet_checks.specs.CodeLaws.{end_refused, end_accepted}
use Rattle.sheet_checks.proofs.check.check_end.Goals as goal

pub returns-then-last_falls : goal.returns-then-last_falls
returns-then-last_falls c = end_refused _ _ (ap not (sym c.last_falls.ensures ∙ c.if-last_falls.true))

pub returns : goal.returns
returns c = end_accepted _ _ (ap not (sym c.last_falls.ensures ∙ c.if-last_falls.false))

use Rattle.std.proofs.Common.{ap, ◌∙◌, ℕ}
use Rattle.base.specs.declared.Refusal.TheVariants.{Local}
use Rattle.base.specs.Lists.{first_bad}
use Rattle.base.specs.Refusals.{check}
use Rattle.stackless_bytecode.specs.Kinds.{at}
use Rattle.sheet.specs.Layout.{code_of}
use Rattle.sheet.specs.Checks.{locals_ok}
use Rattle.sheet_checks.proofs.check.check_locals.Goals as goal

pub returns-in-Some : goal.returns-in-Some
returns-in-Some c = rw (← c.locals_of.ensures, ← c.from-locals.ensures) (ap (check Local) c.in-Some.ensures.first)

pub returns-in-None : goal.returns-in-None
returns-in-None c = rw (← c.locals_of.ensures, ← c.from-locals.ensures) (ap (check Local) c.in-None.ensures.first)

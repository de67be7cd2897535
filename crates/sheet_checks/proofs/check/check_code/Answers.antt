use Rattle.std.proofs.Common.{rules}
use Rattle.sheet_checks.specs.CodeLaws.{code_by_labels}
use Rattle.sheet_checks.proofs.check.check_code.Goals as goal

pub returns-in_err-check_stops-clause-checked : goal.returns-in_err-check_stops-clause-checked
returns-in_err-check_stops-clause-checked c = rw (code_by_labels _ _ c.args.sheet.shaped) (search rules)

pub returns-in_err-check_locals-clause-checked : goal.returns-in_err-check_locals-clause-checked
returns-in_err-check_locals-clause-checked c = rw (code_by_labels _ _ c.args.sheet.shaped) (search rules)

pub returns-in_err-check_labels-clause-checked : goal.returns-in_err-check_labels-clause-checked
returns-in_err-check_labels-clause-checked c = rw (code_by_labels _ _ c.args.sheet.shaped) (search rules)

pub returns-clause-checked : goal.returns-clause-checked
returns-clause-checked c = rw (code_by_labels _ _ c.args.sheet.shaped) (search rules)

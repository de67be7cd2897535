use Rattle.std.proofs.Common.{arith, sym, ◌∙◌, length-take-le}
use Rattle.sheet_checks.specs.CodeLaws.{repeats, labelled_repeated, labelled_undefined, labelled_all}
use Rattle.base.specs.SearchLaws.{bad_lt}
use Rattle.sheet_checks.proofs.check.check_labels.Goals as goal

pub overflow_cast-result : goal.overflow_cast-result
overflow_cast-result c =
    omega (arith, bad_lt _ _ _ _ (repeats c.list_labels.ensures c.in-Err.is), c.args.sheet.size, c.args.sheet.few)

pub slice_bounds-resolve-end : goal.slice_bounds-resolve-end
slice_bounds-resolve-end c =
    sym (length-take-le _ _ (omega (arith, c.list_labels.ensures.few _ c.in-Ok.is, c.args.sheet.size, c.args.sheet.few, c.list_labels.auto.labels)))

pub slice_bounds-resolve-end-in-Ok : goal.slice_bounds-resolve-end-in-Ok
slice_bounds-resolve-end-in-Ok c =
    sym (length-take-le _ _ (omega (arith, c.list_labels.ensures.few _ c.in-Ok.is, c.args.sheet.size, c.args.sheet.few, c.list_labels.auto.places)))

pub overflow_cast-result-in-Some : goal.overflow_cast-result-in-Some
overflow_cast-result-in-Some c = omega (arith, bad_lt _ _ _ _ (sym c.resolve.ensures.first ∙ c.in-Some.is), c.args.sheet.few)

pub returns-in-Err : goal.returns-in-Err
returns-in-Err c = labelled_repeated c.args.sheet.size c.list_labels.ensures c.in-Err.is

pub returns-in-Some : goal.returns-in-Some
returns-in-Some c = labelled_undefined c.args.sheet.size c.list_labels.ensures c.in-Ok.is c.resolve.ensures c.in-Some.is

pub returns-in-None : goal.returns-in-None
returns-in-None c = labelled_all c.args.sheet.size c.list_labels.ensures c.in-Ok.is c.resolve.ensures c.in-None.is

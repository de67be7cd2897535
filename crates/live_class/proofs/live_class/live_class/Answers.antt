use Rattle.std.proofs.Common.{sym, ◌∙◌}
use Rattle.class_set.specs.ClassMeaningLaws.{class_done}
use Rattle.live_class.proofs.live_class.live_class.Goals as goal

pub returns : goal.returns
returns c =
    let a = c.args in
    let e = c.live_sheets.ensures in
    let r = class_done a.sheets.now a.sets.now a.answers.now _ _ _ (sym c.check_class.ensures.verdict ∙ c.in_ok-check_class.was) c.count_sheets-m.ensures e.sets_after e.answers_after in
    record { result = r.result; written = r.written; answered = r.answered; means = r.means }

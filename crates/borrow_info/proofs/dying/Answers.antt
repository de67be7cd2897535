use Rattle.borrow_analysis.specs.MeaningLaws.{dying_answer}
use Rattle.borrow_info.proofs.dying.Goals as goal

pub returns : goal.returns
returns c =
    let ok = c.in_ok-here.ensures in
    let a = dying_answer _ _ _ ok.accepted ok.same ok.same_next c.if-out-here.false c.above-used.ensures (let came = c.collect_from-seen.ensures in (came.written, came.fits)) in
    record { result = a.result; written = a.written; means = a.means }

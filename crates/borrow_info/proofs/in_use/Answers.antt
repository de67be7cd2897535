use Rattle.borrow_analysis.specs.MeaningLaws.{in_use_bit}
use Rattle.borrow_info.proofs.in_use.Goals as goal

pub returns : goal.returns
returns c = let ok = c.in_ok-graph.ensures in let a = in_use_bit _ _ ok.accepted ok.same c.reaches.ensures in record { result = a.result; means = a.means }

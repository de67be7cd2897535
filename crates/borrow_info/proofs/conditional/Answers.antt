use Rattle.borrow_analysis.specs.MeaningLaws.{conditional_bit}
use Rattle.borrow_info.proofs.conditional.Goals as goal

pub returns : goal.returns
returns c = let ok = c.in_ok-graph.ensures in let a = conditional_bit _ _ ok.accepted ok.same c.many_in.ensures c.reaches.ensures in record { result = a.result; means = a.means }

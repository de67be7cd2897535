use Rattle.std.proofs.Common.{rules, ◌∙◌}
use Rattle.borrow_analysis.specs.GraphLaws.{rank_less, triple_last}
use Rattle.borrow_analysis.proofs.graph.InputGraph.triple_ok.Goals as goal

pub returns-else-i-eq0 : goal.returns-else-i-eq0
returns-else-i-eq0 c =
    triple_last _ _ _ c.triple_at-t.ensures c.triple_at.ensures c.if-t-self-2.true c.if-i-eq0.false
    (c.lt.ensures ∙ rank_less c.triple_at.result c.triple_at-t.result (search rules) (search rules) (search rules) (search rules))

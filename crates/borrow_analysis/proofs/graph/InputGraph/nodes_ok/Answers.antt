use Rattle.std.proofs.Common.{rules}
use Rattle.borrow_analysis.specs.GraphLaws.{nodes_few_64}
use Rattle.borrow_analysis.proofs.graph.InputGraph.nodes_ok.Goals as goal

pub returns-then-self-le-MAX_LOCALS : goal.returns-then-self-le-MAX_LOCALS
returns-then-self-le-MAX_LOCALS c = rw c.unwrap_or.ensures (nodes_few_64 _ _ c.checked_shr.result c.if-self-le-MAX_LOCALS.true (search rules) c.checked_shr.ensures)

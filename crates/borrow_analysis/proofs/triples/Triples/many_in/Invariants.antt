use Rattle.base.specs.Lists.{tab}
use Rattle.dataflow_domains.specs.Sets.{mask}
use Rattle.borrow_analysis.specs.Graph.{triple_at}
use Rattle.borrow_analysis.specs.GraphParts.{IncomingCounted}
use Rattle.borrow_analysis.proofs.triples.Triples.many_in.Given as goal

abbrev pub invariant-loop-i : goal.invariant-loop-i
invariant-loop-i l = IncomingCounted (tab l.i 0 (triple_at l.self.numbers.now)) (mask l.once) (mask l.many)

use Rattle.borrow_analysis.specs.Graph.{input_of}
use Rattle.borrow_analysis.specs.AcceptedLaws.{accepted_graph, inside_wider}
use Rattle.borrow_analysis.proofs.graph.InputGraph.accepted.Goals as goal

pub invariant_of-result : goal.invariant_of-result
invariant_of-result c = let g = accepted_graph (input_of c.args.self) c.requires.nodes c.requires.triples in record { inside = inside_wider _ g.few g.inside }

pub invariant_of-result-2 : goal.invariant_of-result-2
invariant_of-result-2 c = record { accepted = rw c.live_set.ensures (accepted_graph (input_of c.args.self) c.requires.nodes c.requires.triples) }

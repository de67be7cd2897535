use Rattle.std.proofs.Common.{◌/◌, length}
use Rattle.dataflow_domains.specs.Sets.{mask}
use Rattle.borrow_analysis.specs.Graph.{triple_at}
use Rattle.borrow_analysis.specs.GraphParts.{ParentsAdded}
use Rattle.borrow_info.proofs.upward.parents_in.Given as goal

abbrev pub invariant-loop-i : goal.invariant-loop-i
invariant-loop-i l = ParentsAdded (triple_at l.triples.numbers.now) (length l.triples.numbers.now / 3) (mask l.set) l.i (mask l.grown)

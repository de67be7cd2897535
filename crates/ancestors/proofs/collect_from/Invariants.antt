use Rattle.std.proofs.Common.{length}
use Rattle.dataflow_domains.specs.Sets.{mask}
use Rattle.ancestors.specs.Walking.{WalksSoFar}
use Rattle.ancestors.proofs.collect_from.Given as goal

abbrev pub invariant-loop-node : goal.invariant-loop-node
invariant-loop-node l = WalksSoFar l.fn.triples.numbers.now (mask l.fn.used) (length l.out) (mask l.initial.left) (mask l.left) l.walk

abbrev pub decreases-loop-node : goal.decreases-loop-node
decreases-loop-node l = mask l.left

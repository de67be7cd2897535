use Rattle.base.specs.Sizes.{max_locals}
use Rattle.dataflow_domains.specs.Sets.{mask}
use Rattle.ancestors.specs.Walking.{state_of, WalkSoFar}
use Rattle.ancestors.proofs.StepLaws.{left}
use Rattle.ancestors.proofs.Walk.collect_ancestors.Given as goal

abbrev pub invariant-loop-end : goal.invariant-loop-end
invariant-loop-end l = WalkSoFar l.ways.triples.numbers.now (mask l.ways.used) l.initial.self l.self

abbrev pub decreases-loop-end : goal.decreases-loop-end
decreases-loop-end l = left max_locals (state_of l.self)

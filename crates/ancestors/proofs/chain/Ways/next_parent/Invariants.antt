use Rattle.std.proofs.Common.{◌-◌}
use Rattle.dataflow_domains.specs.Sets.{mask}
use Rattle.ancestors.specs.Walking.{ScansOn}
use Rattle.ancestors.proofs.chain.Ways.next_parent.Given as goal

abbrev pub invariant-loop-i : goal.invariant-loop-i
invariant-loop-i l = ScansOn l.self.triples.numbers.now (mask l.nodes) (mask l.self.used) l.initial.i l.i

abbrev pub decreases-loop-i : goal.decreases-loop-i
decreases-loop-i l = l.n - l.i

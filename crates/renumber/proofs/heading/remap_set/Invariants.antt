use Rattle.std.proofs.Common.{◌≡◌}
use Rattle.dataflow_domains.specs.Sets.{mask}
use Rattle.eliminate_unused_vars.specs.RenumberWorkLaws.{first_set}
use Rattle.renumber.proofs.heading.remap_set.Given as goal

abbrev pub invariant-loop-i : goal.invariant-loop-i
invariant-loop-i l = mask l.new ≡ first_set l.order (mask l.set) l.i

use Rattle.std.proofs.Common.{◌≡◌}
use Rattle.eliminate_unused_vars.specs.RemapCodeLaws.{renamed}
use Rattle.eliminate_unused_vars.proofs.remap.remap_list.Given as goal

abbrev pub invariant-loop-i : goal.invariant-loop-i
invariant-loop-i g l = l.new ≡ renamed (g.N.NewNumbers.stay l.names) l.list l.i

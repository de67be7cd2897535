use Rattle.std.proofs.Common.{◌*◌}
use Rattle.sheet_labels.specs.Labelled.{Search}
use Rattle.sheet_labels.proofs.labels.skip.Given as goal

abbrev pub invariant-loop-g : goal.invariant-loop-g
invariant-loop-g l = Search l.labels l.l (32 * l.g)

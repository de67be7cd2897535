use Rattle.std.proofs.Common.{◌≡◌, ◌||◌, drop}
use Rattle.base.specs.Lists.{has}
use Rattle.sheet_labels.proofs.labels.list_has.Given as goal

abbrev pub invariant-loop-x : goal.invariant-loop-x
invariant-loop-x l = has l.l l.p ≡ l.found || has l.l (drop l.x-index l.p)

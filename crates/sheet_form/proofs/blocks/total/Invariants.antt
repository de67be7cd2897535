use Rattle.std.proofs.Common.{◌≡◌, ◌+◌, ◌≤◌, ◌*◌, drop}
use Rattle.base.specs.Lists.{sum}
use Rattle.sheet_form.proofs.blocks.total.Given as goal

abbrev pub invariant-loop-x : goal.invariant-loop-x
invariant-loop-x l = (l.total ≤ 255 * l.x-index) × (sum l.s ≡ l.total + sum (drop l.x-index l.s))

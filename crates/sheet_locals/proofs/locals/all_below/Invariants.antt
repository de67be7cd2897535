use Rattle.std.proofs.Common.{◌≡◌, true, ltb, take}
use Rattle.base.specs.Lists.{all}
use Rattle.sheet_locals.proofs.locals.all_below.Given as goal

abbrev pub invariant-loop-x : goal.invariant-loop-x
invariant-loop-x l = all (λ x. ltb x l.n) (take l.x-index l.xs) ≡ true

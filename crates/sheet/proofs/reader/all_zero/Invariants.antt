use Rattle.std.proofs.Common.{◌&&◌, ◌≡◌, drop, eqb}
use Rattle.base.specs.Lists.{zeros}
use Rattle.sheet.proofs.reader.all_zero.Given as goal

abbrev pub invariant-loop-x : goal.invariant-loop-x
invariant-loop-x l = zeros l.s ≡ eqb l.m 0 && zeros (drop l.x-index l.s)

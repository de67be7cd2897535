use Rattle.eliminate_unused_vars.specs.NameArrayLaws.{NamedTo}
use Rattle.eliminate_unused_vars.proofs.names.name_locals.Given as goal

abbrev pub invariant-loop-i : goal.invariant-loop-i
invariant-loop-i l = NamedTo l.locals l.numbers l.order l.i

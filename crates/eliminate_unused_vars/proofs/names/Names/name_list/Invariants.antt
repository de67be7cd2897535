use Rattle.std.proofs.Common.{◌≡◌, take}
use Rattle.base.specs.Lists.{firsts}
use Rattle.eliminate_unused_vars.proofs.names.Names.name_list.Given as goal

abbrev pub invariant-loop-local : goal.invariant-loop-local
invariant-loop-local l = l.self-inside.numbers ≡ firsts l.initial.self-inside.numbers (take l.local-index l.list)

use Rattle.std.proofs.Common.{◌≡◌, [], take}
use Rattle.base.specs.Lists.{tab, gather, firsts}
use Rattle.sheet.specs.Layout.{code_of}
use Rattle.eliminate_unused_vars.specs.Remap.{mentions}
use Rattle.eliminate_unused_vars.proofs.names.Names.of.Given as goal

abbrev pub invariant-loop-user : goal.invariant-loop-user
invariant-loop-user l = l.numbers ≡ firsts [] (tab l.user 0 (λ i. i))

abbrev pub invariant-loop-k : goal.invariant-loop-k
invariant-loop-k l = l.names ≡ firsts l.initial.names (gather mentions (take l.k (code_of l.sheet.bytes.now)))

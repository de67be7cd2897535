use Rattle.std.proofs.Common.{◌≡◌, List, suc, ◌-◌, ◌<◌, length, take, drop}
use Rattle.dataflow_domains.specs.Sets.{mask}
use Rattle.stackless_bytecode.specs.declared.Bytecode.{Bytecode}
use Rattle.livevar_analysis.specs.Analysis.{execute_all}
use Rattle.livevar_analysis.specs.Rules.{Ruled}
use Rattle.livevar_analysis.proofs.execute.execute_block.Given as goal

abbrev pub invariant-loop-k : goal.invariant-loop-k
invariant-loop-k l =
    (code : List Bytecode) → Ruled code l.rules → l.upper < length code
    → execute_all (take (suc l.upper - l.lower) (drop l.lower code)) (mask l.initial.set) ≡ execute_all (take (l.k - l.lower) (drop l.lower code)) (mask l.set)

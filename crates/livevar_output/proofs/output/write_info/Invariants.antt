use Rattle.std.proofs.Common.{◌≡◌, List, ℕ, length}
use Rattle.dataflow_domains.specs.Sets.{mask}
use Rattle.stackless_bytecode.specs.declared.Bytecode.{Bytecode}
use Rattle.livevar_analysis.specs.Rules.{Ruled}
use Rattle.livevar_analysis.specs.Output.{Blocked}
use Rattle.livevar_analysis.specs.OutputLaws.{InfoWritten}
use Rattle.livevar_output.proofs.output.write_info.Given as goal

abbrev pub invariant-loop-k : goal.invariant-loop-k
invariant-loop-k l =
    (code : List Bytecode) (ms : List ℕ) → length l.keys ≡ length code → Ruled code l.rules → Blocked code ms l.keys l.sets → InfoWritten code ms l.initial.out l.k (mask l.m) l.out

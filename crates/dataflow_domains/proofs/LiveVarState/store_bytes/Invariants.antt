use Rattle.std.proofs.Common.{◌≡◌, ◌++◌, ◌*◌, take, drop}
use Rattle.dataflow_domains.specs.Words.{bytes_each}
use Rattle.dataflow_domains.proofs.LiveVarState.store_bytes.Given as goal

abbrev pub invariant-loop-j : goal.invariant-loop-j
invariant-loop-j l = l.out ≡ bytes_each 8 (take l.j l.self.livevars) ++ drop (8 * l.j) l.initial.out

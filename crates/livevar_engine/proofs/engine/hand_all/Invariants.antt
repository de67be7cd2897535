use Rattle.std.proofs.Common.{List, ℕ, ◌-◌, length}
use Rattle.base.specs.Lists.{tab}
use Rattle.dataflow_domains.specs.Sets.{mask}
use Rattle.livevar_analysis.specs.EngineLaws.{Handing}
use Rattle.livevar_engine.proofs.engine.hand_all.Given as goal

abbrev pub blocks : ℕ → List ℕ
blocks n = tab (n - 2) 2 (λ b. b)

abbrev pub invariant-loop-k : goal.invariant-loop-k
invariant-loop-k l = Handing l.initial.list (blocks (length l.initial.list.met.now)) (mask l.m) l.list (l.k - 2)

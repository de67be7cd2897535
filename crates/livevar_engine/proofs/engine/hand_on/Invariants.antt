use Rattle.dataflow_domains.specs.Sets.{mask}
use Rattle.livevar_analysis.specs.EngineLaws.{Handing}
use Rattle.livevar_engine.proofs.engine.hand_on.Given as goal

abbrev pub invariant-loop-p : goal.invariant-loop-p
invariant-loop-p l = Handing l.initial.list l.part (mask l.m) l.list l.p-index

use Rattle.std.proofs.Common.{◌-◌, length}
use Rattle.livevar_analysis.specs.RunLaws.{Held}
use Rattle.livevar_engine.proofs.engine.run.Given as goal

abbrev pub invariant-loop-k : goal.invariant-loop-k
invariant-loop-k l = Held l.tables l.initial.list l.list

abbrev pub decreases-loop-k : goal.decreases-loop-k
decreases-loop-k l = length l.initial.list.queue.now - l.list.cursor.head

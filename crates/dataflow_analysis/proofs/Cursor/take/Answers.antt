use Rattle.std.proofs.Common.{sym, ap, List, ℕ, arith}
use Rattle.dataflow_analysis.specs.Queue.{taken_of}
use Rattle.dataflow_analysis.specs.QueueLaws.{list_none, take_first}
use Rattle.dataflow_analysis.proofs.Cursor.take.Goals as goal

pub returns-then-self-eq0 : goal.returns-then-self-eq0
returns-then-self-eq0 c = let a = c.args in sym (ap (λ (l : List ℕ). taken_of l a.self) (list_none a.q.now a.self c.if-self-eq0.true))

pub returns : goal.returns
returns c = let a = c.args in
    sym (ap (λ (l : List ℕ). taken_of l a.self) (take_first a.q.now a.self (omega arith) (omega arith)))

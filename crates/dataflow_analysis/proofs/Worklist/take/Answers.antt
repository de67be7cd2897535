use Rattle.std.proofs.Common.{◌≡◌, refl, Some, None, rules}
use Rattle.dataflow_analysis.specs.Queue.{waiting, taken_of}
use Rattle.dataflow_analysis.specs.ReceiptLaws.{taken_first, ended}
use Rattle.dataflow_analysis.proofs.Worklist.take.Goals as goal

pub returns-in_err-k-clause-none : goal.returns-in_err-k-clause-none
returns-in_err-k-clause-none c =
    let w = c.args.self.now in
    let none : None ≡ taken_of (waiting w.queue.now w.cursor) w.cursor = search rules in
    rw c.from_residual.ensures (ended w _ refl refl refl refl none)

pub returns-clause-some : goal.returns-clause-some
returns-clause-some c =
    let w = c.args.self.now in
    let some : Some (c.in_ok-k.k, c.in_ok-k.next) ≡ taken_of (waiting w.queue.now w.cursor) w.cursor = search rules in
    taken_first w _ refl refl refl c.requires _ some

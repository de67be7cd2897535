use Rattle.std.proofs.Common.{◌≡◌, arith}
use Rattle.stackless_control_flow_graph.specs.CheckedSheetLaws.{checked_once, checked_size, marks_begin}
use Rattle.stackless_control_flow_graph.specs.StartLaws.{marks_end}
use Rattle.stackless_control_flow_graph.proofs.starts.visit_all.Goals as goal

pub loop-k-init : goal.loop-k-init
loop-k-init c = (record { each = λ j h. absurd (omega arith) }, marks_begin c.args.sheet.bytes.now c.args.marks.now (omega arith) c.requires.unmarked)

pub returns-clause-successors : goal.returns-clause-successors
returns-clause-successors c = let n : c.loop-k.k ≡ c.args.sheet.count = omega arith in rw (← n) c.loop-k.invariant.0

pub returns-clause-marked : goal.returns-clause-marked
returns-clause-marked c =
    let n : c.loop-k.k ≡ c.args.sheet.count = omega arith in
    marks_end _ (checked_once c.args.sheet.checked) _ (rw (checked_size c.args.sheet.checked, ← n) c.loop-k.invariant.1)

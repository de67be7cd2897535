use Rattle.std.proofs.Common.{rules, arith}
use Rattle.stackless_control_flow_graph.specs.OffsetLaws.{marked_none, marked_on, marked_off}
use Rattle.stackless_control_flow_graph.proofs.blocks.list_lowers.Goals as goal
use Rattle.stackless_control_flow_graph.proofs.blocks.list_lowers.Goals.{then-marks-k, else-marks-k}

pub loop-k-init : goal.loop-k-init
loop-k-init c = (search rules, marked_none _)

pub loop-k-preserved : goal.loop-k-preserved
loop-k-preserved c =
    let l = c.loop-k in
    elim c.if-marks-k.branch [
      | then-marks-k w ↦ rw (w.c-is, w.lowers-is) (omega arith, marked_on _ l.lowers _ _ w.if-marks-k.true (omega arith) l.invariant.1)
      | else-marks-k w ↦ rw (w.c-is, w.lowers-is) (omega arith, marked_off _ l.lowers _ _ w.if-marks-k.false l.invariant.1)
    ]

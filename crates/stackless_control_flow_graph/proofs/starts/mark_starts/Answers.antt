use Rattle.std.proofs.Common.{length-set, arith}
use Rattle.stackless_control_flow_graph.specs.NextLaws.{one_below, two_below}
use Rattle.stackless_control_flow_graph.proofs.starts.mark_starts.Goals as goal

pub bounds-marks-from : goal.bounds-marks-from
bounds-marks-from c = simp length-set (omega (arith, one_below _ _ _ c.in-One.is c.requires.within))

pub bounds-marks-from-in-Two : goal.bounds-marks-from-in-Two
bounds-marks-from-in-Two c = simp length-set (omega (arith, two_below _ _ _ _ c.in-Two.is c.requires.within))

pub bounds-marks-from-in-Two-2 : goal.bounds-marks-from-in-Two-2
bounds-marks-from-in-Two-2 c = simp length-set (omega (arith, two_below _ _ _ _ c.in-Two.is c.requires.within))

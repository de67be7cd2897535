use Rattle.std.proofs.Common.{refl, rules, arith}
use Rattle.stackless_control_flow_graph.specs.OffsetLaws.{uppers_begin, uppers_turn}
use Rattle.stackless_control_flow_graph.proofs.blocks.find_uppers.Goals as goal

pub loop-k-init : goal.loop-k-init
loop-k-init c = (search rules, search rules, λ code size m. uppers_begin code _ _ size)

pub loop-k-preserved-then-marks-k : goal.loop-k-preserved-then-marks-k
loop-k-preserved-then-marks-k c =
    (omega arith, omega arith, λ code size m. uppers_turn code _ _ _ _ _ _ m (omega arith) (omega arith) (omega arith) refl (rw c.if-marks-k.true refl) (c.loop-k.invariant.2 code size m))

pub loop-k-preserved : goal.loop-k-preserved
loop-k-preserved c =
    (omega arith, omega arith, λ code size m. uppers_turn code _ _ _ _ _ _ m (omega arith) (omega arith) (omega arith) refl (rw c.if-marks-k.false refl) (c.loop-k.invariant.2 code size m))

use Rattle.std.proofs.Common.{refl}
use Rattle.livevar_analysis.specs.EngineLaws.{hand_none, hand_set, hand_inside, hand_room, hand_more, hand_all}
use Rattle.livevar_engine.proofs.engine.hand_on.Goals as goal

pub loop-p-init : goal.loop-p-init
loop-p-init c = hand_none _ _ _ c.requires

pub receive-requires-clause-set_inside : goal.receive-requires-clause-set_inside
receive-requires-clause-set_inside c = hand_set _ _ _ c.requires _ _ c.loop-p.invariant c.loop-p-test.true _ refl

pub receive-requires-clause-mark_inside : goal.receive-requires-clause-mark_inside
receive-requires-clause-mark_inside c = hand_inside _ _ _ c.requires _ _ c.loop-p.invariant c.loop-p-test.true _ refl

pub receive-requires-clause-room : goal.receive-requires-clause-room
receive-requires-clause-room c = hand_room _ _ _ c.requires _ _ c.loop-p.invariant c.loop-p-test.true _ refl

pub loop-p-preserved : goal.loop-p-preserved
loop-p-preserved c = hand_more _ _ _ c.requires _ _ c.loop-p.invariant c.loop-p-test.true _ refl _ c.receive.ensures

pub returns : goal.returns
returns c = hand_all _ _ _ c.requires _ _ c.loop-p.invariant c.loop-p-test.false

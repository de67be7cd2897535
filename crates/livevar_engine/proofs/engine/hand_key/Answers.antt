use Rattle.std.proofs.Common.{refl, sym}
use Rattle.livevar_analysis.specs.EngineLaws.{can_hand_as, handed_as, leads_all}
use Rattle.livevar_engine.proofs.engine.hand_key.Goals as goal

pub hand_all-requires-clause-hands : goal.hand_all-requires-clause-hands
hand_all-requires-clause-hands c = let p = c.requires in can_hand_as _ (sym (leads_all p.code _ _ p.nodes c.if-k-eq1.true)) refl p.hands

pub returns-then-k-eq1 : goal.returns-then-k-eq1
returns-then-k-eq1 c code edges nodes = handed_as _ _ (leads_all code _ _ nodes c.if-k-eq1.true) refl c.hand_all.ensures

use Rattle.std.proofs.Common.{sym, ◌∙◌, true, false}
use Rattle.livevar_transform.specs.PlanLaws.{fate_behind, fate_dead, fate_kept}
use Rattle.livevar_transform.proofs.plan.Here.fate.Goals as goal

pub returns-then-behind : goal.returns-then-behind
returns-then-behind c = fate_behind _ _ _ (sym c.requires ∙ c.if-behind.true)

pub returns-then-is_dead : goal.returns-then-is_dead
returns-then-is_dead c = fate_dead _ _ _ (sym c.is_dead.ensures ∙ c.if-is_dead.true)

pub returns-then-is_merged : goal.returns-then-is_merged
returns-then-is_merged c = fate_kept _ _ _ true (sym c.requires ∙ c.if-behind.false) (sym c.is_dead.ensures ∙ c.if-is_dead.false) (sym c.is_merged.ensures ∙ c.if-is_merged.true)

pub returns : goal.returns
returns c = fate_kept _ _ _ false (sym c.requires ∙ c.if-behind.false) (sym c.is_dead.ensures ∙ c.if-is_dead.false) (sym c.is_merged.ensures ∙ c.if-is_merged.false)

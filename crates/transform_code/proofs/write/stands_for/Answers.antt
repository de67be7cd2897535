use Rattle.std.proofs.Common.{sym, ◌∙◌, eqb-true, true≢false, eq-eqb}
use Rattle.livevar_transform.specs.PlanLaws.{merged_as, merged_fate}
use Rattle.livevar_transform.specs.NewCodeLaws.{stands_branch, stands_merged, stands_plain}
use Rattle.transform_code.proofs.write.stands_for.Goals as goal

pub returns-then-is : goal.returns-then-is
returns-then-is c = c.aim.ensures ∙ stands_branch _ _ _ _ _ _ c.instruction-r.ensures (eqb-true _ _ (sym c.is.ensures ∙ c.if-is.true))

pub instruction-a-requires : goal.instruction-a-requires
instruction-a-requires c = c.args.turn.plan.merged.each c.args.turn.k c.args.turn.inside (merged_fate _ (merged_as _ c.eq.ensures c.if-eq.true))

pub returns-then-eq : goal.returns-then-eq
returns-then-eq c =
    c.with_dsts.ensures
    ∙ stands_merged _ _ _ _ _ _ c.instruction-r.ensures _ (merged_as _ c.eq.ensures c.if-eq.true) (λ b. true≢false (sym (eq-eqb _ _ b) ∙ sym c.is.ensures ∙ c.if-is.false)) c.instruction-a.ensures

pub returns : goal.returns
returns c = stands_plain _ _ _ _ _ _ c.instruction-r.ensures (merged_as _ c.eq.ensures c.if-eq.false) (λ b. true≢false (sym (eq-eqb _ _ b) ∙ sym c.is.ensures ∙ c.if-is.false))

use Rattle.std.proofs.Common.{sym, ap, ◌∙◌, not, arith}
use Rattle.livevar_transform.specs.PlanLaws.{same_dropped}
use Rattle.livevar_transform.specs.NumberLaws.{numbers_first, numbers_small, numbers_both, kept_none, not_true, not_false, kept_more, kept_same}
use Rattle.livevar_transform.proofs.plan.count.Goals as goal
use Rattle.livevar_transform.proofs.plan.count.Goals.{then-ne, else-ne}

pub loop-k-init : goal.loop-k-init
loop-k-init c = (omega arith, kept_none c.args.fates.now, numbers_first _ _)

pub past_both-next-requires-clause-below : goal.past_both-next-requires-clause-below
past_both-next-requires-clause-below c = numbers_small _ _ _ _ c.requires.low (omega (arith, c.requires.few)) c.loop-k.invariant.2

pub loop-k-preserved : goal.loop-k-preserved
loop-k-preserved c =
    let l = c.loop-k in
    let fates = c.args.fates.now in
    let test = c.ne.ensures ∙ ap not (same_dropped _) in (
      elim c.if-ne.branch [ then-ne w ↦ omega arith | else-ne w ↦ omega arith ],
      elim c.if-ne.branch [ then-ne w ↦ w.kept-is ∙ kept_more fates _ _ l.invariant.1 (not_true (sym test ∙ w.if-ne.true)) | else-ne w ↦ w.kept-is ∙ kept_same fates _ _ l.invariant.1 (not_false (sym test ∙ w.if-ne.false)) ],
      numbers_both _ _ _ _ _ l.invariant.2 c.past_both-next.ensures,
    )

use Rattle.std.proofs.Common.{arith, ap, ◌∙◌}
use Rattle.dataflow_domains.specs.Sets.{mask}
use Rattle.borrow_analysis.specs.UpwardLaws.{added_none, added_more, added_same, added_all}
use Rattle.borrow_info.proofs.upward.parents_in.Goals as goal
use Rattle.borrow_info.proofs.upward.parents_in.Goals.{else-has, then-has}

pub loop-i-init : goal.loop-i-init
loop-i-init c = added_none _ _ _

pub loop-i-preserved : goal.loop-i-preserved
loop-i-preserved c =
    let so = c.loop-i.invariant in
    elim c.if-has.branch [ then-has w ↦ added_more _ _ _ (omega arith) so c.child_at.ensures.value c.has.ensures w.if-has.true w.parent_at.ensures.value (ap mask w.grown-is ∙ w.insert-grown.ensures) | else-has w ↦ added_same _ _ _ (omega arith) so c.child_at.ensures.value c.has.ensures w.if-has.false (ap mask w.grown-is) ]

pub returns : goal.returns
returns c = added_all _ _ _ c.loop-i.i _ (omega arith) c.loop-i.invariant

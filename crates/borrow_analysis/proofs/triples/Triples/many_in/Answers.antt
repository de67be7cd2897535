use Rattle.std.proofs.Common.{arith, ap, ◌∙◌}
use Rattle.dataflow_domains.specs.Sets.{mask}
use Rattle.borrow_analysis.specs.TripleLaws.{counted_none, counted_more, counted_new, counted_all}
use Rattle.borrow_analysis.proofs.triples.Triples.many_in.Goals as goal
use Rattle.borrow_analysis.proofs.triples.Triples.many_in.Goals.{else-again, then-again}

pub loop-i-init : goal.loop-i-init
loop-i-init c = rw (c.empty-once.ensures, c.empty-many.ensures) (counted_none _)

pub loop-i-preserved : goal.loop-i-preserved
loop-i-preserved c =
    let w = c.loop-i.invariant in
    let child = c.child_at-child.ensures.value in
    let test = c.has-again.ensures in
    elim c.if-again.branch [
      | then-again t ↦ counted_more _ w child test c.insert-once.ensures t.if-again.true (ap mask t.many-is ∙ t.insert-many.ensures)
      | else-again t ↦ counted_new _ w child test c.insert-once.ensures t.if-again.false (ap mask t.many-is)
    ]

pub returns : goal.returns
returns c = counted_all _ (omega arith) c.loop-i.invariant

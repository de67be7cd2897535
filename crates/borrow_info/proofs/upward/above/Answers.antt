use Rattle.std.proofs.Common.{sym, ap, ◌∙◌, ◌+◌, ◌-◌, eqb-true}
use Rattle.borrow_analysis.specs.Graph.{triples_of}
use Rattle.borrow_analysis.specs.Borrows.{upward}
use Rattle.borrow_analysis.specs.UpwardLaws.{upward_fixed, upward_more, upward_end}
use Rattle.borrow_info.proofs.upward.above.Goals as goal

pub returns-then-same : goal.returns-then-same
returns-then-same c = sym (c.loop.invariant ∙ upward_fixed _ _ _ (sym c.parents_in-grown.ensures ∙ eqb-true _ _ (sym c.same.ensures ∙ c.if-same.true)))

pub loop-preserved : goal.loop-preserved
loop-preserved c =
    let a = c.args in
    c.loop.invariant ∙ upward_more _ _ _ _ c.loop-test.true ∙ ap (upward (a.times - (c.loop.counter + 1)) (triples_of a.triples.numbers.now)) (sym c.parents_in-grown.ensures)

pub returns : goal.returns
returns c = sym (c.loop.invariant ∙ upward_end _ _ _ _ c.loop-test.false)

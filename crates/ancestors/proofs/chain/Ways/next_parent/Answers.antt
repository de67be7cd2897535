use Rattle.std.proofs.Common.{sym, ap, ◌∙◌, arith}
use Rattle.ancestors.specs.Ancestors.{passed_over}
use Rattle.ancestors.specs.ChainLaws.{next_of}
use Rattle.ancestors.proofs.WalkingLaws.{scans_more, scans_end}
use Rattle.ancestors.proofs.chain.Ways.next_parent.Goals as goal

pub loop-i-preserved : goal.loop-i-preserved
loop-i-preserved c =
    scans_more c.loop-i.invariant (omega arith) (ap (passed_over _ _) (sym c.parent_at.ensures.value) ∙ sym c.passes_over.ensures ∙ c.if-not-passes_over.false)
    (next_of _ c.args.self.chained (omega arith)) c.from-i.ensures

pub returns-clause-none : goal.returns-clause-none
returns-clause-none c = scans_end c.loop-i.invariant (omega arith)

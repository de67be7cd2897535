use Rattle.std.proofs.lemmas.List.{length-replicate}
use Rattle.std.proofs.Common.{false, true, length-set, arith, sym, ap, ◌∙◌}
use Rattle.base.specs.Sizes.{max_instructions}
use Rattle.base.specs.ListLaws.{copies_at}
use Rattle.std.specs.Option.{is_some}
use Rattle.pages.specs.UnnamedLaws.{marks_none, mark_inside, mark_put, mark_skip, mark_end}
use Rattle.page_tables.proofs.labels.mark_named.Goals.{then-is_some, else-is_some}
use Rattle.page_tables.proofs.labels.mark_named.Goals as goal

pub loop-e-init : goal.loop-e-init
loop-e-init c = (marks_none _ _ _ (λ o. copies_at max_instructions o false), length-replicate max_instructions false)

pub bounds-marks-from : goal.bounds-marks-from
bounds-marks-from c =
    let r = c.instruction in
    let some = ap is_some (sym c.name.ensures) ∙ sym c.is_some.ensures ∙ c.if-is_some.true in
    omega (arith, mark_inside c.args.sheet c.loop-e.e (omega arith) r.result r.ensures some, c.loop-e.invariant.1)

pub loop-e-preserved : goal.loop-e-preserved
loop-e-preserved c =
    let r = c.instruction in
    let told = ap is_some (sym c.name.ensures) ∙ sym c.is_some.ensures in
    elim c.if-is_some.branch [
      | then-is_some w ↦ rw (w.marks-is, w.from.ensures) (mark_put c.args.sheet c.loop-e.e (omega arith) r.result r.ensures c.loop-e.invariant.0 (told ∙ w.if-is_some.true) (omega (arith, c.loop-e.invariant.1)), length-set c.loop-e.marks _ true ∙ c.loop-e.invariant.1)
      | else-is_some w ↦ rw w.marks-is (mark_skip c.args.sheet c.loop-e.e (omega arith) r.result r.ensures c.loop-e.invariant.0 (told ∙ w.if-is_some.false), c.loop-e.invariant.1)
    ]

pub returns : goal.returns
returns c = mark_end c.args.sheet (omega arith) c.loop-e.invariant.0

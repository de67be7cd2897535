use Rattle.std.proofs.Common.{Err, ◌≡◌, rules, sym, ◌∙◌, arith}
use Rattle.sheet.specs.Layout.{code_of}
use Rattle.livevar_transform.specs.NumberLaws.{fitting, counts_small, length_is, written_is}
use Rattle.livevar_transform.specs.RewriteWorkLaws.{refs_is, answers_refused, answers_sheet}
use Rattle.rewrite.proofs.rewrite.rewrite_sheet.Goals as goal

pub overflow_sub-m : goal.overflow_sub-m
overflow_sub-m c = let p = c.plan-plan.result in omega (arith, (written_is (code_of p.sheet.bytes.now) _ _ _ _ c.count-counts.ensures.next).0)

pub overflow_add-m : goal.overflow_add-m
overflow_add-m c = let s = counts_small c.plan-plan.result.sheet.few c.first_numbers-first.ensures.low c.count-counts.ensures in omega (arith, s.0, s.1.attr)

pub invariant_of-write_new-clause-fits : goal.invariant_of-write_new-clause-fits
invariant_of-write_new-clause-fits c = fitting _ _ _ _ c.count-counts.ensures.next (sym c.numbers_fit.ensures ∙ c.in_ok-check_new.ensures.fits)

pub write_new-requires-clause-long : goal.write_new-requires-clause-long
write_new-requires-clause-long c = let n = c.count-counts.ensures in length_is _ _ _ _ _ _ _ n.kept n.next

pub returns-in_err-check_new : goal.returns-in_err-check_new
returns-in_err-check_new c =
    let live = c.args.live in
    let first = rw c.plan-plan.ensures.bytes at c.first_numbers-first.ensures in
    let told : c.from_residual.result ≡ Err c.in_err-check_new.field-0.0 = search rules in
    rw (told) (answers_refused {c = c.count-counts.result} (record { ready = live.ready; sets = c.requires.sets }) (refs_is _ _ c.set_in-refs.ensures) c.plan-plan.ensures.planned first.label first.attr (rw (← c.plan-plan.ensures.count) c.count-counts.ensures) _ c.numbers_fit.ensures _ _ (sym c.in_err-check_new.was ∙ c.check_new.ensures.checked))

pub returns : goal.returns
returns c =
    let live = c.args.live in
    let first = rw c.plan-plan.ensures.bytes at c.first_numbers-first.ensures in
    answers_sheet {c = c.count-counts.result} (record { ready = live.ready; sets = c.requires.sets }) (refs_is _ _ c.set_in-refs.ensures) c.plan-plan.ensures.planned first.label first.attr (rw (← c.plan-plan.ensures.count) c.count-counts.ensures) _ c.numbers_fit.ensures _ _ _
    (sym c.check_new.ensures.checked ∙ c.in_ok-check_new.was) (rw (← c.plan-plan.ensures.bytes, ← c.plan-plan.ensures.count) c.write_new.ensures)

use Rattle.std.proofs.Common.{refl, ap, ℕ, map, ◌*◌, ◌-◌, rules, arith}
use Rattle.base.specs.Sizes.{record_bytes}
use Rattle.dataflow_domains.specs.Sets.{mask}
use Rattle.sheet.specs.Layout.{code_of}
use Rattle.sheet_writer.specs.RecordsLaws.{tail_room}
use Rattle.livevar_transform.specs.Rewrite.{block_size}
use Rattle.livevar_transform.specs.Plan.{lost_at}
use Rattle.livevar_transform.specs.NumberLaws.{numbers_first, numbers_small, numbers_next, written_is, block_place, block_fits}
use Rattle.livevar_transform.specs.NewCodeLaws.{pieces_none, added_pieces}
use Rattle.transform_code.proofs.write.put_all_blocks.Goals as goal

pub loop-e-init : goal.loop-e-init
loop-e-init c = (refl, pieces_none _ _, numbers_first _ _)

pub overflow_sub-at : goal.overflow_sub-at
overflow_sub-at c = let a = c.args in let l = c.loop-e in let w = written_is (code_of a.numbered.plan.sheet.bytes.now) _ _ _ _ l.invariant.2 in omega (arith, w.0)

pub slice_bounds-put_edge-count : goal.slice_bounds-put_edge-count
slice_bounds-put_edge-count c =
    let a = c.args in let l = c.loop-e in let b = block_place (code_of a.numbered.plan.sheet.bytes.now) _ _ a.numbered.plan.sheet.count _ _ (omega arith) l.invariant.2 in omega (arith, b, c.requires, l.invariant.0)

pub slice_bounds-put_edge-start : goal.slice_bounds-put_edge-start
slice_bounds-put_edge-start c =
    let a = c.args in let l = c.loop-e in let b = block_place (code_of a.numbered.plan.sheet.bytes.now) _ _ a.numbered.plan.sheet.count _ _ (omega arith) l.invariant.2 in omega (arith, b, c.requires, l.invariant.0)

pub put_edge-next-requires-clause-below : goal.put_edge-next-requires-clause-below
put_edge-next-requires-clause-below c = numbers_small _ _ _ _ c.args.numbered.low (omega (arith, c.args.numbered.plan.sheet.few)) c.loop-e.invariant.2

pub put_edge-next-requires-clause-fits : goal.put_edge-next-requires-clause-fits
put_edge-next-requires-clause-fits c =
    let a = c.args in
    let l = c.loop-e in
    let lost = map mask a.numbered.plan.lost.now in
    let b = block_place (code_of a.numbered.plan.sheet.bytes.now) _ _ a.numbered.plan.sheet.count _ _ (omega arith) l.invariant.2 in
    block_fits (code_of a.numbered.plan.sheet.bytes.now) _ _ _ _ _ _ c.args.numbered.fits (omega arith) l.invariant.2
    (tail_room l.out (record_bytes * (l.next.attr - a.numbered.first.attr)) (record_bytes * block_size (lost_at lost l.e)) (omega (arith, b, c.requires, l.invariant.0)))

pub loop-e-preserved : goal.loop-e-preserved
loop-e-preserved c =
    let l = c.loop-e in
    let w = written_is (code_of c.args.numbered.plan.sheet.bytes.now) _ _ _ _ l.invariant.2 in
    (search rules, added_pieces _ _ _ _ _ _ _ _ _ l.invariant.2 l.invariant.1 (ap (λ (x : ℕ). record_bytes * x) w.1) c.put_edge-next.ensures.written, numbers_next _ _ _ _ _ l.invariant.2 c.put_edge-next.ensures.next)

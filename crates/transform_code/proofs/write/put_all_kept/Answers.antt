use Rattle.std.proofs.Common.{refl, ap, ℕ, ◌*◌, length-drop, rules, arith}
use Rattle.base.specs.Sizes.{record_bytes}
use Rattle.sheet_writer.specs.RecordsLaws.{tail_is}
use Rattle.livevar_transform.specs.NumberLaws.{numbers_first, numbers_small, numbers_both, labels_fit}
use Rattle.livevar_transform.specs.NewCodeLaws.{joins_none, pieces_none, kept_pieces, kept_long}
use Rattle.transform_code.proofs.write.put_all_kept.Goals as goal

pub loop-k-init : goal.loop-k-init
loop-k-init c = (omega arith, refl, joins_none _, pieces_none _ _, numbers_first _ _)

pub invariant_of-put_kept-clause-below : goal.invariant_of-put_kept-clause-below
invariant_of-put_kept-clause-below c = numbers_small _ _ _ _ c.args.numbered.low (omega (arith, c.args.numbered.plan.sheet.few)) c.loop-k.invariant.4

pub invariant_of-put_kept-clause-labels : goal.invariant_of-put_kept-clause-labels
invariant_of-put_kept-clause-labels c = labels_fit _ _ _ _ _ c.args.numbered.fits (omega arith) c.loop-k.invariant.4

pub put_kept-m-requires : goal.put_kept-m-requires
put_kept-m-requires c = rw (tail_is) (omega (arith, c.args.numbered.plan.sheet.few, length-drop (record_bytes * c.loop-k.m) c.loop-k.out))

pub past_both-next-requires-clause-below : goal.past_both-next-requires-clause-below
past_both-next-requires-clause-below c = numbers_small _ _ _ _ c.args.numbered.low (omega (arith, c.args.numbered.plan.sheet.few)) c.loop-k.invariant.4

pub loop-k-preserved : goal.loop-k-preserved
loop-k-preserved c =
    let l = c.loop-k in
    let k = c.put_kept-m in (
      omega (arith, k.ensures.low),
      search rules,
      kept_long _ _ _ _ _ _ _ _ l.invariant.4 l.invariant.2 k.ensures.long,
      kept_pieces _ _ _ _ _ _ _ _ _ _ l.invariant.4 l.invariant.3 (ap (λ (x : ℕ). record_bytes * x) l.invariant.2) k.ensures.written,
      numbers_both _ _ _ _ _ l.invariant.4 c.past_both-next.ensures,
    )

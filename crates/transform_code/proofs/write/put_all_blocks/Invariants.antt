use Rattle.std.proofs.Common.{◌≡◌, length, map}
use Rattle.base.specs.Lists.{joins}
use Rattle.dataflow_domains.specs.Sets.{mask}
use Rattle.sheet.specs.Layout.{code_of}
use Rattle.sheet_writer.specs.Written.{placed}
use Rattle.livevar_transform.specs.Plan.{numbers_at, added_by}
use Rattle.transform_code.proofs.write.put_all_blocks.Given as goal

abbrev pub invariant-loop-e : goal.invariant-loop-e
invariant-loop-e l =
    let p = l.plan in
    let lost = map mask p.lost.now in
    (length l.out ≡ length l.initial.out) × (l.out ≡ placed (joins l.e (added_by (code_of p.sheet.bytes.now) lost l.first)) l.initial.out) × (l.next ≡ numbers_at l.first lost l.e)

use Rattle.std.proofs.Common.{◌≡◌, ◌*◌, ◌≤◌, length, map}
use Rattle.base.specs.Lists.{joins}
use Rattle.dataflow_domains.specs.Sets.{mask}
use Rattle.sheet.specs.Layout.{code_of}
use Rattle.sheet_writer.specs.Written.{placed}
use Rattle.livevar_transform.specs.Plan.{numbers_at, kept_by}
use Rattle.transform_code.proofs.write.put_all_kept.Given as goal

abbrev pub invariant-loop-k : goal.invariant-loop-k
invariant-loop-k l =
    let p = l.plan in
    let kept = kept_by (code_of p.sheet.bytes.now) p.fates.now (map mask p.lost.now) l.initial.next in
    (l.m ≤ l.k) × (length l.out ≡ length l.initial.out) × (l.m ≡ length (joins l.k kept)) × (l.out ≡ placed (joins l.k kept) l.initial.out) × (l.next ≡ numbers_at l.initial.next (map mask p.lost.now) (2 * l.k))

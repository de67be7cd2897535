use Rattle.std.proofs.Common.{◌≡◌, length}
use Rattle.base.specs.Sizes.{max_locals}
use Rattle.dataflow_domains.specs.Sets.{mask}
use Rattle.dataflow_domains.specs.Members.{members}
use Rattle.livevar_transform.specs.NewCodeLaws.{DestroysPut}
use Rattle.transform_code.proofs.write.put_destroys.Given as goal

abbrev pub invariant-loop-local : goal.invariant-loop-local
invariant-loop-local l = DestroysPut (members max_locals (mask l.initial.left)) l.first l.initial.out (mask l.left) l.i l.out × (length l.out ≡ length l.initial.out)

abbrev pub decreases-loop-local : goal.decreases-loop-local
decreases-loop-local l = mask l.left

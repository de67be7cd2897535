use Rattle.std.proofs.Common.{◌≡◌, ◌≤◌, ◌*◌, not, map}
use Rattle.base.specs.Lists.{count}
use Rattle.dataflow_domains.specs.Sets.{mask}
use Rattle.livevar_transform.specs.Plan.{fate_at, goes, numbers_at}
use Rattle.livevar_transform.proofs.plan.count.Given as goal

abbrev pub invariant-loop-k : goal.invariant-loop-k
invariant-loop-k l =
    (l.kept ≤ l.k) × (l.kept ≡ count l.k (λ j. not (goes (fate_at l.fates j)))) × (l.next ≡ numbers_at l.initial.next (map mask l.lost) (2 * l.k))

use Rattle.std.proofs.Common.{◌≡◌, ◌≤◌, ◌*◌, length, map}
use Rattle.dataflow_domains.specs.Sets.{mask}
use Rattle.sheet.specs.Layout.{code_of}
use Rattle.livevar_analysis.specs.Analysis.{infos_of}
use Rattle.livevar_transform.specs.Plan.{is_behind, Planned}
use Rattle.livevar_transform.proofs.plan.fill_plan.Given as goal

abbrev pub invariant-loop-k : goal.invariant-loop-k
invariant-loop-k l =
    (l.behind ≡ is_behind (code_of l.live.sheet.bytes.now) (infos_of l.live.sheet.count l.live.info.now) l.k)
    × Planned (code_of l.live.sheet.bytes.now) (infos_of l.live.sheet.count l.live.info.now) (mask l.refs) l.fates (map mask l.lost) l.k
    × (l.live.sheet.count ≤ length l.fates)
    × (2 * l.live.sheet.count ≤ length l.lost)

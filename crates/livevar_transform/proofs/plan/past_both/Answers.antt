use Rattle.std.proofs.Common.{refl, map, ◌*◌, ◌+◌}
use Rattle.dataflow_domains.specs.Sets.{mask}
use Rattle.dataflow_domains.specs.SetLaws.{mask_in}
use Rattle.livevar_transform.specs.NumberLaws.{past_below, past_two}
use Rattle.livevar_transform.proofs.plan.past_both.Goals as goal

pub past-requires-2 : goal.past-requires-2
past-requires-2 c = past_below _ _ _ c.requires.below c.past.ensures

pub returns : goal.returns
returns c = let lost = c.args.lost.now in let k = c.args.k in past_two (map mask lost) k _ _ _ _ _ c.past.ensures c.past-2.ensures (mask_in lost (2 * k) _ refl) (mask_in lost (2 * k + 1) _ refl)

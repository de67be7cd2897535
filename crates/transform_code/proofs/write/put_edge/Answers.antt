use Rattle.std.proofs.Common.{sym, map, ◌∙◌, eqb-true, rules}
use Rattle.std.proofs.lemmas.Bool.{eqb-false}
use Rattle.dataflow_domains.specs.Sets.{mask}
use Rattle.dataflow_domains.specs.SetLaws.{array, mask_small}
use Rattle.livevar_transform.specs.NumberLaws.{past_as, block_room}
use Rattle.livevar_transform.specs.NewCodeLaws.{block_on_lem, block_none}
use Rattle.transform_code.proofs.write.put_edge.Goals as goal

pub returns-then-is_empty : goal.returns-then-is_empty
returns-then-is_empty c = record {
  next = past_as (map mask c.args.plan.lost.now) c.args.e _ _ c.lost-gone.ensures _ c.past.ensures;
  written = block_none _ _ _ _ _ c.lost-gone.ensures _ (eqb-true _ 0 (sym c.is_empty.ensures ∙ c.if-is_empty.true));
}

pub put_block-requires : goal.put_block-requires
put_block-requires c =
    block_room (map mask c.args.plan.lost.now) c.args.e _ _ c.lost-gone.ensures _ (eqb-false _ 0 (sym c.is_empty.ensures ∙ c.if-is_empty.false)) (mask_small c.lost-gone.result (search (rules, array))) c.requires.fits

pub returns : goal.returns
returns c = record {
  next = past_as (map mask c.args.plan.lost.now) c.args.e _ _ c.lost-gone.ensures _ c.past-2.ensures;
  written = block_on_lem _ _ _ _ _ c.lost-gone.ensures _ _ _ c.target_of-target.ensures c.put_block.ensures;
}

use Rattle.std.proofs.Common.{refl, sym, ◌∙◌, eqb-true, arith, rules}
use Rattle.std.proofs.lemmas.Bool.{eqb-false}
use Rattle.base.specs.Sizes.{max_locals}
use Rattle.dataflow_domains.specs.MaskLaws.{ones_bound}
use Rattle.dataflow_domains.specs.SetLaws.{array, mask_small}
use Rattle.livevar_transform.specs.NumberLaws.{past_none, past_some}
use Rattle.livevar_transform.proofs.plan.Next.past.Goals as goal

pub returns-then-is_empty : goal.returns-then-is_empty
returns-then-is_empty c = past_none _ _ (eqb-true _ 0 (sym c.is_empty.ensures ∙ c.if-is_empty.true))

pub overflow_add-result-2 : goal.overflow_add-result-2
overflow_add-result-2 c =
    omega (arith, c.requires.attr, c.ones.ensures, ones_bound max_locals _ (mask_small c.args.lost (search (rules, array))))

pub overflow_add-result-3 : goal.overflow_add-result-3
overflow_add-result-3 c =
    omega (arith, c.requires.attr, c.ones.ensures, ones_bound max_locals _ (mask_small c.args.lost (search (rules, array))))

pub returns : goal.returns
returns c = let m = mask_small c.args.lost (search (rules, array)) in past_some _ _ _ _ _ (eqb-false _ 0 (sym c.is_empty.ensures ∙ c.if-is_empty.false)) m c.ones.ensures refl refl

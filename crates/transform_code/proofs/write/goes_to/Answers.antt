use Rattle.std.proofs.Common.{sym, ◌∙◌, eqb-true, rules, arith}
use Rattle.std.proofs.lemmas.Bool.{eqb-false}
use Rattle.dataflow_domains.specs.SetLaws.{array, mask_small}
use Rattle.livevar_transform.specs.NumberLaws.{some_lost}
use Rattle.livevar_transform.specs.NewCodeLaws.{goes_old, goes_new}
use Rattle.transform_code.proofs.write.goes_to.Goals as goal

pub returns-then-is_empty : goal.returns-then-is_empty
returns-then-is_empty c = goes_old _ _ _ (eqb-true _ 0 (sym c.is_empty.ensures ∙ c.if-is_empty.true))

pub overflow_cast-result : goal.overflow_cast-result
overflow_cast-result c =
    omega (arith, c.requires (some_lost _ (eqb-false _ 0 (sym c.is_empty.ensures ∙ c.if-is_empty.false)) (mask_small c.args.lost (search (rules, array)))))

pub returns : goal.returns
returns c =
    goes_new _ _ _ (eqb-false _ 0 (sym c.is_empty.ensures ∙ c.if-is_empty.false)) (mask_small c.args.lost (search (rules, array)))

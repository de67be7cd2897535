use Rattle.std.proofs.Common.{rules}
use Rattle.dataflow_domains.specs.Mask.{union}
use Rattle.dataflow_domains.specs.Sets.{mask}
use Rattle.dataflow_domains.specs.SetLaws.{array, union_words}
use Rattle.dataflow_domains.proofs.LiveVarState.union.Goals as goal

pub returns : goal.returns
unfolding mask union
returns c = union_words _ _ _ (search (rules, array)) (search (rules, array)) (search (rules, array)) (λ j h. search (rules, c.by_words.ensures j h))

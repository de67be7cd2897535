use Rattle.std.proofs.Common.{rules}
use Rattle.dataflow_domains.specs.Mask.{minus}
use Rattle.dataflow_domains.specs.Sets.{mask}
use Rattle.dataflow_domains.specs.SetLaws.{array, minus_words}
use Rattle.dataflow_domains.proofs.LiveVarState.without.Goals as goal

pub returns : goal.returns
unfolding mask minus
returns c = minus_words _ _ _ (search (rules, array)) (search (rules, array)) (search (rules, array)) (λ j h. search (rules, c.by_words.ensures j h))

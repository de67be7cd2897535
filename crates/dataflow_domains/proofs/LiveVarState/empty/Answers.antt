use Rattle.dataflow_domains.specs.Sets.{mask}
use Rattle.base.specs.Sizes.{set_words}
use Rattle.dataflow_domains.specs.WordLaws.{mask_zeros}
use Rattle.dataflow_domains.proofs.LiveVarState.empty.Goals as goal

pub returns : goal.returns
unfolding mask
returns c = mask_zeros 64 set_words

use Rattle.std.proofs.Common.{◌≡◌, sym, ◌∙◌, rules, arith}
use Rattle.std.proofs.lemmas.Iterator.Adapters.{fits_from_length, at_most_from_yields_List}
use Rattle.std.proofs.lemmas.Iterator.{YieldsList-from_slice}
use Rattle.base.specs.Sizes.{set_words}
use Rattle.dataflow_domains.specs.Sets.{mask}
use Rattle.dataflow_domains.specs.SetLaws.{Array, array}
use Rattle.dataflow_domains.specs.Words.{ones_of}
use Rattle.dataflow_domains.specs.WordLaws.{mask_ones}
use Rattle.dataflow_domains.proofs.LiveVarState.ones.Goals as goal

pub sum-requires-clause-fits : goal.sum-requires-clause-fits
sum-requires-clause-fits c =
    fits_from_length _ _ set_words _ (at_most_from_yields_List (YieldsList-from_slice c.args.self.livevars (search rules)) (search rules)) c.map.ensures.closure (omega arith) (λ x r q k. search rules)

pub returns : goal.returns
unfolding mask
returns c =
    let known : Array c.args.self.livevars = search (rules, array) in
    let all : c.sum.result ≡ ones_of c.args.self.livevars = search rules in
    all ∙ sym (mask_ones 64 c.args.self.livevars known.words)

use Rattle.std.proofs.Common.{rules}
use Rattle.std.proofs.lemmas.Slice.Eq.{slice_eq-Decides}
use Rattle.std.proofs.lemmas.Bool.Decides.{Decides-eqb}
use Rattle.dataflow_domains.specs.Sets.{mask}
use Rattle.dataflow_domains.specs.SetLaws.{array, same_by}
use Rattle.dataflow_domains.proofs.LiveVarState.same.Goals as goal

pub returns : goal.returns
unfolding mask
returns c = same_by _ _ _ (search (rules, array)) (search (rules, array)) (slice_eq-Decides Decides-eqb _ _ _ c.eq.ensures)

use Rattle.std.proofs.Common.{sym, ap, ◌∙◌, Bool, cond, map, get_or}
use Rattle.dataflow_domains.specs.Sets.{mask}
use Rattle.dataflow_domains.specs.SetLaws.{mask_in}
use Rattle.livevar_analysis.specs.Output.{after_by}
use Rattle.livevar_output.proofs.output.after_of.Goals as goal

pub returns-then-ends : goal.returns-then-ends
unfolding after_by
returns-then-ends c =
    let s = c.args in
    mask_in s.sets.now _ _ c.from.ensures
    ∙ sym (ap (λ (b : Bool). cond b (get_or (map mask s.sets.now) (get_or s.keys.now s.k 0) 0) (mask s.m)) (sym c.ends.ensures ∙ c.if-ends.true))

pub returns : goal.returns
unfolding after_by
returns c =
    let s = c.args in
    sym (ap (λ (b : Bool). cond b (get_or (map mask s.sets.now) (get_or s.keys.now s.k 0) 0) (mask s.m)) (sym c.ends.ensures ∙ c.if-ends.false))

use Rattle.std.proofs.Common.{sym, ◌∙◌, inl, inr}
use Rattle.livevar_analysis.specs.EngineLaws.{rule_kept, rule_done}
use Rattle.livevar_analysis.proofs.rules.Rule.apply.Goals as goal
use Rattle.livevar_analysis.proofs.rules.Rule.apply.Goals.{else-self-via-then-self+else-same, else-self-via-else-self}

pub returns-then-same : goal.returns-then-same
returns-then-same c = rule_kept c.args.self _ _ c.without-rest.ensures c.if-self.true (sym c.same.ensures ∙ c.if-same.true)

pub returns : goal.returns
returns c =
    c.union.ensures
    ∙ rule_done c.args.self _ _ c.without-rest.ensures (elim c.else-self.branch [ else-self-via-then-self+else-same w ↦ inr (sym w.same.ensures ∙ w.if-same.false) | else-self-via-else-self w ↦ inl w.if-self.false ])

use Rattle.std.proofs.Common.{sym, ◌∙◌, arith}
use Rattle.livevar_transform.specs.PlanLaws.{one_low, merged_call, merged_single, merged_last, merged_assign, merged_from, merged_is}
use Rattle.livevar_transform.proofs.plan.Here.is_merged.Goals as goal

pub returns-then-not-is : goal.returns-then-not-is
returns-then-not-is c = merged_call _ _ _ _ _ c.args.self.here (sym c.is.ensures ∙ c.if-not-is.true)

pub returns-then-self-ne1 : goal.returns-then-self-ne1
returns-then-self-ne1 c = merged_single _ _ _ _ _ c.args.self.here c.if-self-ne1.true

pub returns-then-self : goal.returns-then-self
returns-then-self c = merged_last _ _ _ _ _ c.args.self.here (omega (arith, c.args.self.live.sheet.size, c.if-self.true))

pub returns-then-not-is-2 : goal.returns-then-not-is-2
returns-then-not-is-2 c = merged_assign _ _ _ _ _ c.args.self.here c.instruction-a.ensures (sym c.is-2.ensures ∙ c.if-not-is-2.true)

pub returns-then-a-self : goal.returns-then-a-self
returns-then-a-self c = merged_from _ _ _ _ _ c.args.self.here c.instruction-a.ensures c.if-a-self.true

pub has-requires : goal.has-requires
has-requires c = let h = c.args.self in one_low h.live.ready.known _ _ h.inside h.here c.if-self-ne1.false

pub returns : goal.returns
returns c =
    merged_is _ _ _ _ _ c.args.self.here c.instruction-a.ensures _ c.if-self.false (sym c.is.ensures ∙ c.if-not-is.false) c.if-self-ne1.false (sym c.is-2.ensures ∙ c.if-not-is-2.false) c.if-a-self.false
    c.after.ensures c.has.ensures

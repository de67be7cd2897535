use Rattle.std.proofs.Common.{sym, ap₂, ◌∙◌, ◌||◌}
use Rattle.livevar_transform.specs.PlanLaws.{dst_inside, dead_is, dead_none}
use Rattle.livevar_transform.proofs.plan.Here.is_dead.Goals as goal

pub has-requires : goal.has-requires
has-requires c =
    let h = c.args.self in
    dst_inside h.live.ready.known _ _ h.inside h.here (sym (ap₂ ◌||◌ c.is.ensures c.is-2.ensures) ∙ c.if-sets_one.true)

pub returns-then-sets_one : goal.returns-then-sets_one
returns-then-sets_one c = dead_is _ _ _ _ _ c.args.self.here _ c.args.self.inside (sym (ap₂ ◌||◌ c.is.ensures c.is-2.ensures) ∙ c.if-sets_one.true) c.after.ensures c.has.ensures

pub returns-else-sets_one : goal.returns-else-sets_one
returns-else-sets_one c = c.if-sets_one.false ∙ dead_none _ _ _ _ _ c.args.self.here (sym (ap₂ ◌||◌ c.is.ensures c.is-2.ensures) ∙ c.if-sets_one.false)

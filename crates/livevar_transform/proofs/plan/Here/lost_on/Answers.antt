use Rattle.std.proofs.Common.{sym, ap, ◌∙◌, arith, eqb-true, true≢false, eq-eqb, subst, ◌*◌, ◌<◌, ℕ}
use Rattle.stackless_bytecode.specs.declared.Bytecode.{Bytecode}
use Rattle.stackless_bytecode.specs.Kinds.{at}
use Rattle.stackless_bytecode.specs.SlotLaws.{LabelsBelow}
use Rattle.sheet.specs.Layout.{code_of}
use Rattle.sheet.specs.LabelLaws.{code_below}
use Rattle.livevar_transform.specs.Plan.{sides_at}
use Rattle.livevar_transform.specs.LostLaws.{target_inside, lost_none, lost_some}
use Rattle.livevar_transform.proofs.plan.Here.lost_on.Goals as goal

pub returns-then-not-is : goal.returns-then-not-is
returns-then-not-is c = lost_none _ _ _ _ _ _ (λ b. true≢false (sym (eq-eqb _ _ b) ∙ sym c.is.ensures ∙ c.if-not-is.true)) c.empty.ensures

pub before-requires : goal.before-requires
before-requires c =
    let h = c.args.self in
    let sheet = h.live.sheet in
    let inside : c.args.e < 2 * sheet.count = omega (arith, c.requires, h.inside) in
    let below = subst (λ (r : Bytecode). LabelsBelow r) (sym h.here) (code_below sheet.shaped sheet.fits.each h.k h.inside) in
    omega (arith, c.from-target.ensures, target_inside h.live.ready c.args.e h.r inside (h.here ∙ ap (at (code_of sheet.bytes.now)) (sym c.requires)) below.one below.two (eqb-true _ _ (sym c.is.ensures ∙ c.if-not-is.false)))

pub returns : goal.returns
returns c =
    let live = c.args.self.live in
    lost_some _ _ _ _ _ _ _ _ _ (eqb-true _ _ (sym c.is.ensures ∙ c.if-not-is.false)) (c.after.ensures ∙ ap (λ (o : ℕ). (sides_at live.info.now o).after) (sym c.requires)) c.common.ensures
    (c.before-2.ensures ∙ ap (λ (o : ℕ). (sides_at live.info.now o).before) c.from-target.ensures) c.without.ensures

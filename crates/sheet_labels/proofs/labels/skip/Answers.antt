use Rattle.std.proofs.Common.{◌≡◌, sym, ◌∙◌, subst, ◌+◌, ◌-◌, ◌*◌, ℕ, arith}
use Rattle.sheet_labels.specs.Labelled.{Search}
use Rattle.sheet_labels.specs.NameLaws.{search_part}
use Rattle.sheet_labels.proofs.labels.skip.Goals as goal

pub loop-g-preserved : goal.loop-g-preserved
loop-g-preserved c =
    let l = c.loop-g in
    let n : 32 * l.g + 32 - 32 * l.g ≡ 32 = omega arith in
    let next : 32 * l.g + 32 ≡ 32 * (l.g + 1) = omega arith in
    subst (λ (j : ℕ). Search c.args.labels.now c.args.l j) next (search_part 32 l.invariant (omega arith) (rw n at (sym c.list_has.ensures ∙ c.if-list_has.false)))

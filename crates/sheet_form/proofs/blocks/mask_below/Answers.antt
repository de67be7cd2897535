use Rattle.std.proofs.Common.{sym, ap, ◌∙◌, ℕ, ◌+◌, ◌^◌, arith, rules, ltb, drop}
use Rattle.base.specs.Bytes.{number}
use Rattle.base.specs.ByteLaws.{below_more, below_stop, below_end}
use Rattle.sheet_form.proofs.blocks.mask_below.Goals as goal

pub returns-then-not-byte_below : goal.returns-then-not-byte_below
returns-then-not-byte_below c =
    let p = c.args.p.now in
    let i = c.loop-x.x-index in
    sym (c.loop-x.invariant ∙ below_stop p i c.loop-x.rest (search rules) (omega (arith, c.type_inv.p i)) (sym c.byte_below.ensures ∙ c.if-not-byte_below.true))

pub loop-x-preserved : goal.loop-x-preserved
loop-x-preserved c =
    let p = c.args.p.now in
    let i = c.loop-x.x-index in
    let more = below_more p i c.loop-x.rest (search rules) (omega (arith, c.type_inv.p i)) (sym c.byte_below.ensures ∙ c.if-not-byte_below.false) in
    c.loop-x.invariant ∙ more ∙ ap (λ (r : ℕ). ltb (number (drop (i + 1) p)) (2 ^ r)) (sym c.saturating_sub-rest.ensures)

pub returns : goal.returns
returns c = sym (c.loop-x.invariant ∙ below_end c.args.p.now c.loop-x.x-index c.loop-x.rest (omega arith))

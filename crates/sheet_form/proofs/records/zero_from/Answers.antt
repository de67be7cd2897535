use Rattle.std.proofs.Common.{ap, ◌∙◌, ℕ, ◌*◌, ◌/◌, ◌^◌, rules, eqb}
use Rattle.base.specs.ByteLaws.{zeros_shift, number_eight}
use Rattle.sheet_form.proofs.records.zero_from.Goals as goal

pub returns : goal.returns
returns c =
    let n = c.args.n in
    ap (λ (x : ℕ). eqb (x / 2 ^ (8 * n)) 0) (c.from_le_bytes.ensures ∙ number_eight c.args.list.now (search rules))
    ∙ zeros_shift n c.args.list.now (record { each = c.fits-list })

use Rattle.std.proofs.Common.{◌≡◌, sym, ap, ◌∙◌, ℕ, ◌-◌, ◌≤◌, get_or, arith}
use Rattle.dataflow_domains.specs.SetLaws.{mask_in}
use Rattle.livevar_analysis.specs.EngineLaws.{out_dummy, out_block}
use Rattle.livevar_engine.proofs.engine.out_of.Goals as goal

pub returns-then-key-lt2 : goal.returns-then-key-lt2
returns-then-key-lt2 c code sound t inside =
    mask_in c.args.list.now.sets.now c.from-key.result c.args.k c.from-key.ensures ∙ sym (out_dummy code _ _ _ (omega arith))

pub returns : goal.returns
returns c code sound t inside =
    let tables = c.args.tables.now in
    let block : 2 ≤ c.args.k = omega (arith, c.from-key.ensures, c.if-key-lt2.false) in
    let upper_is : c.from-upper.result ≡ get_or tables.upper_of_key.now (c.args.k - 2) 0 = c.from-upper.ensures ∙ ap (λ (x : ℕ). get_or tables.upper_of_key.now (x - 2) 0) c.from-key.ensures in
    let lower_is : c.from-lower.result ≡ get_or tables.lower_of_key.now (c.args.k - 2) 0 = c.from-lower.ensures ∙ ap (λ (x : ℕ). get_or tables.lower_of_key.now (x - 2) 0) c.from-key.ensures in
    let own = mask_in c.args.list.now.sets.now c.from-key.result c.args.k c.from-key.ensures in
    out_block code sound _ _ t.bounds c.args.k block inside _ _ _ _ _ lower_is upper_is own (c.execute_block.ensures code t.ruled)

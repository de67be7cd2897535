use Rattle.std.proofs.Common.{arith, sym, ◌∙◌}
use Rattle.sheet.specs.Code.{code_in}
use Rattle.pages.specs.UnnamedLaws.{label_skip, some_unnamed, all_named}
use Rattle.page_tables.proofs.labels.all_named.Goals as goal

pub returns-then-is_unmarked : goal.returns-then-is_unmarked
returns-then-is_unmarked c = some_unnamed _ _ c.requires c.loop-k.k (omega (arith, c.args.sheet.size)) _ c.instruction.ensures (sym c.is_unmarked.ensures ∙ c.if-is_unmarked.true)

pub loop-k-preserved : goal.loop-k-preserved
loop-k-preserved c =
    sym (label_skip _ _ c.requires c.loop-k.k (omega (arith, c.args.sheet.size)) _ c.instruction.ensures (sym c.is_unmarked.ensures ∙ c.if-is_unmarked.false)) ∙ c.loop-k.invariant

pub returns : goal.returns
returns c = all_named (code_in c.args.sheet) c.loop-k.k (omega (arith, c.args.sheet.size)) c.loop-k.invariant

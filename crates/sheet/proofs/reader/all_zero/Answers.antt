use Rattle.std.proofs.Common.{sym, ◌∙◌, rules}
use Rattle.base.specs.ByteLaws.{zeros_or, zeros_or_end}
use Rattle.sheet.proofs.reader.all_zero.Goals as goal

pub loop-x-preserved : goal.loop-x-preserved
loop-x-preserved c = c.loop-x.invariant ∙ zeros_or c.args.s.now c.loop-x.x-index c.loop-x.m (search rules)

pub returns : goal.returns
returns c = sym (c.loop-x.invariant ∙ zeros_or_end c.args.s.now c.loop-x.x-index c.loop-x.m (search rules))

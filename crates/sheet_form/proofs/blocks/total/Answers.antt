use Rattle.std.proofs.Common.{arith}
use Rattle.base.specs.ByteLaws.{sum_more, sum_end}
use Rattle.sheet_form.proofs.blocks.total.Goals as goal

pub loop-x-preserved : goal.loop-x-preserved
loop-x-preserved c =
    let more = sum_more c.args.s.now c.loop-x.x-index c.loop-x-test.true in
    let byte = c.type_inv.s c.loop-x.x-index in
    (omega (arith, byte), omega (arith, more))

pub returns : goal.returns
returns c = let end = sum_end c.args.s.now c.loop-x.x-index (omega arith) in (omega (arith, end), omega arith)

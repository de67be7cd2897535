use Rattle.std.proofs.Common.{refl, rules, arith}
use Rattle.sheet_writer.specs.SheetLaws.{later_by, blocks_none, blocks_more}
use Rattle.sheet_writer.proofs.whole.put_all_later.Goals as goal

pub loop-b-init : goal.loop-b-init
loop-b-init c = (refl, blocks_none _ _)

pub loop-b-preserved : goal.loop-b-preserved
loop-b-preserved c = (search rules, blocks_more _ _ _ _ _ (omega arith) (later_by c.args.flat.now c.loop-b.b _ c.put_later.ensures) c.loop-b.invariant.1)

use Rattle.std.proofs.Common.{arith}
use Rattle.sheet_labels.specs.NameLaws.{list_more, list_end}
use Rattle.sheet_labels.proofs.labels.list_has.Goals as goal

pub loop-x-preserved : goal.loop-x-preserved
loop-x-preserved c = list_more c.args.l c.args.p.now c.loop-x.x-index c.loop-x.found c.loop-x-test.true c.loop-x.invariant

pub returns : goal.returns
returns c = list_end c.args.l c.args.p.now c.loop-x.x-index c.loop-x.found (omega arith) c.loop-x.invariant

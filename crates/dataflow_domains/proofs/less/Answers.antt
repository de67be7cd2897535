use Rattle.dataflow_domains.specs.MemberLaws.{less_lowest}
use Rattle.std.proofs.Common.{arith}
use Rattle.dataflow_domains.proofs.less.Goals as goal

pub returns : goal.returns
returns c = less_lowest 64 c.args.word (omega arith) (omega arith)

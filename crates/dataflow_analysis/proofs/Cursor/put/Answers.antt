use Rattle.std.proofs.Common.{refl}
use Rattle.dataflow_analysis.specs.QueueLaws.{put_list}
use Rattle.dataflow_analysis.proofs.Cursor.put.Goals as goal

pub returns : goal.returns
returns c = put_list _ _ _ _ c.requires refl refl

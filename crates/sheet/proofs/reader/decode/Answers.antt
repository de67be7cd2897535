use Rattle.sheet.specs.Layout.{decode}
use Rattle.sheet.proofs.reader.decode.Goals as goal

pub returns : goal.returns
unfolding decode
returns c = cc

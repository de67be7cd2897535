use Rattle.base.specs.NumberingLaws.{numbered_none}
use Rattle.base.proofs.numbering.Numbering.new.Goals as goal

pub invariant_of-result : goal.invariant_of-result
invariant_of-result g c = numbered_none g.row.FIRST g.row.N c.requires

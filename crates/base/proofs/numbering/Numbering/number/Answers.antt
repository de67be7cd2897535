use Rattle.base.specs.NumberingLaws.{numbered_number}
use Rattle.base.proofs.numbering.Numbering.number.Goals as goal

pub returns : goal.returns
returns g c = rw (← c.self.view_is) (numbered_number c.self.invariant c.requires _ c.checked_sub.ensures)

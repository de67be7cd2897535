use Rattle.base.specs.NumberingLaws.{order_below}
use Rattle.base.proofs.numbering.Numbering.order.Goals as goal

pub returns-clause-below : goal.returns-clause-below
returns-clause-below g c = order_below c.self.invariant c.self.view_is

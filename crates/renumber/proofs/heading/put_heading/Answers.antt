use Rattle.eliminate_unused_vars.specs.RenumberWorkLaws.{heading_put}
use Rattle.renumber.proofs.heading.put_heading.Goals as goal

pub returns : goal.returns
returns c = heading_put _ _ _ _ _ _ c.requires.block c.copy_from_slice.ensures.after c.put_u16.ensures c.store_bytes.ensures

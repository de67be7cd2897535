use Rattle.std.proofs.Common.{arith}
use Rattle.sheet.specs.Layout.{user_locals_of}
use Rattle.eliminate_unused_vars.specs.NamesLaws.{users_low}
use Rattle.eliminate_unused_vars.proofs.names.Names.of.Goals as goal

pub give-requires : goal.give-requires
unfolding user_locals_of
give-requires c = omega (arith, users_low _ c.args.sheet.accepted)

use Rattle.std.proofs.Common.{◌≡◌, take}
use Rattle.sheet_writer.specs.Written.{placed}
use Rattle.eliminate_unused_vars.specs.Renumber.{renumbered_code}
use Rattle.eliminate_unused_vars.proofs.remap.remap_code.Given as goal

abbrev pub invariant-loop-k : goal.invariant-loop-k
invariant-loop-k g l = l.flat ≡ placed (take l.k (renumbered_code l.sheet.bytes.now)) l.initial.flat

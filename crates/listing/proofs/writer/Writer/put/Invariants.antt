use Rattle.std.proofs.Common.{◌≡◌, take}
use Rattle.listing.specs.Writer.{◌with_text◌}
use Rattle.listing.proofs.writer.Writer.put.Given as goal

abbrev pub invariant-loop-x : goal.invariant-loop-x
invariant-loop-x l = l.self ≡ l.initial.self with_text take l.x-index l.text

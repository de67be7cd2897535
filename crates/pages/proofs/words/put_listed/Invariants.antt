use Rattle.std.proofs.Common.{◌≡◌, take}
use Rattle.listing.specs.Writer.{◌with_text◌}
use Rattle.pages.specs.Words.{listed}
use Rattle.pages.proofs.words.put_listed.Given as goal

abbrev pub invariant-loop-x : goal.invariant-loop-x
invariant-loop-x l = l.out ≡ l.initial.out with_text listed l.before l.behind (take l.x-index l.xs)

use Rattle.std.proofs.Common.{◌≡◌, drop}
use Rattle.listing.specs.Writer.{◌with_text◌}
use Rattle.pages.specs.Bars.{barred_word}
use Rattle.pages.proofs.words.put_word.Given as goal

abbrev pub invariant-loop-x : goal.invariant-loop-x
invariant-loop-x l = (l.out with_text barred_word l.left (drop l.x-index l.text)) ≡ l.initial.out with_text barred_word l.i l.text

use Rattle.std.proofs.Common.{◌≡◌, length}
use Rattle.livevar_analysis.specs.Analysis.{infos_of}
use Rattle.listing.specs.Lines.{lines}
use Rattle.listing.specs.Writer.{◌with_text◌}
use Rattle.listing.proofs.text.put_live.Given as goal

abbrev pub invariant-loop-k : goal.invariant-loop-k
invariant-loop-k g l =
    (goal.iterator-loop-k g).can_next l.k-iterator
    × (goal.iterator-loop-k g).is_finite l.k-iterator
    × (l.out ≡ l.initial.out with_text lines g.L.LiveLine.line 0 (infos_of (length l.yielded) l.sets))

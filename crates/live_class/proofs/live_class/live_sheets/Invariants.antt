use Rattle.std.proofs.Common.{◌≤◌}
use Rattle.class_set.specs.ClassSet.{blocks_in}
use Rattle.class_set.specs.ClassLaws.{Answered}
use Rattle.live_class.proofs.live_class.live_sheets.Given as goal

abbrev pub invariant-loop-k : goal.invariant-loop-k
invariant-loop-k l = (l.start ≤ blocks_in l.sheets) × Answered l.sheets l.initial.sets l.initial.answers l.sets l.answers l.start l.k

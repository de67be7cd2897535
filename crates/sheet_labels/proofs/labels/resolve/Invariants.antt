use Rattle.std.proofs.Common.{◌-◌, ◌*◌, length}
use Rattle.sheet.specs.Layout.{code_of}
use Rattle.sheet_labels.specs.Labelled.{Search}
use Rattle.sheet_labels.specs.NameLaws.{Slots}
use Rattle.sheet_labels.proofs.labels.resolve.Given as goal

abbrev pub invariant-loop-j : goal.invariant-loop-j
invariant-loop-j l = Search l.labels l.l l.j

abbrev pub decreases-loop-j : goal.decreases-loop-j
decreases-loop-j l = length l.labels - l.j

abbrev pub invariant-outer : goal.invariant-outer
invariant-outer l = Slots (code_of l.sheet.bytes.now) l.sheet.count l.initial.targets l.targets l.e

abbrev pub decreases-outer : goal.decreases-outer
decreases-outer l = 2 * l.sheet.count - l.e

use Rattle.std.proofs.Common.{replicate}
use Rattle.sheet.specs.Layout.{code_of}
use Rattle.sheet_labels.specs.LabelLaws.{Pass}
use Rattle.sheet_labels.specs.Labelled.{seen_words}
use Rattle.sheet_labels.proofs.labels.list_labels.Given as goal

abbrev pub invariant-loop-k : goal.invariant-loop-k
invariant-loop-k l = Pass (code_of l.sheet.bytes.now) l.sheet.count (replicate seen_words 0) l.initial.labels l.initial.places l.k l.m l.seen l.labels l.places

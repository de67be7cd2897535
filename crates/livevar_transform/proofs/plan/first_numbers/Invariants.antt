use Rattle.std.proofs.Common.{◌≡◌, ◌≤◌, max, drop}
use Rattle.base.specs.Sizes.{max_number}
use Rattle.base.specs.Lists.{gather}
use Rattle.sheet.specs.Layout.{code_of}
use Rattle.stackless_bytecode.specs.Kinds.{label_of}
use Rattle.livevar_transform.specs.Rewrite.{highest}
use Rattle.livevar_transform.specs.HighestLaws.{attr_of}
use Rattle.livevar_transform.proofs.plan.first_numbers.Given as goal

abbrev pub invariant-loop-k : goal.invariant-loop-k
invariant-loop-k l =
    (max l.label (highest (gather label_of (drop l.k (code_of l.sheet.bytes.now)))) ≡ highest (gather label_of (code_of l.sheet.bytes.now)))
    × (max l.attr (highest (gather attr_of (drop l.k (code_of l.sheet.bytes.now)))) ≡ highest (gather attr_of (code_of l.sheet.bytes.now)))
    × (l.label ≤ max_number)
    × (l.attr ≤ max_number)

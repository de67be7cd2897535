use Rattle.std.proofs.Common.{◌≡◌, true, ℕ, ◌<◌, ◌*◌}
use Rattle.base.specs.Sizes.{block_records}
use Rattle.stackless_bytecode.specs.Kinds.{at}
use Rattle.sheet.specs.Layout.{code_of}
use Rattle.sheet.proofs.search.first_failing.Given as goal

abbrev pub invariant-loop-b : goal.invariant-loop-b
invariant-loop-b g l = (j : ℕ) → j < block_records * l.b → j < l.sheet.count → g.T.RecordTest.test l.test (at (code_of l.sheet.bytes.now) j) ≡ true

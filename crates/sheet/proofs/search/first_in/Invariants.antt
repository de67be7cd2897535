use Rattle.std.proofs.Common.{◌≡◌, true, ℕ, ◌<◌, ◌≤◌}
use Rattle.sheet.specs.Layout.{decode}
use Rattle.sheet.specs.InBlock.{record_in}
use Rattle.sheet.proofs.search.first_in.Given as goal

abbrev pub invariant-loop-k : goal.invariant-loop-k
invariant-loop-k g l = (j : ℕ) → l.from ≤ j → j < l.k → g.T.RecordTest.test l.test (decode (record_in l.p l.from j)) ≡ true

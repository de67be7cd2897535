use Rattle.std.proofs.Common.{◌≡◌, true, ℕ, ◌<◌, ◌≤◌}
use Rattle.sheet_form.specs.BlockSearch.{in_block}
use Rattle.sheet_form.proofs.records.first_bad_in.Given as goal

abbrev pub invariant-loop-k : goal.invariant-loop-k
invariant-loop-k l = (j : ℕ) → l.from ≤ j → j < l.k → in_block l.p l.from l.n j ≡ true

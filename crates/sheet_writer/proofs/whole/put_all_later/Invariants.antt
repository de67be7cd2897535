use Rattle.std.proofs.Common.{◌≡◌, length}
use Rattle.sheet_writer.specs.Written.{Blocks}
use Rattle.sheet_writer.proofs.whole.put_all_later.Given as goal

abbrev pub invariant-loop-b : goal.invariant-loop-b
invariant-loop-b l = (length l.out ≡ length l.initial.out) × Blocks l.flat l.initial.out l.b l.out

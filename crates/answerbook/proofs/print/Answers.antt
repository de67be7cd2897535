-- The array's length comes from a law over every length, so that nothing counts its bytes.
use Rattle.std.proofs.Common.{ℕ, sym}
use Rattle.std.proofs.lemmas.List.{length-replicate}
use Rattle.answerbook.proofs.print.Goals as goal

pub slice_bounds-print_page-end : goal.slice_bounds-print_page-end
slice_bounds-print_page-end g c = sym (length-replicate {A = ℕ} _ 0)

-- The array's length comes from a law over every length, so that nothing counts its bytes.
use Rattle.std.proofs.Common.{ℕ, sym, length-take-le}
use Rattle.std.proofs.lemmas.List.{length-replicate}
use Rattle.pages.specs.Size.{page_bytes}
use Rattle.answerbook_test.proofs.next_page.Goals as goal

pub slice_bounds-put_page-end-2 : goal.slice_bounds-put_page-end-2
slice_bounds-put_page-end-2 c = sym (length-replicate {A = ℕ} page_bytes 0)

pub slice_bounds-text-end : goal.slice_bounds-text-end
slice_bounds-text-end c = c.put_page-m.ensures.inside

pub slice_bounds-write_all-end : goal.slice_bounds-write_all-end
slice_bounds-write_all-end c = sym (length-take-le _ _ c.put_page-m.ensures.inside)

use Rattle.std.proofs.Common.{◌≡◌, length}
use Rattle.listing.specs.Writer.{◌with_text◌}
use Rattle.pages.specs.Page.{block_lines}
use Rattle.page_tables.proofs.blocks.put_blocks.Given as goal

abbrev pub invariant-loop-row : goal.invariant-loop-row
invariant-loop-row l =
    goal.iterator-loop-row.can_next l.row-iterator
    × goal.iterator-loop-row.is_finite l.row-iterator
    × (l.out ≡ l.initial.out with_text block_lines (length l.yielded) l.table)

use Rattle.std.proofs.Common.{rules}
use Rattle.listing.specs.OutputLaws.{wrote_inside}
use Rattle.listing.specs.Writer.{◌with_text◌}
use Rattle.listing.specs.WriterLaws.{front_wrote}
use Rattle.page.proofs.page.put_page.Goals as goal

pub returns : goal.returns
unfolding ◌with_text◌
returns c =
    let written = front_wrote _ _ _ _ c.new-writer.ensures c.put_bytes_page.ensures in
    let inside = wrote_inside written in
    record { written = search rules; inside = search rules }

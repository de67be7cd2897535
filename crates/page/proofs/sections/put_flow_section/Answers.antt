use Rattle.std.proofs.Common.{◌≡◌, List, ℕ, ◌*◌, length, replicate}
use Rattle.std.proofs.lemmas.List.{length-replicate}
use Rattle.base.specs.Sizes.{row_numbers, max_instructions}
use Rattle.listing.specs.WriterLaws.{text_next, text_as}
use Rattle.pages.specs.SectionLaws.{flow_written}
use Rattle.page.proofs.sections.put_flow_section.Goals as goal

abbrev blank : List ℕ
blank = replicate (row_numbers * max_instructions) 0

blank_long : length blank ≡ row_numbers * max_instructions
blank_long = length-replicate {A = ℕ} (row_numbers * max_instructions) 0

pub put_blocks-requires : goal.put_blocks-requires
put_blocks-requires c =
    let t = c.table_of-m.ensures in
    (flow_written c.args.sheet.checked blank blank_long _ _ t.result t.written).room

pub returns : goal.returns
returns c =
    let t = c.table_of-m.ensures in
    let text = (flow_written c.args.sheet.checked blank blank_long _ _ t.result t.written).text in
    text_next _ _ _ (text_next _ _ _ c.put.ensures (text_as _ text c.put_blocks.ensures)) c.put_unnamed.ensures

use Rattle.std.proofs.Common.{ℕ, ◌++◌, refl, ap, ◌∙◌}
use Rattle.sheet.specs.Layout.{heading_rest, record_blocks, block_of}
use Rattle.base.specs.Bytes.{bytes_of}
use Rattle.sheet_writer.specs.SheetLaws.{sheet_size, sheet_written, heading_rest_lem}
use Rattle.sheet_writer.proofs.whole.write_sheet.Goals as goal

pub returns : goal.returns
returns c =
    λ code e h.
    let m = c.record_blocks-m.ensures.0 ∙ ap record_blocks e in
    let long = heading_rest_lem c.args.s.now _ c.requires.heading refl in
    record {
      long = sheet_size _ code _ h _ long m;
      is = sheet_written _ code _ h _ c.args.out.now _ _ long m (c.copy_from_slice.ensures.after ∙ c.heading.ensures ∙ ap (λ (x : ℕ). block_of 0 (bytes_of 2 x ++ heading_rest c.args.s.now)) e) c.put_all_later.ensures;
    }

use Rattle.sheet_writer.specs.WriterLaws.{record_written}
use Rattle.sheet_writer.proofs.writer.encode.Goals as goal

pub returns : goal.returns
returns c =
    record_written _ c.args.out.now _ _ _ _ c.requires c.put_head.ensures c.put_places.ensures c.put_places-2.ensures c.put_u32.ensures

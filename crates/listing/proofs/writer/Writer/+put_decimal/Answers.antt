use Rattle.std.specs.Prelude.{◌≡◌, [], ◌∷◌, ◌/◌, decimal}
use Rattle.std.proofs.Common.{sym, arith}
use Rattle.std.proofs.lemmas.Fmt.{decimal_digit, decimal_step}
use Rattle.listing.specs.WriterLaws.{text_as, text_next}
use Rattle.listing.proofs.writer.Writer.+put_decimal.Goals as goal

pub returns-then-x-lt10 : goal.returns-then-x-lt10
returns-then-x-lt10 t c = text_as c.args.self.now (sym (decimal_digit c.args.x c.if-x-lt10.true)) c.put_byte.ensures

-- the digits in front of the last one, and the last one
pub returns-else-x-lt10 : goal.returns-else-x-lt10
returns-else-x-lt10 t c = text_as c.args.self.now (sym (decimal_step c.args.x c.if-x-lt10.false (omega (arith, c.ranges.x.fits))))
    (text_next c.args.self.now (decimal (c.args.x / 10)) _ c.put_decimal.ensures c.put_byte-else-x-lt10.ensures)

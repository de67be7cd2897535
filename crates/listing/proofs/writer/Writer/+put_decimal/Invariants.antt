use Rattle.std.specs.Prelude.{ℕ}
use Rattle.listing.proofs.writer.Writer.+put_decimal.Given as goal

-- what is left of the number
abbrev pub decreases-put_decimal : goal.decreases-put_decimal
decreases-put_decimal l = l.x

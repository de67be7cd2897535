use Rattle.std.proofs.Common.{◌≡◌, ◌-◌, ◌*◌, take}
use Rattle.base.specs.Bytes.{number}
use Rattle.base.specs.Sizes.{set_bytes}
use Rattle.listing.specs.Words.{hex}
use Rattle.listing.specs.Writer.{◌with_text◌}
use Rattle.listing.proofs.writer.Writer.put_hex.Given as goal

abbrev pub invariant-loop-i : goal.invariant-loop-i
invariant-loop-i l = l.self ≡ l.initial.self with_text take (2 * (set_bytes - l.i)) (hex (number l.p))

-- A writer once a text is written. Assumes nothing.
use Rattle.std.specs.Prelude.{List, ℕ}
use Rattle.std.specs.Borrow.{MutBor}
use Rattle.listing.specs.Output.{Output, write}
use Rattle.listing.specs.declared.writer.Writer.{Writer}

-- its slice's bytes, and the next place
abbrev pub output : Writer → Output
output w = record { bytes = w.bytes.now; next = w.next }

-- the same writer with other bytes, at another place
abbrev pub with_output : Writer → Output → Writer
with_output w o = record w { bytes = record w.bytes { now = o.bytes }; next = o.next }

-- a writer at the front of a slice
abbrev pub at_front : MutBor (List ℕ) → Writer
at_front slice = record { bytes = slice; next = 0 }

-- the writer once `text` is written
infixl 8 ◌with_text◌
unfoldable pub ◌with_text◌ : Writer → List ℕ → Writer
w with_text text = with_output w (write (output w) text)

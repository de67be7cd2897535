-- How long a page can be, by the digits that each kind of number has at most. Assumes nothing.
use Rattle.std.specs.Prelude.{ℕ, ◌+◌, ◌*◌, ◌/◌}
use Rattle.base.specs.Sizes.{set_bytes, list_places, max_locals, max_instructions}

-- ---- digits

-- of an offset, a count, a label, an attribute id and a key
abbrev pub number_digits : ℕ
number_digits = 5

abbrev pub payload_digits : ℕ
payload_digits = 10

-- of a local: two to 100 locals, three to 356
abbrev pub local_digits : ℕ
local_digits = 2 + (max_locals + 155) / 256

-- ---- a sheet's code

-- the locals of a set, " t" before each
abbrev pub locals_bytes : ℕ
locals_bytes = max_locals * (2 + local_digits)

-- the words, three counts, and the locals that are references
abbrev pub heading_bytes : ℕ
heading_bytes = 37 + 3 * number_digits + locals_bytes

-- the words, offset, labels, abort action, payload and attribute id, and two full lists
abbrev pub code_line_bytes : ℕ
code_line_bytes = 60 + 6 * number_digits + payload_digits + 2 * list_places * (2 + local_digits)

abbrev pub code_bytes : ℕ
code_bytes = heading_bytes + max_instructions * code_line_bytes

-- ---- blocks

abbrev pub block_line_bytes : ℕ
block_line_bytes = 24 + 6 * number_digits

-- the Labels that nobody names, " L" before each
abbrev pub unnamed_bytes : ℕ
unnamed_bytes = 12 + max_instructions * (2 + number_digits)

-- a line for each block, how many there are, and those Labels
abbrev pub flow_bytes : ℕ
flow_bytes = max_instructions * block_line_bytes + 8 + number_digits + unnamed_bytes

-- ---- live sets

abbrev pub set_text_bytes : ℕ
set_text_bytes = 1 + 2 * set_bytes + locals_bytes

abbrev pub live_line_bytes : ℕ
live_line_bytes = 16 + number_digits + 2 * set_text_bytes

-- a line for each instruction, and the count of blocks taken
abbrev pub live_text_bytes : ℕ
live_text_bytes = max_instructions * live_line_bytes + 7 + payload_digits

-- ---- the page

-- four sections and their titles: 979,630 bytes with 64 locals
abbrev pub page_bytes : ℕ
page_bytes = 28 + 2 * code_bytes + flow_bytes + live_text_bytes

-- What the writers of records, of blocks and of a whole sheet leave in the bytes that they are lent. Assumes nothing.
use Rattle.std.specs.Prelude.{◌≡◌, List, [], ◌∷◌, ◌++◌, ℕ, ◌+◌, ◌-◌, ◌*◌, ◌/◌, ◌%◌, ◌≤◌, length, drop, replicate}
use Rattle.base.specs.Sizes.{block_bytes, records_from, record_bytes, max_blocks}
use Rattle.base.specs.Lists.{gather, joins}
use Rattle.base.specs.Bytes.{part}
use Rattle.stackless_bytecode.specs.declared.Bytecode.{Bytecode}
use Rattle.sheet.specs.Layout.{encode, record_blocks, block_of}

-- ---- records

-- the bytes of a record before its lists
abbrev pub head_of : Bytecode → List ℕ
head_of r =
    r.kind ∷ r.sub ∷ r.attr % 256 ∷ r.attr / 256 % 256 ∷ r.one % 256 ∷ r.one / 256 % 256 ∷ r.two % 256 ∷ r.two / 256 % 256
    ∷ r.ndst ∷ r.nsrc ∷ r.flag ∷ r.abort ∷ []

-- a slice with the records of this code at its front
abbrev pub placed : List Bytecode → List ℕ → List ℕ
placed code d = gather encode code ++ drop (record_bytes * length code) d

-- ---- blocks

-- the bytes of a block's records
abbrev pub body_bytes : ℕ
body_bytes = block_bytes - records_from

-- the zeros before them
abbrev pub gap_bytes : ℕ
gap_bytes = records_from - 4

-- block 1 + b, with the records that stand in `flat`
unfoldable pub later_of : List ℕ → ℕ → List ℕ
later_of flat b = block_of (1 + b) (replicate gap_bytes 0 ++ part flat (body_bytes * b) body_bytes)

-- the first b of them stand at the front of what was d
pub record Blocks (flat d : List ℕ) (b : ℕ) (out : List ℕ) : Type 0 where
  pub is : out ≡ joins b (later_of flat) ++ drop (block_bytes * b) d
  pub long : length (joins b (later_of flat)) ≡ block_bytes * b

-- ---- a sheet

-- the records of `code` stand in `flat`, and zeros behind them to the end of the last block
pub record Holds (flat : List ℕ) (code : List Bytecode) : Type 0 where
  pub size : ℕ
  pub is : flat ≡ placed code (replicate size 0)
  pub room : body_bytes * record_blocks (length code) ≤ size

-- a slice of zeros with room for the records of every block of the longest sheet
pub record Blank (flat : List ℕ) : Type 0 where
  pub size : ℕ
  pub is : flat ≡ replicate size 0
  pub room : body_bytes * (max_blocks - 1) ≤ size

-- the sheet t stands at the front of what was `before`, and r is its length
pub record SheetWritten (t before : List ℕ) (r : ℕ) (after : List ℕ) : Type 0 where
  pub long : r ≡ length t
  pub is : after ≡ t ++ drop (length t) before

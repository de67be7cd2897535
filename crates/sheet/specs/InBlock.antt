-- A block as the code hands it on, and its records: those of the sheet. Assumes nothing.
use Rattle.std.specs.Prelude.{◌≡◌, List, ℕ, ◌+◌, ◌-◌, ◌*◌, ◌≤◌, ◌<◌, take, drop}
use Rattle.std.proofs.Common.{ap, ◌∙◌, arith, drop-drop}
use Rattle.base.specs.Sizes.{block_bytes, records_from, record_bytes, block_records}
use Rattle.base.specs.Bytes.{part}
use Rattle.base.specs.PartLaws.{front_part}
use Rattle.sheet.specs.Layout.{record_start, record_at}

-- the record of place k in the block with bytes p, whose first record has place `from`
abbrev pub record_in : List ℕ → ℕ → ℕ → List ℕ
record_in p from k = part p (records_from + record_bytes * (k - from)) record_bytes

-- block 1 + b as the code hands it on
abbrev pub handed : List ℕ → ℕ → List ℕ
handed s b = take (block_bytes * (1 + b) + block_bytes - block_bytes * (1 + b)) (drop (block_bytes * (1 + b)) s)

-- its records are the sheet's
pub record_in_lem : (s : List ℕ) (b k : ℕ) → block_records * b ≤ k → k < block_records * b + block_records → record_in (handed s b) (block_records * b) k ≡ record_at s k
record_in_lem s b k l h =
    let size : block_bytes * (1 + b) + block_bytes - block_bytes * (1 + b) ≡ block_bytes = omega arith in
    let start : block_bytes * (1 + b) + (records_from + record_bytes * (k - block_records * b)) ≡ record_start k = omega arith in
    ap (λ (m : ℕ). record_in (take m (drop (block_bytes * (1 + b)) s)) (block_records * b) k) size
    ∙ front_part 0 (records_from + record_bytes * (k - block_records * b)) record_bytes block_bytes (drop (block_bytes * (1 + b)) s) (omega arith)
    ∙ ap (take record_bytes) (drop-drop (records_from + record_bytes * (k - block_records * b)) (block_bytes * (1 + b)) s ∙ ap (λ (x : ℕ). drop x s) start)

-- The graph of a code's blocks by key, in the arrays that a run over it reads. Assumes nothing.
use Rattle.std.specs.Prelude.{◌≡◌, List, ℕ, ◌+◌, ◌≤◌, ◌<◌, get_or, length}
use Rattle.stackless_bytecode.specs.declared.Bytecode.{Bytecode}
use Rattle.stackless_control_flow_graph.specs.Blocks.{lower_of, upper_of, keyed, key_of}
use Rattle.stackless_control_flow_graph.specs.Sorting.{Leads}

-- the lower and the upper of each block, by key
pub record Bounds (code : List Bytecode) (lower_of_key upper_of_key : List ℕ) : Type 0 where
  pub lows_long : length (keyed code) ≤ length lower_of_key
  pub ups_long : length (keyed code) ≤ length upper_of_key
  pub low : (i : ℕ) → i < length (keyed code) → get_or lower_of_key i 0 ≡ get_or (keyed code) i 0
  pub up : (i : ℕ) → i < length (keyed code) → get_or upper_of_key i 0 ≡ upper_of code (get_or (keyed code) i 0)

-- the key of the block of each offset
pub record OffsetKeys (code : List Bytecode) (key_of_offset : List ℕ) : Type 0 where
  pub long : length code ≤ length key_of_offset
  pub each : (k : ℕ) → k < length code → get_or key_of_offset k 0 ≡ key_of (keyed code) (lower_of code k)

-- what each key leads to
pub record Edges (code : List Bytecode) (first_edge edges : List ℕ) : Type 0 where
  pub leads : Leads code (length (keyed code)) first_edge edges
  pub long : length (keyed code) + 3 ≤ length first_edge

-- all of m blocks
pub record GraphTables (code : List Bytecode) (m : ℕ) (lower_of_key upper_of_key key_of_offset first_edge edges : List ℕ) : Type 0 where
  pub count : m ≡ length (keyed code)
  pub bounds : Bounds code lower_of_key upper_of_key
  pub keys : OffsetKeys code key_of_offset
  pub leads : Edges code first_edge edges

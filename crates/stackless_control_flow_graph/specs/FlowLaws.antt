-- The blocks and the keys of code that the checks let through, and an array that has the keys. Assumes nothing.
use Rattle.std.specs.Prelude.{◌≡◌, refl, ℕ, ◌+◌, ◌<◌, length, List, get_or}
use Rattle.std.proofs.Common.{zero-le, le_antisymm, arith}
use mathlib.Core.List.{Memᴰ}
use Rattle.base.specs.Lists.{Distinct}
use Rattle.base.specs.ListLaws.{keep_in, in_keep, get_d_in, in_map, place_lt}
use Rattle.stackless_bytecode.specs.declared.Bytecode.{Bytecode}
use Rattle.stackless_bytecode.specs.Successors.{successors}
use Rattle.stackless_bytecode.specs.Sound.{Sound}
use Rattle.stackless_control_flow_graph.specs.Blocks.{starts, lowers, blocks_of, upper_of, keyed, key_of}
use Rattle.stackless_control_flow_graph.specs.BlockLaws.{succs_start, upper_lt, upper_last, keyed_in, in_keyed, keyed_distinct}
use Rattle.stackless_control_flow_graph.specs.Blocks.{Start}
use Rattle.stackless_control_flow_graph.specs.Arrays.{next_keys}
use Rattle.base.specs.GrowLaws.{shorter, keep_distinct}

-- ---- blocks

pub in_lowers : (code : List Bytecode) (o : ℕ) → Memᴰ o (lowers code) → Start code o
unfolding lowers
in_lowers code o i = let r = in_keep (length code) 0 o (starts code) i in record { inside = omega (arith, r.high); starts = r.test }

pub lowers_in : (code : List Bytecode) (o : ℕ) → Start code o → Memᴰ o (lowers code)
unfolding lowers
lowers_in code o s = keep_in (length code) 0 o (starts code) zero-le (omega (arith, s.inside)) s.starts

pub lowers_distinct : (code : List Bytecode) → Distinct (lowers code)
unfolding lowers
lowers_distinct code = keep_distinct (length code) 0 (starts code)

-- there are as many keys of blocks as blocks
pub keys_blocks : (code : List Bytecode) → Sound code → length (keyed code) ≡ blocks_of code
unfolding blocks_of
keys_blocks code sound =
    le_antisymm (shorter (lowers code) (keyed_distinct code) (λ x i. lowers_in code x (in_keyed code sound x i)))
    (shorter (keyed code) (lowers_distinct code) (λ x i. keyed_in code x (in_lowers code x i)))

-- ---- a block starts at each place of a list that is either of both

pub lower_in : (code : List Bytecode) (ls : List ℕ) (b : ℕ) → ls ≡ lowers code → b < length ls → Start code (get_or ls b 0)
lower_in code ls b e h = in_lowers code (get_or ls b 0) (rw (← e) (get_d_in ls b 0 h))

pub keyed_at : (code : List Bytecode) → Sound code → (ls : List ℕ) (b : ℕ) → ls ≡ keyed code → b < length ls → Start code (get_or ls b 0)
keyed_at code sound ls b e h = in_keyed code sound (get_or ls b 0) (rw (← e) (get_d_in ls b 0 h))

module _ (code : List Bytecode) (sound : Sound code) where
  -- ---- where a block goes, one starts

  pub next_start : (o x : ℕ) → Start code o → Memᴰ x (successors code (upper_of code o)) → Start code x
  next_start o x s i = succs_start code sound (upper_of code o) x (upper_lt code o s.inside) (upper_last code o s.inside) i

  pub first_start : Start code 0
  first_start = record { inside = sound.some; starts = unfold starts in refl }

  -- ---- every key is below blocks_of code + 2

  pub key_low : (o : ℕ) → Start code o → key_of (keyed code) o < blocks_of code + 2
  unfolding key_of
  key_low o s = omega (arith, place_lt o (keyed code) (keyed_in code o s), keys_blocks code sound)

  pub next_low : (o y : ℕ) → Start code o → Memᴰ y (next_keys code o) → y < blocks_of code + 2
  next_low o y s i = let r = in_map (key_of (keyed code)) (successors code (upper_of code o)) y i in omega (arith, r.2, key_low r.0 (next_start o r.0 s r.1))

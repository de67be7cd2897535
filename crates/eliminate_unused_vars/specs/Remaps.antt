-- What is asked of an instruction whose locals get their new numbers. Assumes nothing.
use Rattle.std.specs.Prelude.{◌≡◌, ◌⊎◌, List, ℕ, ◌≤◌, length}
use mathlib.Core.List.{Memᴰ}
use Rattle.base.specs.Sizes.{list_places}
use Rattle.stackless_bytecode.specs.declared.Bytecode.{Bytecode}
use Rattle.stackless_bytecode.specs.Kinds.{Assign, Load}
use Rattle.eliminate_unused_vars.specs.Remap.{mentions}

-- its locals stay, its lists have all their places, and an Assign and a Load have a destination
pub record Remaps (stay : List ℕ) (r : Bytecode) : Type 0 where
  pub stays : (x : ℕ) → Memᴰ x (mentions r) → Memᴰ x stay
  pub dsts_long : length r.dsts ≡ list_places
  pub srcs_long : length r.srcs ≡ list_places
  pub dsts_few : r.ndst ≤ list_places
  pub srcs_few : r.nsrc ≤ list_places
  pub first : (r.kind ≡ Assign) ⊎ (r.kind ≡ Load) → 1 ≤ r.ndst

-- The keys of blocks by the lowers that have keys. Assumes nothing.
use Rattle.std.specs.Prelude.{◌≡◌, List, ℕ, map, Option, unwrap_or}
use Rattle.std.proofs.Common.{ap, ◌∙◌, arith}
use mathlib.Core.List.{Memᴰ}
use Rattle.base.specs.GrowLaws.{map_agree}
use Rattle.base.specs.NumberingLaws.{number_in_list}
use Rattle.stackless_bytecode.specs.declared.Bytecode.{Bytecode}
use Rattle.stackless_control_flow_graph.specs.Arrays.{key_in}
use Rattle.stackless_control_flow_graph.specs.BlockLaws.{keyed_in}
use Rattle.stackless_control_flow_graph.specs.Blocks.{Start, keyed, key_of}

-- an offset at which a block starts has the block's key
pub key_is : (code : List Bytecode) (o : ℕ) → Start code o → key_in (keyed code) o ≡ key_of (keyed code) o
unfolding key_of
key_is code o s = ap (λ (n : Option ℕ). unwrap_or n 0) (number_in_list 2 (keyed code) o (keyed_in code o s)) ∙ (omega arith)

-- and so have all of a list
pub keys_are : (code : List Bytecode) {keys xs : List ℕ} (ys : List ℕ) → keys ≡ keyed code → xs ≡ ys → ((o : ℕ) → Memᴰ o ys → Start code o) → map (key_in keys) xs ≡ map (key_of (keyed code)) ys
keys_are code {xs = xs} ys is same starts =
    ap (λ (lowers : List ℕ). map (key_in lowers) xs) is ∙ ap (map (key_in (keyed code))) same
    ∙ map_agree (key_in (keyed code)) (key_of (keyed code)) ys (λ o i. key_is code o (starts o i))

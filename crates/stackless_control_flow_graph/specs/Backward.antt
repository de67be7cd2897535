-- The backward graph by key (`new_backward` from all blocks): what each key leads to. Assumes nothing.
use Rattle.std.specs.Prelude.{ℕ, zero, suc, ◌-◌, cond, List, [], ◌∷◌, ◌++◌, map, eqb, length}
use Rattle.base.specs.Lists.{tab}
use Rattle.stackless_bytecode.specs.declared.Bytecode.{Bytecode}
use Rattle.stackless_bytecode.specs.Successors.{successors}
use Rattle.stackless_control_flow_graph.specs.Blocks.{upper_of, key_of}

-- the keys of each key's successors: of the dummies 0 and 1, and then of the blocks by key; ks is `keyed code`
unfoldable pub nexts_of : List Bytecode → List ℕ → List (List ℕ)
nexts_of code ks = (key_of ks 0 ∷ []) ∷ [] ∷ map (λ o. map (key_of ks) (successors code (upper_of code o))) ks

-- p once for each time that k stands in the list
unfoldable pub times : ℕ → ℕ → List ℕ → List ℕ
times p k [] = []
times p k (x ∷ xs) = cond (eqb k x) (p ∷ times p k xs) (times p k xs)

-- the predecessors of key k in ascending order, a double edge twice; p is the key of the first of `nexts`
unfoldable pub preds_from : List (List ℕ) → ℕ → ℕ → List ℕ
preds_from [] p k = []
preds_from (ns ∷ nss) p k = times p k ns ++ preds_from nss (suc p) k

-- what key k leads to: key 1 to all blocks by ascending key, else the predecessors
unfoldable pub leads_to : List (List ℕ) → ℕ → List ℕ
leads_to nexts zero = preds_from nexts 0 0
leads_to nexts (suc zero) = tab (length nexts - 2) 2 (λ b. b)
leads_to nexts (suc (suc k)) = preds_from nexts 0 (suc (suc k))

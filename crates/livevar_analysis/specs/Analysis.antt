-- The live call: the work list of the paper over the backward graph, then the sets before and after each instruction. Assumes nothing.
use Rattle.std.specs.Prelude.{ℕ, zero, suc, ◌+◌, ◌-◌, ◌*◌, List, [], ◌∷◌, ◌++◌, get_or, length, take, drop}
use Rattle.base.specs.Sizes.{set_bytes, taken_bound, pair_bytes}
use Rattle.base.specs.Lists.{tab, gather}
use Rattle.base.specs.Bytes.{number, bytes_of, part}
use Rattle.base.specs.Refusals.{Reply, Done, ◌then◌, lends, reply}
use Rattle.dataflow_analysis.specs.Worklist.{State, set_at, begin, run}
use Rattle.dataflow_analysis.specs.Lattice.{masks}
use Rattle.stackless_bytecode.specs.declared.Bytecode.{Bytecode}
use Rattle.stackless_bytecode.specs.Kinds.{at}
use Rattle.sheet.specs.Layout.{code_of, locals_of}
use Rattle.sheet.specs.Checks.{check_sheet}
use Rattle.stackless_control_flow_graph.specs.Blocks.{lower_of, upper_of, keyed, key_of}
use Rattle.stackless_control_flow_graph.specs.Backward.{nexts_of, leads_to}
use Rattle.livevar_analysis.specs.Live.{execute}

-- ---- a block's instructions

-- the set before a list of instructions, from the set m after it
unfoldable pub execute_all : List Bytecode → ℕ → ℕ
execute_all [] m = m
execute_all (r ∷ rs) m = execute r (execute_all rs m)

-- the instructions from offset k to the end of its block
unfoldable pub rest_of : List Bytecode → ℕ → List Bytecode
rest_of code k = take (suc (upper_of code k) - k) (drop k code)

-- what key k hands on: a dummy its own set, a block the set before it; ks is `keyed code`
unfoldable pub out_of : List Bytecode → List ℕ → ℕ → ℕ → ℕ
out_of code ks zero m = m
out_of code ks (suc zero) m = m
out_of code ks (suc (suc k)) m = execute_all (rest_of code (get_or ks k 0)) m

-- ---- the run

-- the work list from key 1, until it is empty or `fuel` blocks are taken
abbrev pub state_after : List Bytecode → List ℕ → ℕ → State masks
state_after code ks fuel =
    let nexts = nexts_of code ks in
    run (leads_to nexts) (out_of code ks) fuel (begin (2 + length ks) 1)

-- until it is empty: the bound of the paper is enough (TakenUntilEmpty in LiveCall)
unfoldable pub analyze_function : List Bytecode → List ℕ → ℕ → State masks
analyze_function code ks locals = state_after code ks (taken_bound (length ks) locals)

-- ---- the sets of each instruction

-- the sets before and after an instruction
pub record LiveVarInfo : Type 0 where
  pub before : ℕ
  pub after : ℕ

-- past the end: empty
abbrev pub no_info : LiveVarInfo
no_info = record { before = 0; after = 0 }

-- of the instruction at k, where m is the set after its block
unfoldable pub info_of : List Bytecode → ℕ → ℕ → LiveVarInfo
info_of code k m = let after = execute_all (drop 1 (rest_of code k)) m in record { before = execute (at code k) after; after = after }

-- what live gives: the sets of every instruction, and the count of blocks taken
pub record Analyzed : Type 0 where
  pub info : List LiveVarInfo
  pub taken : ℕ

unfoldable pub analyze : List Bytecode → ℕ → Analyzed
analyze code locals =
    let ks = keyed code in
    let st = analyze_function code ks locals in
    record { info = tab (length code) 0 (λ k. info_of code k (set_at st (key_of ks (lower_of code k)))); taken = st.taken }

-- the bytes of before, then of after, for each instruction: bit i for local i
unfoldable pub live_bytes : List LiveVarInfo → List ℕ
live_bytes xs = gather (λ x. bytes_of set_bytes x.before ++ bytes_of set_bytes x.after) xs

-- ---- and read back from bytes

-- the sets of one instruction
unfoldable pub info_in : List ℕ → LiveVarInfo
info_in p = record { before = number (take set_bytes p); after = number (drop set_bytes p) }

-- of n instructions
unfoldable pub infos_of : ℕ → List ℕ → List LiveVarInfo
infos_of n p = tab n 0 (λ k. info_in (part p (pair_bytes * k) pair_bytes))

-- ---- the call live: the count taken and the sets, where so many bytes are lent

unfoldable pub live_reply : List ℕ → ℕ → Reply
live_reply s lent =
    let live = analyze (code_of s) (locals_of s) in
    reply (check_sheet s then lends lent (pair_bytes * length (code_of s))) (Done live.taken (live_bytes live.info))

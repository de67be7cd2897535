-- A sheet's code as text: its heading, and a line for each instruction. Assumes nothing.
use Rattle.std.specs.Prelude.{ℕ, cond, ◌||◌, List, [], ◌∷◌, ◌++◌, eqb, length, map, codes, decimal}
use Rattle.base.specs.Sizes.{max_locals}
use Rattle.base.specs.Lists.{joins}
use Rattle.dataflow_domains.specs.Members.{members}
use Rattle.stackless_bytecode.specs.declared.Bytecode.{Bytecode}
use Rattle.stackless_bytecode.specs.Kinds.{Assign, Call, Load, Branch, Jump, Label, Prop, at, dsts_of, srcs_of}
use Rattle.sheet.specs.Layout.{locals_of, user_locals_of, parameters_of, refs_of, code_of}
use Rattle.listing.specs.Words.{said}
use Rattle.pages.specs.Words.{word, marked, listed}

-- ---- names, in the order of their numbers

-- what an instruction of each kind begins with; an Assign has only its name
abbrev pub verbs : List (List ℕ)
verbs = map codes ("" ∷ "call " ∷ "ret" ∷ "load " ∷ "branch" ∷ "jump" ∷ "label" ∷ "abort" ∷ "nop" ∷ "savemem" ∷ "savespecvar" ∷ "prop " ∷ [])

abbrev pub assigns : List (List ℕ)
assigns = map codes ("copy" ∷ "move" ∷ "store" ∷ [])

-- the enum `Operation`
abbrev pub operations : List (List ℕ)
operations = map codes (
    "Function" ∷ "OpaqueCallBegin" ∷ "OpaqueCallEnd" ∷ "Pack" ∷ "Unpack" ∷ "MoveTo" ∷ "MoveFrom" ∷ "Exists"
    ∷ "BorrowLoc" ∷ "BorrowField" ∷ "BorrowGlobal" ∷ "GetField" ∷ "GetGlobal" ∷ "Destroy" ∷ "ReadRef" ∷ "WriteRef"
    ∷ "FreezeRef" ∷ "Havoc" ∷ "Stop" ∷ "IsParent" ∷ "WriteBack" ∷ "UnpackRef" ∷ "PackRef" ∷ "UnpackRefDeep"
    ∷ "PackRefDeep" ∷ "CastU8" ∷ "CastU64" ∷ "CastU128" ∷ "Not" ∷ "Add" ∷ "Sub" ∷ "Mul"
    ∷ "Div" ∷ "Mod" ∷ "BitOr" ∷ "BitAnd" ∷ "Xor" ∷ "Shl" ∷ "Shr" ∷ "Lt"
    ∷ "Gt" ∷ "Le" ∷ "Ge" ∷ "Or" ∷ "And" ∷ "Eq" ∷ "Neq" ∷ "CastU256"
    ∷ "TraceLocal" ∷ "TraceReturn" ∷ "TraceAbort" ∷ "TraceExp" ∷ "TraceGlobalMem" ∷ "EmitEvent" ∷ "EventStoreDiverge" ∷ [])

-- the enum `Constant`
abbrev pub constants : List (List ℕ)
constants = map codes ("Bool" ∷ "U8" ∷ "U64" ∷ "U128" ∷ "U256" ∷ "Address" ∷ "ByteArray" ∷ [])

abbrev pub props : List (List ℕ)
props = map codes ("Assert" ∷ "Assume" ∷ "Modifies" ∷ [])

-- the names of a kind's subs; the other kinds have none
unfoldable pub names : ℕ → List (List ℕ)
names kind =
    cond (eqb kind Assign) assigns
    (cond (eqb kind Call) operations
    (cond (eqb kind Load) constants
    (cond (eqb kind Prop) props [])))

-- ---- an instruction

-- "t1 t2 <- ", or nothing
unfoldable pub destinations : Bytecode → List ℕ
destinations r = listed (codes "t") (codes " ") (dsts_of r) ++ cond (eqb r.ndst 0) [] (codes "<- ")

-- " L1 L2 on"
unfoldable pub branch_labels : ℕ → ℕ → List ℕ
branch_labels one two = said (codes " L") one ++ said (codes " L") two ++ codes " on"

-- the labels of a Branch, of a Jump and of a Label
unfoldable pub labels : Bytecode → List ℕ
labels r =
    cond (eqb r.kind Branch) (branch_labels r.one r.two)
    (cond (eqb r.kind Jump || eqb r.kind Label) (said (codes " L") r.one) [])

-- " t0 t3"
unfoldable pub sources : Bytecode → List ℕ
sources r = listed (codes " t") [] (srcs_of r)

-- " abort L1 into t0" of a flagged Call
unfoldable pub aborting : Bytecode → List ℕ
aborting r = cond (eqb r.flag 1) (said (codes " abort L") r.one ++ said (codes " into t") r.abort) []

-- destinations, what is done, the labels
unfoldable pub does : Bytecode → List ℕ
does r = destinations r ++ word r.kind verbs ++ word r.sub (names r.kind) ++ labels r

-- sources, the abort action, payload and attribute id where they are not 0
unfoldable pub takes : Bytecode → List ℕ
takes r = sources r ++ aborting r ++ marked (codes " #") r.payload ++ marked (codes " @") r.attr

-- the line of the instruction at offset k
unfoldable pub code_line : ℕ → Bytecode → List ℕ
code_line k r = decimal k ++ codes ": " ++ does r ++ takes r ++ codes "\n"

-- ---- a sheet's code

-- the locals of a set that are below i, and all of them
unfoldable pub locals_below : ℕ → ℕ → List ℕ
locals_below i m = listed (codes " t") [] (members i m)

abbrev pub locals_in : ℕ → List ℕ
locals_in m = locals_below max_locals m

-- "locals 3 user 3 parameters 0 references"
unfoldable pub counts : List ℕ → List ℕ
counts s =
    said (codes "locals ") (locals_of s) ++ said (codes " user ") (user_locals_of s) ++ said (codes " parameters ") (parameters_of s)
    ++ codes " references"

-- the counts, and the locals that are references
unfoldable pub heading_text : List ℕ → List ℕ
heading_text s = counts s ++ locals_in (refs_of s) ++ codes "\n"

-- the lines of the first n instructions
unfoldable pub code_lines : List Bytecode → ℕ → List ℕ
code_lines code n = joins n (λ k. code_line k (at code k))

-- the heading, and a line for each instruction
unfoldable pub code_text : List ℕ → List ℕ
code_text s = let code = code_of s in heading_text s ++ code_lines code (length code)

-- The names as texts that have a bar behind each word. Assumes nothing.
use Rattle.std.specs.Prelude.{ℕ, zero, suc, cond, List, [], ◌∷◌, eqb, codes}
use Rattle.stackless_bytecode.specs.Kinds.{Assign, Call, Load, Prop}

-- word i of such a text
unfoldable pub barred_word : ℕ → List ℕ → List ℕ
barred_word i [] = []
barred_word zero (b ∷ bs) = cond (eqb b 124) [] (b ∷ barred_word zero bs)
barred_word (suc i) (b ∷ bs) = cond (eqb b 124) (barred_word i bs) (barred_word (suc i) bs)

-- a byte in front of the first word of a list
unfoldable pub in_front : ℕ → List (List ℕ) → List (List ℕ)
in_front b [] = (b ∷ []) ∷ []
in_front b (w ∷ ws) = (b ∷ w) ∷ ws

-- the list of its words
unfoldable pub words_of : List ℕ → List (List ℕ)
words_of [] = []
words_of (b ∷ bs) = cond (eqb b 124) ([] ∷ words_of bs) (in_front b (words_of bs))

-- what an instruction of each kind begins with
abbrev pub barred_verbs : List ℕ
barred_verbs = codes "|call |ret|load |branch|jump|label|abort|nop|savemem|savespecvar|prop |"

-- the names of an Assign, a Call, a Load and a Prop
abbrev pub barred_assigns : List ℕ
barred_assigns = codes "copy|move|store|"

abbrev pub barred_operations : List ℕ
barred_operations = codes "Function|OpaqueCallBegin|OpaqueCallEnd|Pack|Unpack|MoveTo|MoveFrom|Exists|BorrowLoc|BorrowField|BorrowGlobal|GetField|GetGlobal|Destroy|ReadRef|WriteRef|FreezeRef|Havoc|Stop|IsParent|WriteBack|UnpackRef|PackRef|UnpackRefDeep|PackRefDeep|CastU8|CastU64|CastU128|Not|Add|Sub|Mul|Div|Mod|BitOr|BitAnd|Xor|Shl|Shr|Lt|Gt|Le|Ge|Or|And|Eq|Neq|CastU256|TraceLocal|TraceReturn|TraceAbort|TraceExp|TraceGlobalMem|EmitEvent|EventStoreDiverge|"

abbrev pub barred_constants : List ℕ
barred_constants = codes "Bool|U8|U64|U128|U256|Address|ByteArray|"

abbrev pub barred_props : List ℕ
barred_props = codes "Assert|Assume|Modifies|"

-- the names of a kind's subs; the other kinds have none
unfoldable pub barred_names : ℕ → List ℕ
barred_names kind =
    cond (eqb kind Assign) barred_assigns
    (cond (eqb kind Call) barred_operations
    (cond (eqb kind Load) barred_constants
    (cond (eqb kind Prop) barred_props [])))

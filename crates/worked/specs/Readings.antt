-- Readings that the worked sheets do not pin down, by computation: each refusal, keys, double edges, exits with a flag, merging, graphs. Assumes nothing.
use Rattle.base.specs.declared.Refusal.{Refusal}
use Rattle.base.specs.declared.Refusal.TheVariants.{AskedNode, Block, CodeTooLong, FallsThrough, FirstBlock, FlaggedStop, Heading, LabelRepeated, LabelUndefined, Length, Local, LocalHidden, Nodes, NumberTooHigh, OutputShort, Record, TooManySheets, Triples}
use Rattle.std.specs.Prelude.{◌≡◌, refl, false, List, [], ◌∷◌, ◌++◌, map, ℕ, zero, suc, ◌+◌, ◌*◌, ◌^◌, ◌-◌, ◌<◌, set, replicate, Err}
use Rattle.std.proofs.Common.{arith}
use Rattle.base.specs.Sizes.{set_bytes, block_bytes, max_bytes}
use Rattle.base.specs.Lists.{tab, gather}
use Rattle.base.specs.Bytes.{bytes_of}
use Rattle.base.specs.Refusals.{Done, number_of, place_of}
use Rattle.stackless_bytecode.specs.declared.Bytecode.{Bytecode}
use Rattle.stackless_bytecode.specs.Kinds.{at, Stop, Destroy, IsParent, WriteBack}
use Rattle.stackless_bytecode.specs.declared.Lookup.TheVariants.{Named, Unnamed, Undefined}
use Rattle.stackless_bytecode.specs.Labels.{lookup}
use Rattle.stackless_bytecode.specs.Successors.{successors}
use Rattle.dataflow_domains.specs.Mask.{unions}
use Rattle.sheet.specs.Layout.{count_of, block_of, sheet_of}
use Rattle.sheet.specs.Checks.{heading_ok, check_sheet}
use Rattle.stackless_control_flow_graph.specs.Blocks.{flow_table, flow_reply}
use Rattle.livevar_analysis.specs.Live.{execute, Obeys}
use Rattle.livevar_analysis.specs.Analysis.{analyze, live_reply}
use Rattle.label.specs.LabelCall.{label_reply}
use Rattle.eliminate_unused_vars.specs.Renumber.{renumber_reply}
use Rattle.livevar_transform.specs.Rewrite.{transform_code, rewrite_reply}
use Rattle.borrow_analysis.specs.Borrows.{in_use_reply, conditional_reply, dying_reply}
use Rattle.worked.specs.Samples.{heading_of, plain, flagged, m1, m2_unnamed, assign, call, ret, load, branch, jump, label, Not, ReadRef}
use Rattle.worked.specs.Worked.{sets}
use Rattle.worked.specs.Opened.{opened}

-- a sheet of this many locals without parameters or references
unfoldable pub sheet_with : ℕ → List Bytecode → List ℕ
sheet_with locals code = sheet_of (heading_of locals 0 0) code

-- code rewritten with its own live sets: so many locals, these references
unfoldable pub rewritten_of : ℕ → ℕ → List Bytecode → List Bytecode
rewritten_of locals refs code = transform_code code (analyze code locals).info refs

-- 15 Branches whose else edge, to label l, loses 64 references: 41 instructions that would become 1,031
unfoldable pub losing : ℕ → List ℕ
losing l =
    sheet_of (heading_of 64 0 (2 ^ 64 - 1)) (gather (λ i. branch 0 (i + 1) l 0 ∷ label 0 (i + 1) ∷ []) (tab 15 0 (λ i. i))
    ++ gather (λ i. call 0 Destroy [] (tab 8 (8 * i) (λ x. x)) ∷ []) (tab 8 0 (λ i. i))
    ++ (ret 0 [] ∷ label 0 l ∷ ret 0 [] ∷ []))

-- the byte at `at` is x, and the check of the heading, whose low byte is 2, then c
unfoldable pub changed : List ℕ → ℕ → ℕ → ℕ → List ℕ
changed s at x c = set (set s at x) 2 c

-- ---- the table

-- a row: a refusal's number and its place
pub record Row (e : Refusal) (number place : ℕ) : Type 0 where
  pub number_is : number_of e ≡ number
  pub place_is : place_of e ≡ place

-- all rows: the readings below and those of class sets name refusals, and here is the number and the place of each
pub record RefusalTable : Type 0 where
  pub row_1 : Row Length 1 0
  pub row_2 : (p : ℕ) → Row (Block p) 2 p
  pub row_3 : Row Heading 3 0
  pub row_4 : (p : ℕ) → Row (Record p) 4 p
  pub row_5 : (p : ℕ) → Row (Local p) 5 p
  pub row_6 : (p : ℕ) → Row (LabelRepeated p) 6 p
  pub row_7 : (p : ℕ) → Row (LabelUndefined p) 7 p
  pub row_8 : (p : ℕ) → Row (FallsThrough p) 8 p
  pub row_9 : Row OutputShort 9 0
  pub row_10 : Row NumberTooHigh 10 0
  pub row_11 : Row CodeTooLong 11 0
  pub row_12 : (p : ℕ) → Row (Nodes p) 12 p
  pub row_13 : (p : ℕ) → Row (Triples p) 13 p
  pub row_14 : Row AskedNode 14 0
  pub row_15 : (p : ℕ) → Row (LocalHidden p) 15 p
  pub row_16 : Row FirstBlock 16 0
  pub row_17 : Row TooManySheets 17 0
  pub row_18 : (p : ℕ) → Row (FlaggedStop p) 18 p

pub refusal_table : RefusalTable
refusal_table = record {
  row_1 = record { number_is = refl; place_is = refl };
  row_2 = λ p. record { number_is = refl; place_is = refl };
  row_3 = record { number_is = refl; place_is = refl };
  row_4 = λ p. record { number_is = refl; place_is = refl };
  row_5 = λ p. record { number_is = refl; place_is = refl };
  row_6 = λ p. record { number_is = refl; place_is = refl };
  row_7 = λ p. record { number_is = refl; place_is = refl };
  row_8 = λ p. record { number_is = refl; place_is = refl };
  row_9 = record { number_is = refl; place_is = refl };
  row_10 = record { number_is = refl; place_is = refl };
  row_11 = record { number_is = refl; place_is = refl };
  row_12 = λ p. record { number_is = refl; place_is = refl };
  row_13 = λ p. record { number_is = refl; place_is = refl };
  row_14 = record { number_is = refl; place_is = refl };
  row_15 = λ p. record { number_is = refl; place_is = refl };
  row_16 = record { number_is = refl; place_is = refl };
  row_17 = record { number_is = refl; place_is = refl };
  row_18 = λ p. record { number_is = refl; place_is = refl };
}

-- ---- refusals

pub record Refusals : Type 0 where
  pub refused_1 : check_sheet [] ≡ Err Length
  pub refused_2_check : check_sheet (set m1 2 5) ≡ Err (Block 0)
  pub refused_2_later : check_sheet (set m1 600 1) ≡ Err (Block 1)
  -- n 0, and block 1 broken: check 2 comes first
  pub refused_2_first : check_sheet (set (changed m1 4 0 3) 600 1) ≡ Err (Block 1)
  pub refused_3_none : check_sheet (changed m1 4 0 3) ≡ Err Heading
  -- a spare whole block, and a missing one
  pub refused_3_spare : check_sheet (m1 ++ block_of 2 (replicate (block_bytes - 4) 0)) ≡ Err Heading
  pub refused_3_missing : check_sheet (changed m1 4 16 19) ≡ Err Heading
  pub refused_3_locals : check_sheet (sheet_with 65 (ret 0 [] ∷ [])) ≡ Err Heading
  pub refused_3_mask : check_sheet (sheet_of (heading_of 1 0 2) (ret 0 [] ∷ [])) ≡ Err Heading
  pub refused_4_kind : check_sheet (sheet_with 1 (ret 0 [] ∷ plain 12 0 0 0 0 [] [] ∷ [])) ≡ Err (Record 1)
  pub refused_4_sub : check_sheet (sheet_with 1 (plain 0 3 0 0 0 (0 ∷ []) (0 ∷ []) ∷ ret 0 [] ∷ [])) ≡ Err (Record 0)
  -- a record past n, at its own place
  pub refused_4_past : check_sheet (changed (sheet_with 1 (ret 0 [] ∷ ret 0 [] ∷ [])) 4 1 3) ≡ Err (Record 1)
  -- each check runs over the whole sheet before the next, 18 behind 4 and before 5
  pub refused_4_first : check_sheet (sheet_with 1 (ret 0 (1 ∷ []) ∷ plain 0 3 0 0 0 (0 ∷ []) (0 ∷ []) ∷ ret 0 [] ∷ [])) ≡ Err (Record 1)
  pub refused_18 : check_sheet (sheet_with 1 (call 0 Stop [] [] ∷ flagged (call 0 Not [] []) 1 0 ∷ flagged (call 0 Stop [] []) 1 0 ∷ flagged (call 0 Stop [] []) 1 0 ∷ label 0 1 ∷ [])) ≡ Err (FlaggedStop 2)
  pub refused_4_not_18 : check_sheet (sheet_with 1 (flagged (call 0 Stop [] []) 1 0 ∷ plain 12 0 0 0 0 [] [] ∷ [])) ≡ Err (Record 1)
  pub refused_18_not_5 : check_sheet (sheet_with 1 (ret 0 (1 ∷ []) ∷ flagged (call 0 Stop [] []) 1 1 ∷ [])) ≡ Err (FlaggedStop 1)
  pub refused_5 : check_sheet (sheet_with 1 (ret 0 (1 ∷ []) ∷ [])) ≡ Err (Local 0)
  pub refused_5_abort : check_sheet (sheet_with 1 (flagged (call 0 Not [] []) 1 1 ∷ label 0 1 ∷ ret 0 [] ∷ [])) ≡ Err (Local 0)
  pub refused_6 : check_sheet (sheet_with 1 (label 0 1 ∷ label 0 1 ∷ ret 0 [] ∷ [])) ≡ Err (LabelRepeated 1)
  pub refused_7 : check_sheet (sheet_with 1 (label 0 1 ∷ jump 0 9 ∷ [])) ≡ Err (LabelUndefined 1)
  pub refused_8 : check_sheet (sheet_with 1 (load 0 0 ∷ [])) ≡ Err (FallsThrough 0)
  -- whether or not a path reaches the end
  pub refused_8_unreached : check_sheet (sheet_with 1 (ret 0 [] ∷ load 0 0 ∷ [])) ≡ Err (FallsThrough 1)
  pub refused_9_flow : flow_reply m1 5 ≡ Err OutputShort
  pub refused_9_live : live_reply m1 15 ≡ Err OutputShort
  pub refused_9_rewrite : rewrite_reply m1 (max_bytes - 1) ≡ Err OutputShort
  pub refused_9_dying : dying_reply (record { count = 2; live = 1; numbers = [] }) (record { count = 0; live = 0; numbers = [] }) 1 ≡ Err OutputShort
  pub refused_10 : rewrite_reply (sheet_of (heading_of 3 0 2) (branch 0 65535 2 0 ∷ label 1 65535 ∷ call 2 ReadRef (2 ∷ []) (1 ∷ []) ∷ ret 3 (2 ∷ []) ∷ label 4 2 ∷ ret 5 [] ∷ [])) max_bytes ≡ Err NumberTooHigh
  -- the highest attribute id of M6 that leaves room for three more, and the next
  pub accepted_10 : rewrite_reply (sheet_of (heading_of 3 0 2) (branch 0 1 2 0 ∷ label 1 1 ∷ call 2 ReadRef (2 ∷ []) (1 ∷ []) ∷ ret 3 (2 ∷ []) ∷ label 4 2 ∷ ret 65532 [] ∷ [])) max_bytes
      ≡ Done 1024 (sheet_of (heading_of 3 0 2) (branch 0 1 3 0 ∷ label 1 1 ∷ call 2 ReadRef (2 ∷ []) (1 ∷ []) ∷ ret 3 (2 ∷ []) ∷ label 4 2 ∷ ret 65532 [] ∷ label 65533 3 ∷ call 65534 Destroy [] (1 ∷ []) ∷ jump 65535 2 ∷ []))
  pub refused_10_attr : rewrite_reply (sheet_of (heading_of 3 0 2) (branch 0 1 2 0 ∷ label 1 1 ∷ call 2 ReadRef (2 ∷ []) (1 ∷ []) ∷ ret 3 (2 ∷ []) ∷ label 4 2 ∷ ret 65533 [] ∷ [])) max_bytes ≡ Err NumberTooHigh
  -- 10 is asked only where a block is needed
  pub unasked_10 : rewrite_reply (sheet_with 1 (label 65535 65535 ∷ ret 0 [] ∷ [])) max_bytes ≡ Done 1024 (sheet_with 1 (label 65535 65535 ∷ ret 0 [] ∷ []))
  pub refused_11 : rewrite_reply (losing 99) max_bytes ≡ Err CodeTooLong
  -- both at once is 10
  pub refused_10_first : rewrite_reply (losing 65535) max_bytes ≡ Err NumberTooHigh
  pub refused_12 : in_use_reply (record { count = 3; live = 8; numbers = [] }) 0 ≡ Err (Nodes 0)
  pub refused_12_second : dying_reply (record { count = 3; live = 4; numbers = 0 ∷ 3 ∷ 0 ∷ [] }) (record { count = 3; live = 8; numbers = [] }) 3 ≡ Err (Nodes 1)
  pub refused_13_length : in_use_reply (record { count = 3; live = 0; numbers = 0 ∷ 1 ∷ [] }) 0 ≡ Err (Triples 300)
  pub refused_13_order : conditional_reply (record { count = 3; live = 0; numbers = 0 ∷ 2 ∷ 1 ∷ 0 ∷ 2 ∷ 1 ∷ [] }) 0 ≡ Err (Triples 1)
  pub refused_13_second : dying_reply (record { count = 3; live = 4; numbers = [] }) (record { count = 3; live = 0; numbers = 0 ∷ 3 ∷ 0 ∷ [] }) 3 ≡ Err (Triples 1000)
  pub refused_14 : in_use_reply (record { count = 3; live = 0; numbers = [] }) 3 ≡ Err AskedNode
  -- at the first of the two, and before 9
  pub refused_15 : renumber_reply (sheet_with 1 (ret 0 [] ∷ call 0 WriteBack [] [] ∷ call 0 IsParent [] [] ∷ ret 0 [] ∷ [])) 0 ≡ Err (LocalHidden 1)
  pub refused_15_first : renumber_reply (sheet_with 1 (call 0 IsParent [] [] ∷ call 0 WriteBack [] [] ∷ ret 0 [] ∷ [])) max_bytes ≡ Err (LocalHidden 0)
  pub refused_8_first : renumber_reply (sheet_with 1 (call 0 IsParent [] [] ∷ [])) max_bytes ≡ Err (FallsThrough 0)
  pub refused_9_renumber : renumber_reply m1 1023 ≡ Err OutputShort
  pub enough_9_renumber : renumber_reply m1 1024 ≡ Done 1024 m1

pub refusals : Refusals
unfolding sheet_with losing changed opened
refusals = record {
  refused_1 = refl;
  refused_2_check = refl;
  refused_2_later = refl;
  refused_2_first = refl;
  refused_3_none = refl;
  refused_3_spare = refl;
  refused_3_missing = refl;
  refused_3_locals = refl;
  refused_3_mask = refl;
  refused_4_kind = refl;
  refused_4_sub = refl;
  refused_4_past = refl;
  refused_4_first = refl;
  refused_18 = refl;
  refused_4_not_18 = refl;
  refused_18_not_5 = refl;
  refused_5 = refl;
  refused_5_abort = refl;
  refused_6 = refl;
  refused_7 = refl;
  refused_8 = refl;
  refused_8_unreached = refl;
  refused_9_flow = refl;
  refused_9_live = refl;
  refused_9_rewrite = refl;
  refused_9_dying = refl;
  refused_10 = refl;
  accepted_10 = refl;
  refused_10_attr = refl;
  unasked_10 = refl;
  refused_11 = refl;
  refused_10_first = refl;
  refused_12 = refl;
  refused_12_second = refl;
  refused_13_length = refl;
  refused_13_order = refl;
  refused_13_second = refl;
  refused_14 = refl;
  refused_15 = refl;
  refused_15_first = refl;
  refused_8_first = refl;
  refused_9_renumber = refl;
  enough_9_renumber = refl;
}

-- n 1,025 breaks the heading, whatever else the sheet has and however many blocks
pub too_many : (s : List ℕ) → count_of s ≡ 1025 → heading_ok s ≡ false
unfolding heading_ok
too_many s e = rw e

-- ---- flow, live and graphs

pub record Readings : Type 0 where
  -- a block takes its key after its successors
  pub successors_first : flow_table (jump 0 1 ∷ label 0 1 ∷ ret 0 [] ∷ []) ≡ 0 ∷ 0 ∷ 3 ∷ 2 ∷ 0 ∷ 0 ∷ 1 ∷ 2 ∷ 2 ∷ 1 ∷ 0 ∷ 0 ∷ []
  -- successor keys stand in the order of the offsets: 4 before 2
  pub by_offset : flow_table (jump 0 2 ∷ label 0 1 ∷ branch 0 1 2 0 ∷ label 0 2 ∷ ret 0 [] ∷ []) ≡ 0 ∷ 0 ∷ 3 ∷ 2 ∷ 0 ∷ 0 ∷ 1 ∷ 2 ∷ 4 ∷ 4 ∷ 2 ∷ 0 ∷ 3 ∷ 4 ∷ 2 ∷ 1 ∷ 0 ∷ 0 ∷ []
  -- a double edge stands twice
  pub double_edge : flow_table (branch 0 1 1 0 ∷ label 0 1 ∷ ret 0 [] ∷ []) ≡ 0 ∷ 0 ∷ 3 ∷ 2 ∷ 2 ∷ 0 ∷ 1 ∷ 2 ∷ 2 ∷ 1 ∷ 0 ∷ 0 ∷ []
  pub double_edge_taken : (analyze (branch 0 1 1 0 ∷ label 0 1 ∷ ret 0 [] ∷ []) 1).taken ≡ 4
  -- a Label that nobody names starts no block
  pub unnamed_label : flow_table (label 0 5 ∷ ret 0 [] ∷ []) ≡ 0 ∷ 1 ∷ 2 ∷ 1 ∷ 0 ∷ 0 ∷ []
  -- a Label is named by code that no path reaches, too
  pub named_unreached : flow_table (plain 8 0 0 0 0 [] [] ∷ label 0 1 ∷ ret 0 [] ∷ jump 0 1 ∷ []) ≡ 0 ∷ 0 ∷ 3 ∷ 2 ∷ 0 ∷ 0 ∷ 1 ∷ 2 ∷ 2 ∷ 1 ∷ 0 ∷ 0 ∷ 3 ∷ 3 ∷ 4 ∷ 2 ∷ 0 ∷ 0 ∷ []
  -- the set's bytes: before, then after
  pub live_bytes_lem : live_reply m1 16 ≡ Done 3 (1 ∷ 0 ∷ 0 ∷ 0 ∷ 0 ∷ 0 ∷ 0 ∷ 0 ∷ 0 ∷ 0 ∷ 0 ∷ 0 ∷ 0 ∷ 0 ∷ 0 ∷ 0 ∷ [])
  -- a destination that is a source stays in, and so does d in an Assign from d to d
  pub destination_is_source : (analyze (call 0 Not (0 ∷ []) (0 ∷ []) ∷ ret 0 (0 ∷ []) ∷ []) 1).info ≡ sets 1 1 ∷ sets 1 0 ∷ []
  pub assign_to_itself : (analyze (assign 0 0 0 ∷ ret 0 (0 ∷ []) ∷ []) 1).info ≡ sets 1 1 ∷ sets 1 0 ∷ []
  -- two triples from one parent make a node conditional, and its ancestors
  pub two_triples_one_parent : conditional_reply (record { count = 3; live = 0; numbers = 0 ∷ 2 ∷ 0 ∷ 0 ∷ 2 ∷ 1 ∷ [] }) 0 ≡ Done 1 []
  pub one_triple : conditional_reply (record { count = 3; live = 0; numbers = 0 ∷ 2 ∷ 0 ∷ [] }) 0 ≡ Done 0 []
  -- a triple from a node to itself counts as incoming
  pub triple_to_itself : conditional_reply (record { count = 2; live = 0; numbers = 0 ∷ 1 ∷ 0 ∷ 1 ∷ 1 ∷ 0 ∷ [] }) 1 ≡ Done 1 []
  -- in use on a cycle
  pub in_use_on_a_cycle : in_use_reply (record { count = 2; live = 2; numbers = 0 ∷ 1 ∷ 0 ∷ 1 ∷ 0 ∷ 0 ∷ [] }) 0 ≡ Done 1 []
  pub unused_on_a_cycle : in_use_reply (record { count = 3; live = 4; numbers = 0 ∷ 1 ∷ 0 ∷ 1 ∷ 0 ∷ 0 ∷ [] }) 0 ≡ Done 0 []
  -- the listing of dying nodes is not always child first
  pub not_child_first : dying_reply (record { count = 3; live = 6; numbers = 0 ∷ 1 ∷ 0 ∷ 0 ∷ 2 ∷ 0 ∷ [] }) (record { count = 0; live = 0; numbers = [] }) 3 ≡ Done 3 (1 ∷ 0 ∷ 2 ∷ [])

pub readings : Readings
unfolding opened
readings = record {
  successors_first = refl;
  by_offset = refl;
  double_edge = refl;
  double_edge_taken = refl;
  unnamed_label = refl;
  named_unreached = refl;
  live_bytes_lem = refl;
  destination_is_source = refl;
  assign_to_itself = refl;
  two_triples_one_parent = refl;
  one_triple = refl;
  triple_to_itself = refl;
  in_use_on_a_cycle = refl;
  unused_on_a_cycle = refl;
  not_child_first = refl;
}

-- ---- labels

pub record LabelReadings : Type 0 where
  -- named before its Label alone, and behind it alone
  pub named_before : lookup (jump 0 1 ∷ label 0 1 ∷ ret 0 [] ∷ []) 1 ≡ Named 1
  pub named_behind : lookup (label 0 1 ∷ jump 0 1 ∷ []) 1 ≡ Named 0
  -- by the else of a Branch, by a flagged Call, and by code that no path reaches
  pub by_else : lookup (branch 0 1 2 0 ∷ label 0 1 ∷ label 0 2 ∷ ret 0 [] ∷ []) 2 ≡ Named 2
  pub by_abort : lookup (flagged (call 0 Not [] []) 1 0 ∷ label 0 1 ∷ ret 0 [] ∷ []) 1 ≡ Named 1
  pub by_unreached : lookup (label 0 1 ∷ ret 0 [] ∷ jump 0 1 ∷ []) 1 ≡ Named 0
  -- its own Label names nothing, nor do the zeros in the label fields of other kinds
  pub own_label : lookup (label 0 5 ∷ ret 0 [] ∷ []) 5 ≡ Unnamed 0
  pub zeros_name_nothing : lookup (call 0 Not [] [] ∷ label 0 0 ∷ jump 0 5 ∷ label 0 5 ∷ ret 0 [] ∷ []) 0 ≡ Unnamed 1
  pub undefined : lookup (label 0 5 ∷ ret 0 [] ∷ []) 4 ≡ Undefined
  -- in one number: M2 with a Label 5 that nobody names
  pub value_named : label_reply m2_unnamed 2 ≡ Done (65536 + 3) []
  pub value_unnamed : label_reply m2_unnamed 5 ≡ Done (2 * 65536 + 1) []
  pub value_undefined : label_reply m2_unnamed 9 ≡ Done (3 * 65536) []
  -- above 65,535 all are undefined: 65,537 is not label 1
  pub value_high : label_reply m2_unnamed 65537 ≡ Done (3 * 65536) []
  -- and Label 5 starts no block
  pub no_block : flow_reply m2_unnamed 12 ≡ Done 2 (0 ∷ 2 ∷ 2 ∷ 2 ∷ 3 ∷ 0 ∷ 3 ∷ 4 ∷ 3 ∷ 1 ∷ 0 ∷ 0 ∷ [])
  pub label_refused_7 : label_reply (sheet_with 1 (label 0 1 ∷ jump 0 9 ∷ [])) 9 ≡ Err (LabelUndefined 1)

pub label_readings : LabelReadings
unfolding sheet_with opened
label_readings = record {
  named_before = refl;
  named_behind = refl;
  by_else = refl;
  by_abort = refl;
  by_unreached = refl;
  own_label = refl;
  zeros_name_nothing = refl;
  undefined = refl;
  value_named = refl;
  value_unnamed = refl;
  value_undefined = refl;
  value_high = refl;
  no_block = refl;
  label_refused_7 = refl;
}

-- sets that hold local 0 everywhere obey the rules of an endless loop that never uses it
pub room_for_more : Obeys (label 0 1 ∷ jump 0 1 ∷ []) (λ k. 1) (λ k. 1)
unfolding opened
room_for_more = record { after = after; before = before }
  where
    after : (k : ℕ) → k < 2 → 1 ≡ unions (map (λ (j : ℕ). 1) (successors (label 0 1 ∷ jump 0 1 ∷ []) k))
    after zero h = refl
    after (suc zero) h = refl
    after (suc (suc k)) h = absurd (omega arith)

    before : (k : ℕ) → k < 2 → 1 ≡ execute (at (label 0 1 ∷ jump 0 1 ∷ []) k) 1
    before zero h = refl
    before (suc zero) h = refl
    before (suc (suc k)) h = absurd (omega arith)

-- ---- rewriting

pub record Rewritings : Type 0 where
  -- a Call takes the destination of a dead Assign too
  pub dead_assign : rewritten_of 2 0 (call 0 Not (0 ∷ []) [] ∷ assign 0 1 0 ∷ ret 0 [] ∷ []) ≡ call 0 Not (1 ∷ []) [] ∷ ret 0 [] ∷ []
  -- a Load that is dropped between the two keeps them apart, and a second rewriting merges them
  pub apart : rewritten_of 3 0 (call 0 Not (0 ∷ []) [] ∷ load 0 2 ∷ assign 0 1 0 ∷ ret 0 (1 ∷ []) ∷ []) ≡ call 0 Not (0 ∷ []) [] ∷ assign 0 1 0 ∷ ret 0 (1 ∷ []) ∷ []
  pub second : rewritten_of 3 0 (call 0 Not (0 ∷ []) [] ∷ assign 0 1 0 ∷ ret 0 (1 ∷ []) ∷ []) ≡ call 0 Not (1 ∷ []) [] ∷ ret 0 (1 ∷ []) ∷ []
  -- only one Assign a Call
  pub one_assign : rewritten_of 3 0 (call 0 Not (0 ∷ []) [] ∷ assign 0 1 0 ∷ assign 0 2 1 ∷ ret 0 (2 ∷ []) ∷ []) ≡ call 0 Not (1 ∷ []) [] ∷ assign 0 2 1 ∷ ret 0 (2 ∷ []) ∷ []
  -- a destination listed twice is two destinations
  pub two_destinations : rewritten_of 2 0 (call 0 Not (0 ∷ 0 ∷ []) [] ∷ assign 0 1 0 ∷ ret 0 (1 ∷ []) ∷ []) ≡ call 0 Not (0 ∷ 0 ∷ []) [] ∷ assign 0 1 0 ∷ ret 0 (1 ∷ []) ∷ []
  -- a destination that is used behind the Assign stays
  pub used_again : rewritten_of 2 0 (call 0 Not (0 ∷ []) [] ∷ assign 0 1 0 ∷ ret 0 (0 ∷ 1 ∷ []) ∷ []) ≡ call 0 Not (0 ∷ []) [] ∷ assign 0 1 0 ∷ ret 0 (0 ∷ 1 ∷ []) ∷ []
  -- a Stop, and a flagged Call, merge as any Call
  pub stop : rewritten_of 2 0 (call 0 Stop (0 ∷ []) [] ∷ assign 0 1 0 ∷ ret 0 (1 ∷ []) ∷ []) ≡ call 0 Stop (1 ∷ []) [] ∷ ret 0 (1 ∷ []) ∷ []
  pub flag : rewritten_of 3 0 (flagged (call 0 Not (0 ∷ []) []) 1 2 ∷ assign 0 1 0 ∷ ret 0 (1 ∷ []) ∷ label 0 1 ∷ ret 0 [] ∷ []) ≡ flagged (call 0 Not (1 ∷ []) []) 1 2 ∷ ret 0 (1 ∷ []) ∷ label 0 1 ∷ ret 0 [] ∷ []
  -- both edges lose: the then block comes first; an unnamed Label and dropped attributes count for the numbers
  pub both_edges : rewritten_of 4 6 (branch 0 1 2 0 ∷ label 0 1 ∷ call 0 ReadRef (3 ∷ []) (1 ∷ []) ∷ ret 0 (3 ∷ []) ∷ label 0 2 ∷ call 0 ReadRef (3 ∷ []) (2 ∷ []) ∷ label 0 7 ∷ load 9 0 ∷ ret 0 (3 ∷ []) ∷ [])
      ≡ branch 0 8 9 0 ∷ label 0 1 ∷ call 0 ReadRef (3 ∷ []) (1 ∷ []) ∷ ret 0 (3 ∷ []) ∷ label 0 2 ∷ call 0 ReadRef (3 ∷ []) (2 ∷ []) ∷ label 0 7 ∷ ret 0 (3 ∷ [])
      ∷ label 10 8 ∷ call 11 Destroy [] (2 ∷ []) ∷ jump 12 1 ∷ label 13 9 ∷ call 14 Destroy [] (1 ∷ []) ∷ jump 15 2 ∷ []
  -- each Branch has blocks of its own
  pub two_branches : rewritten_of 2 2 (branch 0 1 2 0 ∷ label 0 1 ∷ branch 0 3 2 0 ∷ label 0 3 ∷ call 0 ReadRef (0 ∷ []) (1 ∷ []) ∷ ret 0 (0 ∷ []) ∷ label 0 2 ∷ ret 0 [] ∷ [])
      ≡ branch 0 1 4 0 ∷ label 0 1 ∷ branch 0 3 5 0 ∷ label 0 3 ∷ call 0 ReadRef (0 ∷ []) (1 ∷ []) ∷ ret 0 (0 ∷ []) ∷ label 0 2 ∷ ret 0 []
      ∷ label 1 4 ∷ call 2 Destroy [] (1 ∷ []) ∷ jump 3 2 ∷ label 4 5 ∷ call 5 Destroy [] (1 ∷ []) ∷ jump 6 2 ∷ []

pub rewritings : Rewritings
unfolding rewritten_of opened
rewritings = record {
  dead_assign = refl;
  apart = refl;
  second = refl;
  one_assign = refl;
  two_destinations = refl;
  used_again = refl;
  stop = refl;
  flag = refl;
  both_edges = refl;
  two_branches = refl;
}

-- ---- renumbering

-- the sheet with so many locals, user locals and references
unfoldable pub users_sheet : ℕ → ℕ → ℕ → List Bytecode → List ℕ
users_sheet locals users refs code = sheet_of (bytes_of 2 locals ++ bytes_of 2 users ++ replicate 6 0 ++ bytes_of set_bytes refs ++ replicate (block_bytes - 16 - set_bytes) 0) code

pub record Renumberings : Type 0 where
  -- destinations, sources, abort local, record by record; an unmentioned user local stays, another one goes; the mask follows
  pub in_order : renumber_reply (users_sheet 7 1 32 (flagged (call 0 Not (5 ∷ []) (3 ∷ 5 ∷ [])) 1 6 ∷ ret 0 (3 ∷ []) ∷ label 0 1 ∷ ret 0 (2 ∷ []) ∷ [])) max_bytes
      ≡ Done 1024 (users_sheet 5 1 2 (flagged (call 0 Not (1 ∷ []) (2 ∷ 1 ∷ [])) 1 3 ∷ ret 0 (2 ∷ []) ∷ label 0 1 ∷ ret 0 (4 ∷ []) ∷ []))
  -- a local that only an abort action mentions stays
  pub only_abort : renumber_reply (users_sheet 3 0 0 (flagged (call 0 Not [] []) 1 2 ∷ label 0 1 ∷ ret 0 [] ∷ [])) max_bytes ≡ Done 1024 (users_sheet 1 0 0 (flagged (call 0 Not [] []) 1 0 ∷ label 0 1 ∷ ret 0 [] ∷ []))
  -- the 0 in the abort local of an unflagged Call, and those past a list's count, are no mention
  pub no_mention : renumber_reply (users_sheet 2 0 3 (call 0 Not [] (1 ∷ []) ∷ ret 0 [] ∷ [])) max_bytes ≡ Done 1024 (users_sheet 1 0 1 (call 0 Not [] (0 ∷ []) ∷ ret 0 [] ∷ []))
  -- unreached code mentions too
  pub unreached : renumber_reply (users_sheet 2 0 0 (ret 0 [] ∷ ret 0 (1 ∷ []) ∷ [])) max_bytes ≡ Done 1024 (users_sheet 1 0 0 (ret 0 [] ∷ ret 0 (0 ∷ []) ∷ []))

pub renumberings : Renumberings
unfolding users_sheet opened
renumberings = record { in_order = refl; only_abort = refl; no_mention = refl; unreached = refl }

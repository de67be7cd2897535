-- The paper's worked sheets, M1 to M8. Assumes nothing.
use Rattle.std.specs.Prelude.{ℕ, ◌-◌, List, [], ◌∷◌, ◌++◌, length, replicate}
use Rattle.base.specs.Sizes.{set_bytes, block_bytes}
use Rattle.base.specs.Bytes.{bytes_of}
use Rattle.stackless_bytecode.specs.declared.Bytecode.{Bytecode}
use Rattle.stackless_bytecode.specs.Kinds.{Assign, Call, Ret, Load, Branch, Jump, Label, Abort, Destroy}
use Rattle.sheet.specs.Layout.{padded, sheet_of}
use Rattle.borrow_analysis.specs.Graph.{GraphInput}

-- bytes 6 to 511 of a heading: locals (all of them user locals), parameters, references
unfoldable pub heading_of : ℕ → ℕ → ℕ → List ℕ
heading_of locals params refs = bytes_of 2 locals ++ bytes_of 2 locals ++ bytes_of 2 params ++ replicate 4 0 ++ bytes_of set_bytes refs ++ replicate (block_bytes - 16 - set_bytes) 0

-- kind, sub, attribute, labels, destinations, sources
unfoldable pub plain : ℕ → ℕ → ℕ → ℕ → ℕ → List ℕ → List ℕ → Bytecode
plain kind sub attr one two dsts srcs = record {
  kind = kind;
  sub = sub;
  attr = attr;
  one = one;
  two = two;
  ndst = length dsts;
  nsrc = length srcs;
  flag = 0;
  abort = 0;
  dsts = padded dsts;
  srcs = padded srcs;
  payload = 0;
}

-- the same Call with an abort label and an abort local
unfoldable pub flagged : Bytecode → ℕ → ℕ → Bytecode
flagged r label local = record {
  kind = r.kind;
  sub = r.sub;
  attr = r.attr;
  one = label;
  two = r.two;
  ndst = r.ndst;
  nsrc = r.nsrc;
  flag = 1;
  abort = local;
  dsts = r.dsts;
  srcs = r.srcs;
  payload = r.payload;
}

-- ---- the instructions, at an attribute id

abbrev pub assign : ℕ → ℕ → ℕ → Bytecode
assign a d s = plain Assign 0 a 0 0 (d ∷ []) (s ∷ [])

abbrev pub call : ℕ → ℕ → List ℕ → List ℕ → Bytecode
call a op ds ss = plain Call op a 0 0 ds ss

abbrev pub ret : ℕ → List ℕ → Bytecode
ret a ss = plain Ret 0 a 0 0 [] ss

abbrev pub load : ℕ → ℕ → Bytecode
load a d = plain Load 0 a 0 0 (d ∷ []) []

abbrev pub branch : ℕ → ℕ → ℕ → ℕ → Bytecode
branch a l1 l2 s = plain Branch 0 a l1 l2 [] (s ∷ [])

abbrev pub jump : ℕ → ℕ → Bytecode
jump a l = plain Jump 0 a l 0 [] []

abbrev pub label : ℕ → ℕ → Bytecode
label a l = plain Label 0 a l 0 [] []

abbrev pub abort : ℕ → ℕ → Bytecode
abort a s = plain Abort 0 a 0 0 [] (s ∷ [])

-- the operations that the sheets use
abbrev pub ReadRef : ℕ
ReadRef = 14

abbrev pub Not : ℕ
Not = 28

-- ---- the sheets

unfoldable pub m1 : List ℕ
m1 = sheet_of (heading_of 1 1 0) (ret 0 (0 ∷ []) ∷ [])

unfoldable pub m2 : List ℕ
m2 = sheet_of (heading_of 2 2 0) (label 0 1 ∷ branch 0 1 2 0 ∷ label 0 2 ∷ ret 0 (1 ∷ []) ∷ [])

-- M2 with a Label that nobody names
unfoldable pub m2_unnamed : List ℕ
m2_unnamed = sheet_of (heading_of 2 2 0) (label 0 1 ∷ label 0 5 ∷ branch 0 1 2 0 ∷ label 0 2 ∷ ret 0 (1 ∷ []) ∷ [])

unfoldable pub m3 : List ℕ
m3 = sheet_of (heading_of 2 0 0) (flagged (call 0 Not (1 ∷ []) (0 ∷ [])) 1 0 ∷ ret 0 (1 ∷ []) ∷ label 0 1 ∷ abort 0 0 ∷ [])

unfoldable pub m4 : List ℕ
m4 = sheet_of (heading_of 2 0 0) (assign 0 1 0 ∷ ret 0 [] ∷ [])

unfoldable pub m5 : List ℕ
m5 = sheet_of (heading_of 3 0 0) (load 0 0 ∷ call 0 Not (1 ∷ []) (0 ∷ []) ∷ assign 0 2 1 ∷ ret 0 (2 ∷ []) ∷ [])

unfoldable pub m6 : List ℕ
m6 = sheet_of (heading_of 3 0 2) (branch 0 1 2 0 ∷ label 1 1 ∷ call 2 ReadRef (2 ∷ []) (1 ∷ []) ∷ ret 3 (2 ∷ []) ∷ label 4 2 ∷ ret 5 [] ∷ [])

-- what livelist prints for M2
abbrev pub m2_text : List ℕ
m2_text =
    48 ∷ 32 ∷ 48 ∷ 48 ∷ 48 ∷ 48 ∷ 48 ∷ 48 ∷ 48 ∷ 48 ∷ 48 ∷ 48 ∷ 48 ∷ 48 ∷ 48 ∷ 48 ∷ 48 ∷ 51 ∷ 32 ∷ 48 ∷ 48 ∷ 48 ∷ 48 ∷ 48 ∷ 48 ∷ 48 ∷ 48 ∷ 48 ∷ 48 ∷ 48 ∷ 48 ∷ 48 ∷ 48 ∷ 48 ∷ 51 ∷ 10
    ∷ 49 ∷ 32 ∷ 48 ∷ 48 ∷ 48 ∷ 48 ∷ 48 ∷ 48 ∷ 48 ∷ 48 ∷ 48 ∷ 48 ∷ 48 ∷ 48 ∷ 48 ∷ 48 ∷ 48 ∷ 51 ∷ 32 ∷ 48 ∷ 48 ∷ 48 ∷ 48 ∷ 48 ∷ 48 ∷ 48 ∷ 48 ∷ 48 ∷ 48 ∷ 48 ∷ 48 ∷ 48 ∷ 48 ∷ 48 ∷ 51 ∷ 10
    ∷ 50 ∷ 32 ∷ 48 ∷ 48 ∷ 48 ∷ 48 ∷ 48 ∷ 48 ∷ 48 ∷ 48 ∷ 48 ∷ 48 ∷ 48 ∷ 48 ∷ 48 ∷ 48 ∷ 48 ∷ 50 ∷ 32 ∷ 48 ∷ 48 ∷ 48 ∷ 48 ∷ 48 ∷ 48 ∷ 48 ∷ 48 ∷ 48 ∷ 48 ∷ 48 ∷ 48 ∷ 48 ∷ 48 ∷ 48 ∷ 50 ∷ 10
    ∷ 51 ∷ 32 ∷ 48 ∷ 48 ∷ 48 ∷ 48 ∷ 48 ∷ 48 ∷ 48 ∷ 48 ∷ 48 ∷ 48 ∷ 48 ∷ 48 ∷ 48 ∷ 48 ∷ 48 ∷ 50 ∷ 32 ∷ 48 ∷ 48 ∷ 48 ∷ 48 ∷ 48 ∷ 48 ∷ 48 ∷ 48 ∷ 48 ∷ 48 ∷ 48 ∷ 48 ∷ 48 ∷ 48 ∷ 48 ∷ 48 ∷ 10
    ∷ 116 ∷ 97 ∷ 107 ∷ 101 ∷ 110 ∷ 32 ∷ 55 ∷ 10 ∷ []

-- ---- the sheets that rewriting gives

unfoldable pub m4_new : List ℕ
m4_new = sheet_of (heading_of 2 0 0) (ret 0 [] ∷ [])

unfoldable pub m5_new : List ℕ
m5_new = sheet_of (heading_of 3 0 0) (load 0 0 ∷ call 0 Not (2 ∷ []) (0 ∷ []) ∷ ret 0 (2 ∷ []) ∷ [])

unfoldable pub m6_new : List ℕ
m6_new =
    sheet_of (heading_of 3 0 2) (branch 0 1 3 0 ∷ label 1 1 ∷ call 2 ReadRef (2 ∷ []) (1 ∷ []) ∷ ret 3 (2 ∷ []) ∷ label 4 2 ∷ ret 5 []
    ∷ label 6 3 ∷ call 7 Destroy [] (1 ∷ []) ∷ jump 8 2 ∷ [])

-- ---- the graphs

-- three nodes, triples 0,1,0 and 1,2,0, with this live mask
unfoldable pub chain : ℕ → GraphInput
chain live = record { count = 3; live = live; numbers = 0 ∷ 1 ∷ 0 ∷ 1 ∷ 2 ∷ 0 ∷ [] }

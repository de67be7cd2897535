-- The page of a sheet: its code, the blocks, where they lead and the Labels that nobody names, the live sets, and the rewritten code; and what the call replies. Assumes nothing.
use Rattle.std.specs.Prelude.{ℕ, ◌*◌, cond, List, [], ◌++◌, eqb, get_or, length, codes, decimal, Ok, Err}
use Rattle.base.specs.Lists.{gather, joins}
use Rattle.base.specs.Bytes.{part}
use Rattle.base.specs.Sizes.{row_numbers, max_bytes}
use Rattle.base.specs.Refusals.{Verdict, lends, Reply, Done, reply}
use Rattle.stackless_bytecode.specs.declared.Bytecode.{Bytecode}
use Rattle.stackless_bytecode.specs.Kinds.{label_of}
use Rattle.stackless_bytecode.specs.Labels.{lookup, is_named}
use Rattle.sheet.specs.Layout.{locals_of, code_of}
use Rattle.sheet.specs.Checks.{check_sheet}
use Rattle.stackless_control_flow_graph.specs.Blocks.{blocks_of, flow_table}
use Rattle.livevar_analysis.specs.Analysis.{LiveVarInfo, analyze}
use Rattle.livevar_transform.specs.Rewrite.{rewrite_reply}
use Rattle.listing.specs.Words.{hex, said}
use Rattle.listing.specs.Lines.{text_of, refused_text}
use Rattle.pages.specs.Words.{marked}
use Rattle.pages.specs.Code.{locals_in, code_text}
use Rattle.pages.specs.Size.{page_bytes}

-- ---- blocks

-- "0 to 3: key 4, leads to 2 3", of a block's six numbers: a 0 only fills up
unfoldable pub block_line : List ℕ → List ℕ
block_line row =
    decimal (get_or row 0 0) ++ said (codes " to ") (get_or row 1 0) ++ said (codes ": key ") (get_or row 2 0)
    ++ codes ", leads to" ++ marked (codes " ") (get_or row 3 0) ++ marked (codes " ") (get_or row 4 0) ++ codes "\n"

-- the lines of the first m blocks of a flow table
unfoldable pub block_lines : ℕ → List ℕ → List ℕ
block_lines m table = joins m (λ i. block_line (part table (row_numbers * i) row_numbers))

-- these lines, and how many blocks there are
unfoldable pub flow_text : ℕ → List ℕ → List ℕ
flow_text m table = block_lines m table ++ said (codes "blocks ") m ++ codes "\n"

-- " L3", where nobody names the label
unfoldable pub unnamed_text : List Bytecode → ℕ → List ℕ
unnamed_text code l = cond (is_named (lookup code l)) [] (said (codes " L") l)

-- " L3 L7": the Labels that nobody names, by offset
unfoldable pub unnamed_labels : List Bytecode → List ℕ
unnamed_labels code = gather (unnamed_text code) (gather label_of code)

-- "never named L3 L7", and nothing where there are none
unfoldable pub unnamed_line : List Bytecode → List ℕ
unnamed_line code = cond (eqb (length (unnamed_labels code)) 0) [] (codes "never named" ++ unnamed_labels code ++ codes "\n")

-- ---- live sets

-- a set in hex, and its locals
unfoldable pub set_text : ℕ → List ℕ
set_text m = (codes " " ++ hex m) ++ locals_in m

-- the line of the sets of the instruction at offset k
unfoldable pub live_line : ℕ → LiveVarInfo → List ℕ
live_line k i = decimal k ++ codes ": before" ++ set_text i.before ++ codes ", after" ++ set_text i.after ++ codes "\n"

-- a line for each instruction, and the count of blocks taken
unfoldable pub live_text : List LiveVarInfo → ℕ → List ℕ
live_text info taken = text_of live_line info taken

-- ---- the page

-- the rewritten code, or refusal 10 or 11
unfoldable pub rewritten_text : Reply → List ℕ
rewritten_text (Ok d) = code_text d.written
rewritten_text (Err e) = refused_text e

-- four sections with an empty line between them
unfoldable pub sections : List ℕ → List ℕ
sections s =
    let code = code_of s in
    let live = analyze code (locals_of s) in
    (codes "code\n" ++ code_text s)
    ++ (codes "\nflow\n" ++ flow_text (blocks_of code) (flow_table code) ++ unnamed_line code)
    ++ (codes "\nlive\n" ++ live_text live.info live.taken)
    ++ (codes "\nrewritten\n" ++ rewritten_text (rewrite_reply s max_bytes))

-- the sections of an accepted sheet; one line of a refused one
unfoldable pub page_by : Verdict → List ℕ → List ℕ
page_by (Ok _) s = sections s
page_by (Err e) s = refused_text e

unfoldable pub page : List ℕ → List ℕ
page s = page_by (check_sheet s) s

-- ---- the call

-- 9 where fewer bytes are lent; else the page, a refused sheet's too, and its length
unfoldable pub page_reply : List ℕ → ℕ → Reply
page_reply s lent = reply (lends lent page_bytes) (Done (length (page s)) (page s))

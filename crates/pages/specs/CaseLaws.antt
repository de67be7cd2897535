-- What the definitions of Words, Code, Marks and Page say, case by case. Assumes nothing.
use Rattle.std.specs.Prelude.{◌≡◌, refl, ◌≢◌, Bool, true, false, cond, List, [], ◌++◌, ℕ, ◌+◌, ◌≤◌, length, eqb, get_or, take, drop, codes, decimal}
use Rattle.std.proofs.Common.{sym, ap, ◌∙◌, append-nil, append_assoc, arith, eq-eqb, ne_eqb, length-drop, take_all}
use Rattle.base.specs.Sizes.{set_bytes, pair_bytes, max_locals, max_bytes, refs_at}
use Rattle.base.specs.Bytes.{number, part, u16_at}
use Rattle.base.specs.ListLaws.{by_test}
use Rattle.dataflow_domains.specs.Mask.{holds}
use Rattle.stackless_bytecode.specs.declared.Bytecode.{Bytecode}
use Rattle.stackless_bytecode.specs.Kinds.{dsts_of, srcs_of}
use Rattle.sheet.specs.Layout.{locals_of, user_locals_of, parameters_of, refs_of, code_of}
use Rattle.stackless_control_flow_graph.specs.Blocks.{blocks_of, flow_table}
use Rattle.livevar_analysis.specs.Analysis.{info_in, infos_of, analyze}
use Rattle.livevar_transform.specs.Rewrite.{rewrite_reply}
use Rattle.listing.specs.Words.{hex, said}
use Rattle.listing.specs.Lines.{lines}
use Rattle.listing.specs.TextLaws.{text_is}
use Rattle.pages.specs.Words.{word, marked, listed}
use Rattle.pages.specs.Code.{verbs, assigns, operations, constants, props, names, destinations, branch_labels, labels, sources, aborting, does, takes, code_line, locals_below, locals_in, counts, heading_text, code_text}
use Rattle.pages.specs.CodeLaws.{below_in, below_out}
use Rattle.pages.specs.Page.{block_line, block_lines, flow_text, unnamed_labels, unnamed_line, set_text, live_line, live_text, rewritten_text, sections}

-- ---- words

-- a list without words has none
pub word_none : (i : ℕ) → [] ≡ word i []
word_none i = refl

-- a number is shown where it is not 0
pub marked_none : (w : List ℕ) (x : ℕ) → x ≡ 0 → [] ≡ marked w x
unfolding marked
marked_none w x e = rw (eq-eqb x 0 e)

pub marked_some : (w : List ℕ) (x : ℕ) → x ≢ 0 → said w x ≡ marked w x
unfolding marked
marked_some w x n = rw (ne_eqb x 0 n)

-- past the end of a list nothing comes
pub listed_all : (a b xs : List ℕ) (i n : ℕ) → length xs ≤ i → i ≤ n → listed a b (take i xs) ≡ listed a b (take n xs)
listed_all a b xs i n h g = ap (listed a b) (take_all i xs h ∙ sym (take_all n xs (omega arith)))

-- ---- names: those of an Assign, of a Call, of a Load, of a Prop; the other kinds have none

pub names_0 : (k : ℕ) → k ≡ 0 → assigns ≡ names k
unfolding names
names_0 k e = rw e

pub names_1 : (k : ℕ) → k ≡ 1 → operations ≡ names k
unfolding names
names_1 k e = rw e

pub names_3 : (k : ℕ) → k ≡ 3 → constants ≡ names k
unfolding names
names_3 k e = rw e

pub names_11 : (k : ℕ) → k ≡ 11 → props ≡ names k
unfolding names
names_11 k e = rw e

pub names_none : (k : ℕ) → k ≢ 0 → k ≢ 1 → k ≢ 3 → k ≢ 11 → [] ≡ names k
unfolding names
names_none k a b c d = rw (ne_eqb k 0 a, ne_eqb k 1 b, ne_eqb k 3 c, ne_eqb k 11 d)

-- ---- labels: those of a Branch, of a Jump, of a Label; the other kinds have none

pub labels_4 : (r : Bytecode) → r.kind ≡ 4 → branch_labels r.one r.two ≡ labels r
unfolding labels
labels_4 r e = rw e

pub labels_5 : (r : Bytecode) → r.kind ≡ 5 → said (codes " L") r.one ≡ labels r
unfolding labels
labels_5 r e = rw e

pub labels_6 : (r : Bytecode) → r.kind ≡ 6 → said (codes " L") r.one ≡ labels r
unfolding labels
labels_6 r e = rw e

pub labels_none : (r : Bytecode) → r.kind ≢ 4 → r.kind ≢ 5 → r.kind ≢ 6 → [] ≡ labels r
unfolding labels
labels_none r a b c = rw (ne_eqb r.kind 4 a, ne_eqb r.kind 5 b, ne_eqb r.kind 6 c)

-- both of a Branch
pub branch_is : (one two : ℕ) → said (codes " L") one ++ said (codes " L") two ++ codes " on" ≡ branch_labels one two
unfolding branch_labels
branch_is one two = refl

-- ---- the locals of a set

-- the next local is shown where it is in the set, here in bytes p
pub below_more : (p : List ℕ) (i m : ℕ) (b : Bool) → m ≡ number p → b ≡ holds m i → locals_below (i + 1) (number p) ≡ locals_below i (number p) ++ cond b (said (codes " t") i) []
below_more p i m b e h =
    by_test (λ t. b ≡ t → locals_below (i + 1) (number p) ≡ locals_below i (number p) ++ cond t (said (codes " t") i) []) b
    (λ q _. sym (below_in i (number p) (is q))) (λ q _. sym (below_out i (number p) (is q)) ∙ sym (append-nil (locals_below i (number p)))) refl
    ∙ refl
  where
    is : {t : Bool} → b ≡ t → holds (number p) i ≡ t
    is q = ap (λ (x : ℕ). holds x i) (sym e) ∙ sym h ∙ q

-- all of them
pub below_all : (m i : ℕ) → i ≡ max_locals → locals_below i m ≡ locals_in m
below_all m i e = ap (λ (n : ℕ). locals_below n m) e

-- ---- an instruction's parts

-- an arrow behind the destinations, where there are any
pub destinations_none : (r : Bytecode) → r.ndst ≡ 0 → listed (codes "t") (codes " ") (take r.ndst r.dsts) ≡ destinations r
unfolding destinations dsts_of
destinations_none r e = sym (append-nil _) ∙ ap (λ (b : Bool). listed (codes "t") (codes " ") (take r.ndst r.dsts) ++ cond b [] (codes "<- ")) (sym (eq-eqb r.ndst 0 e))

pub destinations_some : (r : Bytecode) → r.ndst ≢ 0 → listed (codes "t") (codes " ") (take r.ndst r.dsts) ++ codes "<- " ≡ destinations r
unfolding destinations dsts_of
destinations_some r n = ap (λ (b : Bool). listed (codes "t") (codes " ") (take r.ndst r.dsts) ++ cond b [] (codes "<- ")) (sym (ne_eqb r.ndst 0 n))

-- the sources
pub sources_is : (r : Bytecode) → listed (codes " t") [] (take r.nsrc r.srcs) ≡ sources r
unfolding sources srcs_of
sources_is r = refl

-- the abort action of a flagged instruction; another has none
pub aborting_some : (r : Bytecode) → r.flag ≡ 1 → said (codes " abort L") r.one ++ said (codes " into t") r.abort ≡ aborting r
unfolding aborting
aborting_some r e = rw e

pub aborting_none : (r : Bytecode) → r.flag ≢ 1 → [] ≡ aborting r
unfolding aborting
aborting_none r n = rw (ne_eqb r.flag 1 n)

-- destinations, what is done, the labels
pub does_is : (r : Bytecode) → destinations r ++ word r.kind verbs ++ word r.sub (names r.kind) ++ labels r ≡ does r
unfolding does
does_is r = refl

-- sources, the abort action, payload and attribute id
pub takes_is : (r : Bytecode) → sources r ++ aborting r ++ marked (codes " #") r.payload ++ marked (codes " @") r.attr ≡ takes r
unfolding takes
takes_is r = refl

-- the line
pub line_is : (k : ℕ) (r : Bytecode) → decimal k ++ codes ": " ++ does r ++ takes r ++ codes "\n" ≡ code_line k r
unfolding code_line
line_is k r = refl

-- ---- the heading

-- the counts, by where they lie in the sheet
pub counts_is : (s : List ℕ) → said (codes "locals ") (u16_at s 6) ++ said (codes " user ") (u16_at s 8) ++ said (codes " parameters ") (u16_at s 10) ++ codes " references" ≡ counts s
unfolding counts locals_of user_locals_of parameters_of
counts_is s = refl

-- the counts, and the locals that are references
pub heading_is : (s : List ℕ) → counts s ++ locals_in (number (part s refs_at set_bytes)) ++ codes "\n" ≡ heading_text s
unfolding heading_text refs_of
heading_is s = refl

-- ---- blocks

-- a block's line: its bounds and its key, then where it leads
pub block_is : (r : List ℕ)
    → (decimal (get_or r 0 0) ++ said (codes " to ") (get_or r 1 0) ++ said (codes ": key ") (get_or r 2 0)) ++ (codes ", leads to" ++ marked (codes " ") (get_or r 3 0) ++ marked (codes " ") (get_or r 4 0)) ++ codes "\n" ≡ block_line r
unfolding block_line
block_is r =
    let b = decimal (get_or r 0 0) ++ said (codes " to ") (get_or r 1 0) ++ said (codes ": key ") (get_or r 2 0) in
    let word = codes ", leads to" in
    let one = marked (codes " ") (get_or r 3 0) in
    let two = marked (codes " ") (get_or r 4 0) in
    ap (λ (xs : List ℕ). xs ++ codes "\n") (sym (append_assoc b (word ++ one) two) ∙ ap (λ (xs : List ℕ). xs ++ two) (sym (append_assoc b word one)))

-- all lines, and how many there are
pub blocks_all : (t : List ℕ) (i m : ℕ) → i ≡ m → block_lines i t ++ (said (codes "blocks ") m ++ codes "\n") ≡ flow_text m t
unfolding flow_text
blocks_all t i m e = ap (λ (n : ℕ). block_lines n t ++ (said (codes "blocks ") m ++ codes "\n")) e ∙ sym (append_assoc (block_lines m t) (said (codes "blocks ") m) (codes "\n"))

-- the line of the Labels that nobody names, where there are any
pub line_none : (code : List Bytecode) → eqb (length (unnamed_labels code)) 0 ≡ true → [] ≡ unnamed_line code
unfolding unnamed_line
line_none code e = rw e

pub line_some : (code : List Bytecode) → eqb (length (unnamed_labels code)) 0 ≡ false → codes "never named" ++ unnamed_labels code ++ codes "\n" ≡ unnamed_line code
unfolding unnamed_line
line_some code e = rw e

-- ---- live sets

-- a set in hex, and its locals
pub set_is : (m : ℕ) → (codes " " ++ hex m) ++ locals_in m ≡ set_text m
unfolding set_text
set_is m = refl

-- a line, of the two sets as they lie in bytes
pub live_line_is : (k : ℕ) (p : List ℕ) → length p ≡ pair_bytes
    → (decimal k ++ codes ": before") ++ set_text (number (take set_bytes p)) ++ codes ", after" ++ set_text (number (take set_bytes (drop set_bytes p))) ++ codes "\n" ≡ live_line k (info_in p)
unfolding live_line info_in
live_line_is k p h =
    ap (λ (l : List ℕ). decimal k ++ codes ": before" ++ set_text (number (take set_bytes p)) ++ codes ", after" ++ set_text (number l) ++ codes "\n") (take_all set_bytes (drop set_bytes p) (omega (arith, length-drop set_bytes p)))

-- all lines, and the count of blocks taken
pub live_all : (n : ℕ) (p : List ℕ) (k t : ℕ) → k ≡ n → lines live_line 0 (infos_of k p) ++ (said (codes "taken ") t ++ codes "\n") ≡ live_text (infos_of n p) t
unfolding live_text
live_all n p k t e = text_is live_line n k p t e

-- ---- the page

-- four sections with an empty line between them
pub sections_is : (s : List ℕ)
    → (codes "code\n" ++ code_text s) ++ (codes "\nflow\n" ++ flow_text (blocks_of (code_of s)) (flow_table (code_of s)) ++ unnamed_line (code_of s)) ++ (codes "\nlive\n" ++ live_text (analyze (code_of s) (locals_of s)).info (analyze (code_of s) (locals_of s)).taken) ++ (codes "\nrewritten\n" ++ rewritten_text (rewrite_reply s max_bytes)) ≡ sections s
unfolding sections
sections_is s = refl

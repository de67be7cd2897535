-- The texts of Code, one local or one line more. Assumes nothing.
use Rattle.std.specs.Prelude.{◌≡◌, refl, Bool, true, false, cond, List, [], ◌∷◌, ◌++◌, ℕ, ◌+◌, ◌≤◌, ◌<◌, length, codes}
use Rattle.std.proofs.Common.{sym, ap, ◌∙◌, append-nil, zero-add, add-one, arith}
use Rattle.base.specs.Sizes.{block_bytes}
use Rattle.base.specs.Bytes.{u16_at}
use Rattle.base.specs.Lists.{keep, joins}
use Rattle.base.specs.Refusals.{Accepted}
use Rattle.base.specs.GrowLaws.{keep_snoc}
use Rattle.dataflow_domains.specs.Mask.{holds}
use Rattle.dataflow_domains.specs.Members.{members}
use Rattle.stackless_bytecode.specs.declared.Bytecode.{Bytecode}
use Rattle.stackless_bytecode.specs.Kinds.{at}
use Rattle.sheet.specs.Layout.{count_of, instruction_at, code_of}
use Rattle.sheet.specs.Checks.{check_sheet}
use Rattle.sheet.specs.ValidLaws.{accepted_valid}
use Rattle.sheet.specs.Shaped.{code_at}
use Rattle.sheet.specs.FormLaws.{accepted_shaped}
use Rattle.livevar_analysis.specs.InputLaws.{count_of_lem}
use Rattle.listing.specs.Words.{said}
use Rattle.pages.specs.Words.{listed}
use Rattle.pages.specs.WordLaws.{listed_snoc}
use Rattle.pages.specs.Code.{code_line, locals_below, heading_text, code_lines, code_text}

-- ---- the locals of a set below i

pub below_none : (m : ℕ) → locals_below 0 m ≡ []
unfolding locals_below listed keep
below_none m = refl

below_next : (i m : ℕ) (b : Bool) → holds m i ≡ b → locals_below (i + 1) m ≡ listed (codes " t") [] (members i m ++ cond b (i ∷ []) [])
unfolding locals_below
below_next i m b e =
    ap (λ (n : ℕ). listed (codes " t") [] (keep n 0 (holds m))) (add-one i)
    ∙ ap (listed (codes " t") []) (keep_snoc i 0 (holds m) ∙ ap (λ (n : ℕ). keep i 0 (holds m) ++ cond (holds m n) (n ∷ []) []) (zero-add i) ∙ ap (λ (t : Bool). keep i 0 (holds m) ++ cond t (i ∷ []) []) e)

-- a local in the set, and one that is not
pub below_in : (i m : ℕ) → holds m i ≡ true → locals_below i m ++ said (codes " t") i ≡ locals_below (i + 1) m
unfolding locals_below
below_in i m e =
    sym (below_next i m true e ∙ listed_snoc (codes " t") [] (members i m) i ∙ ap (λ (l : List ℕ). listed (codes " t") [] (members i m) ++ l) (append-nil (said (codes " t") i)))

pub below_out : (i m : ℕ) → holds m i ≡ false → locals_below i m ≡ locals_below (i + 1) m
unfolding locals_below
below_out i m e = sym (below_next i m false e ∙ ap (listed (codes " t") []) (append-nil (members i m)))

pub ruleset local_steps = (below_none, below_in, below_out)

-- ---- the lines

pub lines_none : (code : List Bytecode) → code_lines code 0 ≡ []
unfolding code_lines joins
lines_none code = refl

-- the line of instruction k, by the code and by the sheet
pub lines_at : (code : List Bytecode) (k : ℕ) (r : Bytecode) → r ≡ at code k → code_lines code k ++ code_line k r ≡ code_lines code (k + 1)
unfolding code_lines joins
lines_at code k r q =
    ap (λ (x : Bytecode). code_lines code k ++ code_line k x) q ∙ ap (λ (n : ℕ). code_lines code n) (sym (add-one k))

pub lines_more : (s : List ℕ) (k : ℕ) (r : Bytecode) → check_sheet s ≡ Accepted → k < length (code_of s) → r ≡ instruction_at s k
    → code_lines (code_of s) k ++ code_line k r ≡ code_lines (code_of s) (k + 1)
unfolding count_of
lines_more s k r accepted inside q =
    let size : length (code_of s) ≡ u16_at s 4 = sym (count_of_lem s (u16_at s 4) refl) in
    lines_at (code_of s) k r (q ∙ sym (code_at (accepted_shaped s (length (code_of s)) size accepted) k inside))

pub lines_all : (s : List ℕ) (k : ℕ) → k ≡ length (code_of s) → heading_text s ++ code_lines (code_of s) k ≡ code_text s
unfolding code_text
lines_all s k e = ap (λ (n : ℕ). heading_text s ++ code_lines (code_of s) n) e

pub ruleset line_steps = (lines_none, lines_at, lines_all)

-- the heading of an accepted sheet is there
pub heading_there : (s : List ℕ) → check_sheet s ≡ Accepted → block_bytes ≤ length s
heading_there s e = omega (arith, (accepted_valid s e).size)

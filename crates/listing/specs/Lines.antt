-- What the program livelist prints: a line for each instruction, then the count; or the refusal. How long that is at most, and what the call replies. Assumes nothing.
use Rattle.std.specs.Prelude.{ℕ, suc, ◌+◌, ◌*◌, List, [], ◌∷◌, ◌++◌, length, codes, decimal, Ok, Err}
use Rattle.base.specs.Sizes.{set_bytes, max_instructions}
use Rattle.base.specs.declared.Refusal.{Refusal}
use Rattle.base.specs.Refusals.{number_of, place_of, Verdict, lends, Reply, Done, reply}
use Rattle.sheet.specs.Layout.{code_of, locals_of}
use Rattle.sheet.specs.Checks.{check_sheet}
use Rattle.livevar_analysis.specs.Analysis.{LiveVarInfo, Analyzed, analyze}
use Rattle.listing.specs.Words.{hex, decimal_in, said}

-- ---- lines

-- offset, before and after, one space apart
unfoldable pub line : ℕ → LiveVarInfo → List ℕ
line k i = decimal k ++ (codes " " ++ hex i.before) ++ (codes " " ++ hex i.after) ++ codes "\n"

-- a line for each instruction from offset k on
unfoldable pub lines : (ℕ → LiveVarInfo → List ℕ) → ℕ → List LiveVarInfo → List ℕ
lines line k [] = []
lines line k (i ∷ is) = line k i ++ lines line (suc k) is

-- ---- the text

-- of an accepted sheet: the lines and the count
unfoldable pub text_of : (ℕ → LiveVarInfo → List ℕ) → List LiveVarInfo → ℕ → List ℕ
text_of line infos taken = lines line 0 infos ++ said (codes "taken ") taken ++ codes "\n"

-- of a refused one: one line, of the refusal's number and its place
unfoldable pub refused_numbers : ℕ → ℕ → List ℕ
refused_numbers num place = said (codes "refused ") num ++ said (codes " ") place ++ codes "\n"

-- the same, of no more than the last d digits of each number
unfoldable pub refused_last : ℕ → ℕ → ℕ → List ℕ
refused_last d num place = codes "refused " ++ decimal_in d num ++ (codes " " ++ decimal_in d place) ++ codes "\n"

unfoldable pub refused_text : Refusal → List ℕ
refused_text e = refused_numbers (number_of e) (place_of e)

unfoldable pub printed : Verdict → Analyzed → List ℕ
printed (Ok _) live = text_of line live.info live.taken
printed (Err e) live = refused_text e

unfoldable pub livelist : List ℕ → List ℕ
livelist s = printed (check_sheet s) (analyze (code_of s) (locals_of s))

-- ---- the call

-- a line: four digits of the offset, two sets, three bytes between and behind
abbrev pub line_bytes : ℕ
line_bytes = 4 + 4 * set_bytes + 3

-- the last line: "taken ", ten digits, and its end
abbrev pub taken_bytes : ℕ
taken_bytes = 17

-- no text is longer: a refusal's line has at most 20 bytes
abbrev pub text_bytes : ℕ
text_bytes = max_instructions * line_bytes + taken_bytes

-- 9 where fewer bytes are lent; else the text, a refused sheet's too, and its length
unfoldable pub livelist_reply : List ℕ → ℕ → Reply
livelist_reply s lent = reply (lends lent text_bytes) (Done (length (livelist s)) (livelist s))

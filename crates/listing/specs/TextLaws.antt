-- The text of livelist line by line, that it is what livelist prints, and how long it is. Assumes nothing.
use Rattle.std.specs.Prelude.{◌≡◌, refl, List, [], ◌∷◌, ◌++◌, ℕ, suc, ◌+◌, ◌-◌, ◌*◌, ◌^◌, ◌≤◌, ◌<◌, length, take, drop, codes, decimal, Ok, Err}
use Rattle.std.proofs.Common.{sym, ap, ap₂, ◌∙◌, append-nil, append_assoc, zero-add, add-zero, add-suc, suc-add, mul-le-mul, mul_comm, add-one, arith, length-append, length-drop, take_all}
use Rattle.std.proofs.lemmas.Fmt.{length-decimal-le}
use Rattle.base.specs.Sizes.{set_bytes, pair_bytes, max_locals, max_instructions, max_taken}
use Rattle.base.specs.Lists.{tab}
use Rattle.base.specs.ListLaws.{length_tab, tab_snoc}
use Rattle.base.specs.Bytes.{number, part}
use Rattle.base.specs.declared.Refusal.{Refusal}
use Rattle.base.specs.declared.Refusal.TheVariants.{Length, Block, Heading, Record, Local, LabelRepeated, LabelUndefined, FallsThrough, OutputShort, NumberTooHigh, CodeTooLong, Nodes, Triples, AskedNode, LocalHidden, FirstBlock, TooManySheets, FlaggedStop}
use Rattle.base.specs.Refusals.{number_of, place_of, refusal_text, Verdict, Accepted, Done}
use Rattle.base.specs.RefusalLaws.{lends_short, lends_enough}
use Rattle.base.specs.ReplyLaws.{reply_refused, reply_done}
use Rattle.sheet.specs.Layout.{code_of, locals_of}
use Rattle.sheet.specs.Checks.{check_sheet}
use Rattle.sheet.specs.ValidLaws.{accepted_valid}
use Rattle.stackless_control_flow_graph.specs.Blocks.{blocks_of}
use Rattle.stackless_control_flow_graph.specs.CallLaws.{blocks_few}
use Rattle.livevar_analysis.specs.Analysis.{LiveVarInfo, info_in, infos_of, analyze}
use Rattle.livevar_analysis.specs.Term3Laws.{term3}
use Rattle.livevar_analysis.specs.InputLaws.{few_count}
use Rattle.livevar_analysis.specs.OutputLaws.{live_read}
use Rattle.livevar_analysis.specs.Prepared.{LiveWritten}
use Rattle.listing.specs.Words.{hex, said}
use Rattle.listing.specs.Lines.{line, lines, text_of, refused_numbers, refused_last, refused_text, printed, livelist, line_bytes, taken_bytes, text_bytes, livelist_reply}
use Rattle.listing.specs.NumberLaws.{decimal_most, decimal_last, last_most, hex_length}

-- ---- one line more

lines_snoc : (line : ℕ → LiveVarInfo → List ℕ) (k : ℕ) (is : List LiveVarInfo) (i : LiveVarInfo) → lines line k (is ++ (i ∷ [])) ≡ lines line k is ++ line (k + length is) i
unfolding lines
lines_snoc line k [] i = append-nil (line k i) ∙ ap (λ (x : ℕ). line x i) (sym (add-zero k))
lines_snoc line k (j ∷ js) i =
    ap (λ (l : List ℕ). line k j ++ l) (lines_snoc line (suc k) js i ∙ ap (λ (x : ℕ). lines line (suc k) js ++ line x i) (suc-add k (length js) ∙ sym (add-suc k (length js))))
    ∙ sym (append_assoc (line k j) (lines line (suc k) js) (line (k + suc (length js)) i))

pub infos_length : (n : ℕ) (p : List ℕ) → length (infos_of n p) ≡ n
unfolding infos_of
infos_length n p = length_tab n 0 (λ k. info_in (part p (pair_bytes * k) pair_bytes))

pub lines_none : (line : ℕ → LiveVarInfo → List ℕ) (p : List ℕ) → lines line 0 (infos_of 0 p) ≡ []
unfolding infos_of tab lines
lines_none line p = refl

-- the line behind the first k, of a pair as the code cuts it out
pub lines_more : (line : ℕ → LiveVarInfo → List ℕ) (k : ℕ) (p : List ℕ)
    → lines line 0 (infos_of k p) ++ line k (info_in (take pair_bytes (take (length p - pair_bytes * k) (drop (pair_bytes * k) p)))) ≡ lines line 0 (infos_of (k + 1) p)
unfolding infos_of
lines_more line k p =
    let info : ℕ → LiveVarInfo = λ k. info_in (part p (pair_bytes * k) pair_bytes) in
    ap (λ (t : List ℕ). lines line 0 (infos_of k p) ++ line k (info_in (take pair_bytes t))) (take_all (length p - pair_bytes * k) (drop (pair_bytes * k) p) (omega (arith, length-drop (pair_bytes * k) p)))
    ∙ sym (ap (λ (j : ℕ). lines line 0 (tab j 0 info)) (add-one k) ∙ ap (lines line 0) (tab_snoc k 0 info) ∙ lines_snoc line 0 (tab k 0 info) (info (0 + k))
    ∙ ap₂ (λ (i j : ℕ). lines line 0 (tab k 0 info) ++ line i (info j)) (zero-add (length (tab k 0 info)) ∙ length_tab k 0 info) (zero-add k))

-- and of the k-th of the pairs
pub lines_pair : (line : ℕ → LiveVarInfo → List ℕ) (k : ℕ) (p pair : List ℕ)
    → pair ≡ take pair_bytes (drop (k * pair_bytes) p) → lines line 0 (infos_of k p) ++ line k (info_in pair) ≡ lines line 0 (infos_of (k + 1) p)
lines_pair line k p pair is =
    let whole = take_all (length p - pair_bytes * k) (drop (pair_bytes * k) p) (omega (arith, length-drop (pair_bytes * k) p)) in
    ap (λ (t : List ℕ). lines line 0 (infos_of k p) ++ line k (info_in t)) (is ∙ ap (λ (i : ℕ). take pair_bytes (drop i p)) (mul_comm k pair_bytes) ∙ ap (take pair_bytes) (sym whole))
    ∙ lines_more line k p

pub ruleset line_steps = (lines_none, lines_pair)

-- ---- the parts as they are written

-- a line, of the two sets as they lie in bytes
pub line_is : (k : ℕ) (p : List ℕ) → length p ≡ pair_bytes
    → decimal k ++ (codes " " ++ hex (number (take set_bytes p))) ++ (codes " " ++ hex (number (take set_bytes (drop set_bytes p)))) ++ codes "\n" ≡ line k (info_in p)
unfolding line info_in
line_is k p h =
    ap (λ (l : List ℕ). decimal k ++ (codes " " ++ hex (number (take set_bytes p))) ++ (codes " " ++ hex (number l)) ++ codes "\n") (take_all set_bytes (drop set_bytes p) (omega (arith, length-drop set_bytes p)))

-- the line behind the first k, of a pair cut out by its two ends
pub lines_next : (line : ℕ → LiveVarInfo → List ℕ) (k : ℕ) (p : List ℕ)
    → lines line 0 (infos_of k p) ++ line k (info_in (take (pair_bytes * k + pair_bytes - pair_bytes * k) (drop (pair_bytes * k) p))) ≡ lines line 0 (infos_of (k + 1) p)
lines_next line k p =
    let size : pair_bytes * k + pair_bytes - pair_bytes * k ≡ pair_bytes = omega arith in
    ap (λ (n : ℕ). lines line 0 (infos_of k p) ++ line k (info_in (take n (drop (pair_bytes * k) p)))) size
    ∙ ap (λ (t : List ℕ). lines line 0 (infos_of k p) ++ line k (info_in (take pair_bytes t))) (sym (take_all (length p - pair_bytes * k) (drop (pair_bytes * k) p) (omega (arith, length-drop (pair_bytes * k) p))))
    ∙ lines_more line k p

-- all lines and the count
pub text_is : (line : ℕ → LiveVarInfo → List ℕ) (n k : ℕ) (p : List ℕ) (taken : ℕ) → k ≡ n
    → lines line 0 (infos_of k p) ++ (said (codes "taken ") taken ++ codes "\n") ≡ text_of line (infos_of n p) taken
unfolding text_of
text_is line n k p taken e =
    ap (λ (j : ℕ). lines line 0 (infos_of j p) ++ (said (codes "taken ") taken ++ codes "\n")) e
    ∙ sym (append_assoc (lines line 0 (infos_of n p)) (said (codes "taken ") taken) (codes "\n"))

-- a refusal
pub refused_is : (e : Refusal) → said (codes "refused ") (number_of e) ++ said (codes " ") (place_of e) ++ codes "\n" ≡ refused_text e
unfolding refused_text refused_numbers
refused_is e = refl

-- as programs print it, and the end of the line
pub refused_printed : (e : Refusal) → refusal_text e ++ codes "\n" ≡ refused_text e
unfolding refused_text refused_numbers
refused_printed e = ap (λ (t : List ℕ). t ++ codes "\n") (append_assoc (said (codes "refused ") (number_of e)) (codes " ") (decimal (place_of e)))

-- ---- what livelist prints

-- of an accepted sheet: the text of the bytes that the analysis writes
pub livelist_live : (s : List ℕ) (n r : ℕ) (out out' : List ℕ) → check_sheet s ≡ Accepted → n ≡ length (code_of s) → LiveWritten s r out out' → text_of line (infos_of n out') r ≡ livelist s
unfolding livelist printed
livelist_live s n r out out' e q w =
    ap₂ (λ (l : List ℕ) (t : ℕ). text_of line (infos_of n l) t) w.written w.taken
    ∙ ap (λ (is : List LiveVarInfo). text_of line is (analyze (code_of s) (locals_of s)).taken) (live_read s e n _ q)
    ∙ sym (ap (λ (a : Verdict). printed a (analyze (code_of s) (locals_of s))) e)

-- of a refused one
pub livelist_refused : (s : List ℕ) (e : Refusal) → check_sheet s ≡ Err e → refused_text e ≡ livelist s
unfolding livelist printed
livelist_refused s e q = sym (ap (λ (a : Verdict). printed a (analyze (code_of s) (locals_of s))) q)

-- ---- how long it is

line_short : (k : ℕ) (i : LiveVarInfo) → k < max_instructions → length (line k i) ≤ line_bytes
unfolding line
line_short k i h = omega (arith, length-append {A = ℕ}, length-decimal-le 4 k (omega arith) (omega arith) (omega arith), hex_length i.before, hex_length i.after)

-- lines of at most m bytes each
pub lines_most : (line : ℕ → LiveVarInfo → List ℕ) (m : ℕ) → ((k : ℕ) (i : LiveVarInfo) → k < max_instructions → length (line k i) ≤ m)
    → (k : ℕ) (is : List LiveVarInfo) → k + length is ≤ max_instructions → length (lines line k is) ≤ length is * m
unfolding lines
lines_most line m each k [] h = omega arith
lines_most line m each k (i ∷ is) h = omega (arith, length-append (line k i) (lines line (suc k) is), each k i (omega arith), lines_most line m each (suc k) is (omega arith))

-- no sheet has more blocks taken than the work list has room for
pub taken_few : (s : List ℕ) → check_sheet s ≡ Accepted → (analyze (code_of s) (locals_of s)).taken ≤ max_taken
taken_few s e =
    let blocks : blocks_of (code_of s) + 1 ≤ max_instructions + 1 = omega (arith, blocks_few (code_of s), few_count s (length (code_of s)) e refl) in
    let width : locals_of s + 1 ≤ max_locals + 1 = omega (arith, (accepted_valid s e).locals) in
    omega (arith, mul-le-mul blocks width, (term3 s e).taken.bound)

-- lines of at most m bytes each, and a count of at most ten digits
pub text_digits_most : (line : ℕ → LiveVarInfo → List ℕ) (m : ℕ) → ((k : ℕ) (i : LiveVarInfo) → k < max_instructions → length (line k i) ≤ m)
    → (is : List LiveVarInfo) (t : ℕ) → length is ≤ max_instructions → length (decimal t) ≤ 10 → length (text_of line is t) ≤ length is * m + taken_bytes
unfolding text_of
text_digits_most line m each is t h digits = omega (arith, length-append {A = ℕ}, lines_most line m each 0 is (omega arith), digits)

-- a count of as many as the work list has room for
pub text_most : (line : ℕ → LiveVarInfo → List ℕ) (m : ℕ) → ((k : ℕ) (i : LiveVarInfo) → k < max_instructions → length (line k i) ≤ m)
    → (is : List LiveVarInfo) (t : ℕ) → length is ≤ max_instructions → t ≤ max_taken → length (text_of line is t) ≤ length is * m + taken_bytes
text_most line m each is t h few = text_digits_most line m each is t h (length-decimal-le 10 t (omega arith) (omega arith) (omega arith))

number_low : (e : Refusal) → number_of e < 19
number_low Length = omega arith
number_low (Block p) = omega arith
number_low Heading = omega arith
number_low (Record p) = omega arith
number_low (Local p) = omega arith
number_low (LabelRepeated p) = omega arith
number_low (LabelUndefined p) = omega arith
number_low (FallsThrough p) = omega arith
number_low OutputShort = omega arith
number_low NumberTooHigh = omega arith
number_low CodeTooLong = omega arith
number_low (Nodes p) = omega arith
number_low (Triples p) = omega arith
number_low AskedNode = omega arith
number_low (LocalHidden p) = omega arith
number_low FirstBlock = omega arith
number_low TooManySheets = omega arith
number_low (FlaggedStop p) = omega arith

-- a refusal's line, whatever its place
pub refused_short : (e : Refusal) → length (refused_text e) ≤ 138
unfolding refused_text refused_numbers
refused_short e = simp length-append (omega (arith, decimal_most (number_of e), decimal_most (place_of e)))

-- of any two numbers, of no more than the last 20 digits of each
pub refused_last_short : (num place : ℕ) → length (refused_last 20 num place) ≤ 50
unfolding refused_last
refused_last_short num place = simp length-append (omega (arith, last_most num, last_most place))

-- which are all where the numbers have at most 20 digits
pub refused_last_all : (num place : ℕ) → num < 10 ^ 20 → place < 10 ^ 20 → refused_numbers num place ≡ refused_last 20 num place
unfolding refused_numbers refused_last
refused_last_all num place h j =
    ap₂ (λ (n p : List ℕ). codes "refused " ++ n ++ (codes " " ++ p) ++ codes "\n") (decimal_last num h) (decimal_last place j)

-- and of numbers of at most 20 digits
pub refused_numbers_short : (num place : ℕ) → num < 10 ^ 20 → place < 10 ^ 20 → length (refused_numbers num place) ≤ 50
refused_numbers_short num place h j = omega (arith, ap length (refused_last_all num place h j), refused_last_short num place)

pub refused_short_20 : (e : Refusal) → place_of e < 10 ^ 20 → length (refused_text e) ≤ 50
unfolding refused_text
refused_short_20 e h = refused_numbers_short (number_of e) (place_of e) (omega (arith, number_low e)) h

pub livelist_short : (s : List ℕ) → length (livelist s) ≤ text_bytes
unfolding livelist printed
livelist_short s = by (check_sheet s) refl
  where
    by : (a : Verdict) → check_sheet s ≡ a → length (printed a (analyze (code_of s) (locals_of s))) ≤ text_bytes
    by (Ok tt) e =
        let live = analyze (code_of s) (locals_of s) in
        let few : length live.info ≤ max_instructions = omega (arith, (term3 s e).count, few_count s (length (code_of s)) e refl) in
        omega (arith, few, text_most line line_bytes line_short live.info live.taken few (taken_few s e))
    by (Err e) q = omega (arith, refused_short e)

-- ---- the call

pub livelist_refuses : (s : List ℕ) (lent : ℕ) → lent < text_bytes → livelist_reply s lent ≡ Err OutputShort
unfolding livelist_reply
livelist_refuses s lent h = reply_refused _ (lends_short h)

pub livelist_done : (s : List ℕ) (lent : ℕ) → text_bytes ≤ lent → livelist_reply s lent ≡ Done (length (livelist s)) (livelist s)
unfolding livelist_reply
livelist_done s lent h = reply_done _ (lends_enough h)

-- No page is longer than is counted. Assumes nothing.
use Rattle.std.specs.Prelude.{◌≡◌, cond, ℕ, suc, ◌+◌, ◌*◌, ◌≤◌, ◌<◌, eqb, length, get_or, drop, refl, List, [], ◌∷◌, ◌++◌, map, codes, decimal, Ok, Err}
use Rattle.std.proofs.Common.{ap, arith, length-append}
use mathlib.Core.List.Memᴰ
use mathlib.Core.List.{Memᴰ}
use Rattle.std.proofs.Math.ListN.{get_or-eq_default}
use Rattle.std.proofs.lemmas.Fmt.{length-decimal-le}
use Rattle.base.specs.Sizes.{row_numbers, max_number, max_instructions, max_bytes}
use Rattle.base.specs.Lists.{joins, gather, place}
use Rattle.base.specs.ListLaws.{by_test, get_d_in, in_take, in_drop, in_map, in_gather, in_get_d}
use Rattle.base.specs.JoinLaws.{by_lt}
use Rattle.base.specs.Bytes.{part, Bytes}
use Rattle.base.specs.Refusals.{Verdict, Accepted, Reply}
use Rattle.stackless_bytecode.specs.declared.Bytecode.{Bytecode}
use Rattle.stackless_bytecode.specs.Kinds.{Label, nop, at, is_exit, label_of}
use Rattle.stackless_bytecode.specs.KindLaws.{label_one}
use Rattle.stackless_bytecode.specs.Labels.{lookup, is_named}
use Rattle.stackless_bytecode.specs.Successors.{successors}
use Rattle.stackless_bytecode.specs.Sound.{Sound}
use Rattle.sheet.specs.Layout.{locals_of, code_of}
use Rattle.sheet.specs.Checks.{check_sheet}
use Rattle.sheet.specs.CheckLaws.{code_sound}
use Rattle.sheet_writer.specs.EncodeLaws.{Encodes}
use Rattle.sheet_writer.specs.BodyLaws.{accepted_body}
use Rattle.stackless_control_flow_graph.specs.Blocks.{lowers, blocks_of, upper_of, keyed, key_of, row, flow_table}
use Rattle.stackless_control_flow_graph.specs.BlockLaws.{upper_lt}
use Rattle.stackless_control_flow_graph.specs.FlowLaws.{in_lowers, keys_blocks}
use Rattle.stackless_control_flow_graph.specs.CallLaws.{blocks_few}
use Rattle.livevar_analysis.specs.Analysis.{LiveVarInfo, analyze}
use Rattle.livevar_analysis.specs.InputLaws.{few_count}
use Rattle.livevar_analysis.specs.Term3Laws.{term3}
use Rattle.livevar_transform.specs.Rewrite.{rewrite_reply}
use Rattle.livevar_transform.specs.RewriteAcceptedLaws.{rewritten_accepted}
use Rattle.listing.specs.Words.{hex, said}
use Rattle.listing.specs.NumberLaws.{hex_length}
use Rattle.listing.specs.TextLaws.{text_digits_most, taken_few, refused_short}
use Rattle.pages.specs.Words.{marked}
use Rattle.pages.specs.Code.{locals_in, code_text}
use Rattle.pages.specs.Page.{block_line, block_lines, flow_text, unnamed_text, unnamed_labels, unnamed_line, set_text, live_line, live_text, rewritten_text, sections, page_by, page}
use Rattle.pages.specs.Size.{number_digits, payload_digits, code_bytes, block_line_bytes, unnamed_bytes, flow_bytes, set_text_bytes, live_line_bytes, live_text_bytes, page_bytes}
use Rattle.pages.specs.LineSizeLaws.{number_most, said_most, cond_most, marked_most, joins_most, locals_most, code_most}

-- ---- the numbers of the flow table

-- every number of a list is at most the highest
pub record Low (xs : List ℕ) : Type 0 where
  pub each : (x : ℕ) → Memᴰ x xs → x ≤ max_number

low_part : (t : List ℕ) (a n : ℕ) → Low t → Low (part t a n)
low_part t a n l = record { each = λ x i. l.each x (in_drop a t (in_take n (drop a t) i)) }

low_at : (t : List ℕ) → Low t → (i : ℕ) → get_or t i 0 ≤ max_number
low_at t l i = by_lt i (length t) (λ h. l.each (get_or t i 0) (get_d_in t i 0 h)) (λ h. omega (arith, get_or-eq_default t 0 {n = i} h))

place_most : (o : ℕ) (xs : List ℕ) → place o xs ≤ length xs
unfolding place
place_most o [] = omega arith
place_most o (x ∷ xs) = by_test (λ b. cond b 0 (suc (place o xs)) ≤ suc (length xs)) (eqb o x) (λ _. omega arith) (λ _. omega (arith, place_most o xs))

module _ (code : List Bytecode) (sound : Sound code) (few : length code ≤ max_instructions) where
  key_low : (o : ℕ) → key_of (keyed code) o ≤ max_number
  unfolding key_of
  key_low o = omega (arith, place_most o (keyed code), keys_blocks code sound, blocks_few code)

  succ_low : (u : ℕ) → Low (cond (is_exit (at code u)) (1 ∷ []) (map (key_of (keyed code)) (successors code u)))
  succ_low u =
      by_test (λ b. Low (cond b (1 ∷ []) (map (key_of (keyed code)) (successors code u)))) (is_exit (at code u))
      (λ _. record { each = λ x i. omega (arith, Memᴰ.eq_of_singleton i) })
      (λ _. record { each = λ x i. let m = in_map (key_of (keyed code)) (successors code u) x i in omega (arith, m.2, key_low m.0) })

  row_low : (l x : ℕ) → l < length code → Memᴰ x (row code (keyed code) l) → x ≤ max_number
  unfolding row
  row_low l x h (Memᴰ.head e) = omega (arith, e)
  row_low l x h (Memᴰ.tail (Memᴰ.head e)) = omega (arith, e, upper_lt code l h)
  row_low l x h (Memᴰ.tail (Memᴰ.tail (Memᴰ.head e))) = omega (arith, e, key_low l)
  row_low l x h (Memᴰ.tail (Memᴰ.tail (Memᴰ.tail (Memᴰ.head e)))) = omega (arith, e, low_at _ (succ_low (upper_of code l)) 0)
  row_low l x h (Memᴰ.tail (Memᴰ.tail (Memᴰ.tail (Memᴰ.tail (Memᴰ.head e))))) = omega (arith, e, low_at _ (succ_low (upper_of code l)) 1)
  row_low l x h (Memᴰ.tail (Memᴰ.tail (Memᴰ.tail (Memᴰ.tail (Memᴰ.tail (Memᴰ.head e)))))) = omega (arith, e)
  row_low l x h (Memᴰ.tail (Memᴰ.tail (Memᴰ.tail (Memᴰ.tail (Memᴰ.tail (Memᴰ.tail e)))))) = elim e [ ]

  table_low : Low (flow_table code)
  unfolding flow_table
  table_low = record { each = λ x i. let g = in_gather (row code (keyed code)) (lowers code) x i in row_low g.0 x (in_lowers code g.0 g.1).inside g.2 }

-- ---- blocks

block_most : (r : List ℕ) → Low r → length (block_line r) ≤ block_line_bytes
unfolding block_line
block_most r low =
    let digits : (i : ℕ) → length (decimal (get_or r i 0)) ≤ number_digits = λ i. number_most (get_or r i 0) (low_at r low i) in
    let bounds : List ℕ = decimal (get_or r 0 0) ++ said (codes " to ") (get_or r 1 0) ++ said (codes ": key ") (get_or r 2 0) in
    omega (
      arith,
      length-append (bounds ++ codes ", leads to" ++ marked (codes " ") (get_or r 3 0) ++ marked (codes " ") (get_or r 4 0)) (codes "\n"),
      length-append (bounds ++ codes ", leads to" ++ marked (codes " ") (get_or r 3 0)) (marked (codes " ") (get_or r 4 0)),
      length-append (bounds ++ codes ", leads to") (marked (codes " ") (get_or r 3 0)),
      length-append bounds (codes ", leads to"),
      length-append (decimal (get_or r 0 0) ++ said (codes " to ") (get_or r 1 0)) (said (codes ": key ") (get_or r 2 0)),
      length-append (decimal (get_or r 0 0)) (said (codes " to ") (get_or r 1 0)),
      digits 0,
      said_most (codes " to ") (get_or r 1 0) number_digits (digits 1),
      said_most (codes ": key ") (get_or r 2 0) number_digits (digits 2),
      marked_most (codes " ") (get_or r 3 0) number_digits (digits 3),
      marked_most (codes " ") (get_or r 4 0) number_digits (digits 4),
    )

-- with the bytes that are left for the Labels that nobody names
flow_most : (m : ℕ) (t : List ℕ) → m ≤ max_instructions → Low t → length (flow_text m t) + unnamed_bytes ≤ flow_bytes
unfolding flow_text block_lines
flow_most m t h low =
    omega (
      arith,
      length-append (joins m (λ i. block_line (part t (row_numbers * i) row_numbers)) ++ said (codes "blocks ") m) (codes "\n"),
      length-append (joins m (λ i. block_line (part t (row_numbers * i) row_numbers))) (said (codes "blocks ") m),
      joins_most block_line_bytes m (λ i. block_line (part t (row_numbers * i) row_numbers)) (λ i l. block_most (part t (row_numbers * i) row_numbers) (low_part t (row_numbers * i) row_numbers low)),
      said_most (codes "blocks ") m number_digits (number_most m (omega arith)),
    )

-- ---- the Labels that nobody names

gather_most : (m : ℕ) (f : ℕ → List ℕ) (xs : List ℕ) → ((x : ℕ) → Memᴰ x xs → length (f x) ≤ m) → length (gather f xs) ≤ length xs * m
gather_most m f [] h = omega arith
gather_most m f (x ∷ xs) h = omega (arith, length-append (f x) (gather f xs), h x (Memᴰ.head refl), gather_most m f xs (λ y i. h y (Memᴰ.tail i)))

labels_few : (code : List Bytecode) → length (gather label_of code) ≤ length code
unfolding label_of
labels_few [] = omega arith
labels_few (r ∷ rs) =
    by_test (λ b. length (cond b (r.one ∷ []) [] ++ gather label_of rs) ≤ suc (length rs)) (eqb r.kind Label) (λ _. omega (arith, labels_few rs)) (λ _. omega (arith, labels_few rs))

module _ (code : List Bytecode) (encodes : (k : ℕ) → k < length code → Encodes (at code k)) where
  -- their numbers have 16 bits
  label_low : (l : ℕ) → Memᴰ l (gather label_of code) → l ≤ max_number
  label_low l i =
      let r = in_gather label_of code l i in
      let p = in_get_d code r.0 nop r.1 in
      omega (arith, label_one r.0 l r.2, ap (λ (x : Bytecode). x.one) p.2, (encodes p.0 p.1).one)

  unnamed_text_most : (l : ℕ) → Memᴰ l (gather label_of code) → length (unnamed_text code l) ≤ 2 + number_digits
  unfolding unnamed_text
  unnamed_text_most l i =
      cond_most (is_named (lookup code l)) [] (said (codes " L") l) (2 + number_digits) (omega arith) (said_most (codes " L") l number_digits (number_most l (label_low l i)))

  unnamed_labels_most : length (unnamed_labels code) ≤ length code * (2 + number_digits)
  unfolding unnamed_labels
  unnamed_labels_most = omega (arith, gather_most (2 + number_digits) (unnamed_text code) (gather label_of code) unnamed_text_most, labels_few code)

  unnamed_most : length code ≤ max_instructions → length (unnamed_line code) ≤ unnamed_bytes
  unfolding unnamed_line
  unnamed_most few =
      cond_most (eqb (length (unnamed_labels code)) 0) [] (codes "never named" ++ unnamed_labels code ++ codes "\n") unnamed_bytes (omega arith)
      (omega (arith, length-append (codes "never named" ++ unnamed_labels code) (codes "\n"), length-append (codes "never named") (unnamed_labels code), unnamed_labels_most))

-- ---- live sets

set_most : (m : ℕ) → length (set_text m) ≤ set_text_bytes
unfolding set_text
set_most m = omega (arith, length-append (codes " " ++ hex m) (locals_in m), length-append (codes " ") (hex m), hex_length m, locals_most m)

live_line_most : (k : ℕ) (i : LiveVarInfo) → k < max_instructions → length (live_line k i) ≤ live_line_bytes
unfolding live_line
live_line_most k i h =
    omega (
      arith,
      length-append (decimal k ++ codes ": before" ++ set_text i.before ++ codes ", after" ++ set_text i.after) (codes "\n"),
      length-append (decimal k ++ codes ": before" ++ set_text i.before ++ codes ", after") (set_text i.after),
      length-append (decimal k ++ codes ": before" ++ set_text i.before) (codes ", after"),
      length-append (decimal k ++ codes ": before") (set_text i.before),
      length-append (decimal k) (codes ": before"),
      number_most k (omega arith),
      set_most i.before,
      set_most i.after,
    )

-- the live sets, with a count of at most ten digits
live_most : (is : List LiveVarInfo) (t : ℕ) → length is ≤ max_instructions → length (decimal t) ≤ payload_digits → length (live_text is t) ≤ live_text_bytes
unfolding live_text
live_most is t h digits = omega (arith, h, text_digits_most live_line live_line_bytes live_line_most is t h digits)

-- ---- the page

module _ (s : List ℕ) (bytes : Bytes s) (accepted : check_sheet s ≡ Accepted) where
  rewritten_most : (r : Reply) → rewrite_reply s max_bytes ≡ r → length (rewritten_text r) ≤ code_bytes
  unfolding rewritten_text
  rewritten_most (Err e) q = omega (arith, refused_short e)
  rewritten_most (Ok d) q = let new = rewritten_accepted s d.written max_bytes d.value bytes q in code_most d.written new.bytes new.accepted

  few : length (code_of s) ≤ max_instructions
  few = few_count s (length (code_of s)) accepted refl

  sections_most : length (sections s) ≤ page_bytes
  unfolding sections
  sections_most =
      let live = analyze (code_of s) (locals_of s) in
      let flow = flow_text (blocks_of (code_of s)) (flow_table (code_of s)) in
      let unnamed = unnamed_line (code_of s) in
      let sets = live_text live.info live.taken in
      let new = rewritten_text (rewrite_reply s max_bytes) in
      omega (
        arith,
        length-append ((codes "code\n" ++ code_text s) ++ (codes "\nflow\n" ++ flow ++ unnamed) ++ (codes "\nlive\n" ++ sets)) (codes "\nrewritten\n" ++ new),
        length-append ((codes "code\n" ++ code_text s) ++ (codes "\nflow\n" ++ flow ++ unnamed)) (codes "\nlive\n" ++ sets),
        length-append (codes "code\n" ++ code_text s) (codes "\nflow\n" ++ flow ++ unnamed),
        length-append (codes "code\n") (code_text s),
        length-append (codes "\nflow\n" ++ flow) unnamed,
        length-append (codes "\nflow\n") flow,
        length-append (codes "\nlive\n") sets,
        length-append (codes "\nrewritten\n") new,
        code_most s bytes accepted,
        flow_most (blocks_of (code_of s)) (flow_table (code_of s)) (omega (arith, blocks_few (code_of s), few)) (table_low (code_of s) (code_sound s accepted) few),
        unnamed_most (code_of s) (accepted_body s bytes accepted).encodes few,
        live_most live.info live.taken (omega (arith, (term3 s accepted).count, few)) (length-decimal-le 10 live.taken (omega arith) (omega (arith, taken_few s accepted)) (omega (arith, taken_few s accepted))),
        rewritten_most (rewrite_reply s max_bytes) refl,
      )

pub page_short : (s : List ℕ) → Bytes s → length (page s) ≤ page_bytes
unfolding page page_by
page_short s bytes = by (check_sheet s) refl
  where
    by : (a : Verdict) → check_sheet s ≡ a → length (page_by a s) ≤ page_bytes
    by (Ok tt) e = sections_most s bytes e
    by (Err e) q = omega (arith, refused_short e)

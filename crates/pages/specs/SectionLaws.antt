-- The texts of blocks and live sets as the code writes them, and that they are those of what the calls leave. Assumes nothing.
use Rattle.std.specs.Prelude.{◌≡◌, refl, List, [], ◌++◌, ℕ, zero, suc, ◌+◌, ◌-◌, ◌*◌, ◌≤◌, ◌<◌, length, take, drop, codes}
use Rattle.std.proofs.Common.{sym, ap, ap₂, ◌∙◌, mul_comm, add-one, arith, length-append, length-drop, take_all}
use Rattle.std.proofs.lemmas.List.{drop-append-le, take-append-le}
use Rattle.base.specs.Sizes.{row_numbers, max_instructions}
use Rattle.base.specs.Lists.{joins}
use Rattle.base.specs.Bytes.{part}
use Rattle.base.specs.Refusals.{Done, output_after}
use Rattle.base.specs.ReplyLaws.{done_written}
use Rattle.sheet.specs.Layout.{code_of, locals_of}
use Rattle.stackless_control_flow_graph.specs.Blocks.{blocks_of, flow_table, flow_reply}
use Rattle.sheet.specs.Accepted.{CheckedSheet}
use Rattle.stackless_control_flow_graph.specs.CallLaws.{blocks_few, table_length, flow_done}
use Rattle.livevar_analysis.specs.Analysis.{LiveVarInfo, infos_of, analyze}
use Rattle.livevar_analysis.specs.OutputLaws.{live_read}
use Rattle.livevar_analysis.specs.InputLaws.{few_count}
use Rattle.livevar_analysis.specs.Prepared.{LiveWritten}
use Rattle.listing.specs.Words.{said}
use Rattle.pages.specs.Page.{block_line, block_lines, flow_text, live_text}

-- ---- blocks

pub blocks_none : (t : List ℕ) → block_lines 0 t ≡ []
unfolding block_lines joins
blocks_none t = refl

-- the line of row i, as the code cuts it out
pub blocks_more : (t : List ℕ) (i : ℕ) → block_lines i t ++ block_line (take row_numbers (take (length t - row_numbers * i) (drop (row_numbers * i) t))) ≡ block_lines (i + 1) t
unfolding block_lines joins
blocks_more t i =
    ap (λ (r : List ℕ). block_lines i t ++ block_line (take row_numbers r)) (take_all (length t - row_numbers * i) (drop (row_numbers * i) t) (omega (arith, length-drop (row_numbers * i) t)))
    ∙ ap (λ (n : ℕ). block_lines n t) (sym (add-one i))

-- and of the i-th of the rows
pub blocks_row : (t : List ℕ) (i : ℕ) (row : List ℕ) → row ≡ take row_numbers (drop (i * row_numbers) t) → block_lines i t ++ block_line row ≡ block_lines (i + 1) t
blocks_row t i row is =
    let whole = take_all (length t - row_numbers * i) (drop (row_numbers * i) t) (omega (arith, length-drop (row_numbers * i) t)) in
    ap (λ (r : List ℕ). block_lines i t ++ block_line r) (is ∙ ap (λ (k : ℕ). take row_numbers (drop k t)) (mul_comm i row_numbers) ∙ ap (take row_numbers) (sym whole))
    ∙ blocks_more t i

pub ruleset block_steps = (blocks_none, blocks_row)

joins_same : (n : ℕ) (f g : ℕ → List ℕ) → ((i : ℕ) → i < n → f i ≡ g i) → joins n f ≡ joins n g
unfolding joins
joins_same zero f g h = refl
joins_same (suc n) f g h = ap₂ (λ (x y : List ℕ). x ++ y) (joins_same n f g (λ i l. h i (omega arith))) (h n (omega arith))

part_front : (t z : List ℕ) (a n : ℕ) → a + n ≤ length t → part (t ++ z) a n ≡ part t a n
part_front t z a n h = ap (take n) (drop-append-le a t z (omega arith)) ∙ take-append-le n (drop a t) z (omega (arith, length-drop a t))

-- what stands behind the table is not read
flow_front : (m : ℕ) (t z : List ℕ) → row_numbers * m ≤ length t → flow_text m (t ++ z) ≡ flow_text m t
unfolding flow_text block_lines
flow_front m t z h =
    ap (λ (l : List ℕ). l ++ said (codes "blocks ") m ++ codes "\n")
    (joins_same m (λ i. block_line (part (t ++ z) (row_numbers * i) row_numbers)) (λ i. block_line (part t (row_numbers * i) row_numbers)) (λ i l. ap block_line (part_front t z (row_numbers * i) row_numbers (omega arith))))

-- the table of a checked sheet
module _ {s : List ℕ} {n : ℕ} {targets : List ℕ} (checked : CheckedSheet s n targets) (out : List ℕ) (long : length out ≡ row_numbers * max_instructions) where
  flowed : flow_reply s (length out) ≡ Done (blocks_of (code_of s)) (flow_table (code_of s))
  flowed = flow_done s (length out) checked.accepted (omega (arith, blocks_few (code_of s), few_count s (length (code_of s)) checked.accepted refl))

  pub record FlowWritten (m : ℕ) (out' : List ℕ) : Type 0 where
    pub room : row_numbers * m ≤ length out'
    pub text : flow_text m out' ≡ flow_text (blocks_of (code_of s)) (flow_table (code_of s))

  pub flow_written : (m : ℕ) (out' : List ℕ) → m ≡ blocks_of (code_of s) → out' ≡ output_after (flow_reply s (length out)) out → FlowWritten m out'
  flow_written m out' count w =
      let is : out' ≡ flow_table (code_of s) ++ drop (length (flow_table (code_of s))) out = done_written out w flowed in
      let size : length (flow_table (code_of s)) ≡ row_numbers * blocks_of (code_of s) = table_length (code_of s) in
      record {
        room = omega (arith, ap length is, length-append (flow_table (code_of s)) (drop (length (flow_table (code_of s))) out));
        text = ap₂ flow_text count is ∙ flow_front (blocks_of (code_of s)) (flow_table (code_of s)) (drop (length (flow_table (code_of s))) out) (omega arith);
      }

-- ---- live sets

-- the bytes that the analysis writes
pub live_written : {s : List ℕ} {n : ℕ} {targets : List ℕ} (r : ℕ) (out out' : List ℕ) → CheckedSheet s n targets → n ≡ length (code_of s) → LiveWritten s r out out'
    → live_text (infos_of n out') r ≡ live_text (analyze (code_of s) (locals_of s)).info (analyze (code_of s) (locals_of s)).taken
live_written {s} {n} r out out' c h w =
    ap₂ (λ (l : List ℕ) (x : ℕ). live_text (infos_of n l) x) w.written w.taken
    ∙ ap (λ (is : List LiveVarInfo). live_text is (analyze (code_of s) (locals_of s)).taken) (live_read s c.accepted n _ h)

-- The call flow on an accepted sheet. Assumes nothing.
use Rattle.std.specs.Prelude.{◌≡◌, Err, refl, List, ◌++◌, ℕ, ◌*◌, ◌<◌, ◌≤◌, length, drop}
use Rattle.std.proofs.Common.{arith}
use Rattle.base.specs.Sizes.{max_instructions, row_numbers}
use Rattle.base.specs.Bytes.{u16_at}
use Rattle.base.specs.declared.Refusal.{Refusal}
use Rattle.base.specs.declared.Refusal.TheVariants.{OutputShort}
use Rattle.base.specs.Refusals.{Done, Accepted, lends, output_after}
use Rattle.base.specs.ReplyLaws.{call_refused, call_short, call_done, done_output}
use Rattle.base.specs.PartLaws.{gather_length}
use Rattle.stackless_bytecode.specs.declared.Bytecode.{Bytecode}
use Rattle.stackless_bytecode.specs.Slots.{Resolved}
use Rattle.sheet.specs.Layout.{count_of, code_of}
use Rattle.sheet.specs.Accepted.{CheckedSheet}
use Rattle.sheet.specs.Checks.{check_sheet}
use Rattle.sheet.specs.FormLaws.{accepted_shaped}
use Rattle.stackless_control_flow_graph.specs.Blocks.{lowers, blocks_of, keyed, row, flow_table, flow_reply}
use Rattle.base.specs.GrowLaws.{below_few}
use Rattle.stackless_control_flow_graph.specs.FlowLaws.{in_lowers, lowers_distinct}

-- no more blocks than instructions
pub blocks_few : (code : List Bytecode) → blocks_of code ≤ length code
unfolding blocks_of
blocks_few code = below_few (length code) (lowers_distinct code) (λ o i. (in_lowers code o i).inside)

-- ---- what the call answers

pub row_length : (code : List Bytecode) (l : ℕ) → length (row code (keyed code) l) ≡ row_numbers
unfolding row
row_length code l = refl

pub table_length : (code : List Bytecode) → length (flow_table code) ≡ row_numbers * blocks_of code
unfolding flow_table blocks_of
table_length code = gather_length row_numbers (row code (keyed code)) (row_length code) (lowers code)

module _ (s : List ℕ) (lent : ℕ) where
  pub flow_refused : {e : Refusal} → check_sheet s ≡ Err e → flow_reply s lent ≡ Err e
  unfolding flow_reply
  flow_refused e = call_refused (lends lent (row_numbers * blocks_of (code_of s))) (Done (blocks_of (code_of s)) (flow_table (code_of s))) e

  pub flow_short : check_sheet s ≡ Accepted → lent < row_numbers * blocks_of (code_of s) → flow_reply s lent ≡ Err OutputShort
  unfolding flow_reply
  flow_short e h = call_short (Done (blocks_of (code_of s)) (flow_table (code_of s))) e h

  pub flow_done : check_sheet s ≡ Accepted → row_numbers * blocks_of (code_of s) ≤ lent → flow_reply s lent ≡ Done (blocks_of (code_of s)) (flow_table (code_of s))
  unfolding flow_reply
  flow_done e h = call_done (Done (blocks_of (code_of s)) (flow_table (code_of s))) e h

-- ---- an accepted sheet

-- with room for the rows of all blocks, they are what the call leaves
pub fill_output : (s old table : List ℕ) → check_sheet s ≡ Accepted → row_numbers * blocks_of (code_of s) ≤ length old → table ≡ flow_table (code_of s) ++ drop (row_numbers * blocks_of (code_of s)) old
    → table ≡ output_after (flow_reply s (length old)) old
fill_output s old table accepted room is = done_output old (table_length (code_of s)) (flow_done s (length old) accepted room) is

-- ---- the checks accept, and have found where the labels stand

pub into_checked : (s : List ℕ) (n : ℕ) (targets : List ℕ) → check_sheet s ≡ Accepted → n ≡ u16_at s 4 → Resolved (code_of s) targets → length targets ≡ 2 * max_instructions → CheckedSheet s n targets
unfolding count_of
into_checked s n targets e c r size = record { accepted = e; count = c; resolved = r; slots = omega (arith, (accepted_shaped s n c e).few) }

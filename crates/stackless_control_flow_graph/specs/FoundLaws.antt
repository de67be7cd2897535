-- From found blocks to the arrays that edges and rows are made of: what is asked of them, and what the keys are. Assumes nothing.
use Rattle.std.specs.Prelude.{◌≡◌, refl, cond, Some, None, unwrap_or, ℕ, ◌+◌, ◌*◌, ◌≤◌, ◌<◌, List, ◌++◌, get_or, length, drop}
use Rattle.std.proofs.Common.{ap, ap₂, ◌∙◌, subst, arith}
use mathlib.Core.List.{Memᴰ}
use Rattle.base.specs.Sizes.{row_numbers}
use Rattle.base.specs.Lists.{gather, has, place}
use Rattle.base.specs.Numbering.{number_of}
use Rattle.base.specs.ListLaws.{by_test, has_in, place_lt}
use Rattle.base.specs.JoinLaws.{by_lt}
use Rattle.base.specs.GrowLaws.{get_d_past}
use Rattle.base.specs.Refusals.{Accepted, output_after}
use Rattle.stackless_bytecode.specs.declared.Bytecode.{Bytecode}
use Rattle.stackless_bytecode.specs.Sound.{Sound}
use Rattle.sheet.specs.Layout.{count_of, code_of}
use Rattle.sheet.specs.Checks.{check_sheet}
use Rattle.sheet.specs.CheckLaws.{code_sound}
use Rattle.sheet.specs.Shaped.{Shaped, code_size, code_at, record_inside}
use Rattle.sheet.specs.FormLaws.{accepted_shaped}
use Rattle.stackless_control_flow_graph.specs.declared.Successors.{Successors}
use Rattle.stackless_control_flow_graph.specs.Blocks.{Start, blocks_of, upper_of, keyed, key_of, flow_reply}
use Rattle.stackless_control_flow_graph.specs.Arrays.{succs_in, Within, BlocksFound, key_in, Reach, HasRecord, row_in}
use Rattle.stackless_control_flow_graph.specs.BlockLaws.{upper_lt}
use Rattle.stackless_control_flow_graph.specs.StartLaws.{succs_within}
use Rattle.stackless_control_flow_graph.specs.FlowLaws.{lower_in, keyed_at}
use Rattle.stackless_control_flow_graph.specs.KeyInLaws.{key_is}
use Rattle.stackless_control_flow_graph.specs.CallLaws.{fill_output}
use Rattle.stackless_control_flow_graph.specs.RowLaws.{cut_rows}

-- ---- the arrays of found blocks

module _ (code : List Bytecode) (sound : Sound code) (goes : List Successors) (ls uppers : List ℕ) (cut : BlocksFound code goes ls uppers) where
  ready : (order : List ℕ) → ((b : ℕ) → b < length order → Start code (get_or order b 0)) → (n : ℕ) → length code ≤ n → Reach goes order uppers n
  ready order start n most = record {
    lower = λ b h. omega (arith, (start b h).inside);
    upper = λ b h. omega (arith, cut.offsets, (start b h).inside);
    place = λ b h. omega (arith, cut.places, cut.upper.each (get_or order b 0) (start b h).inside, upper_lt code (get_or order b 0) (start b h).inside);
    within = λ b h. near (get_or order b 0) (start b h);
  }
    where
      near : (o : ℕ) → Start code o → Within n (succs_in goes (get_or uppers o 0))
      near o s = record {
        each = λ x i. omega (
          arith,
          (succs_within code sound (upper_of code o) (upper_lt code o s.inside)).each x
              (subst (λ (l : List ℕ). Memᴰ x l) (ap (succs_in goes) (cut.upper.each o s.inside) ∙ cut.going.each (upper_of code o) (upper_lt code o s.inside)) i),
        );
      }

  -- they have all that is asked of the blocks by offset
  pub cut_ready : (n : ℕ) → length code ≤ n → Reach goes ls uppers n
  cut_ready = ready ls (λ b h. lower_in code ls b cut.lower h)

  -- and of the blocks in the order of their keys
  pub order_ready : (order : List ℕ) → order ≡ keyed code → (n : ℕ) → length code ≤ n → Reach goes order uppers n
  order_ready order lows = ready order (λ b h. keyed_at code sound order b lows h)

-- ---- an array that has the key of each lower, and 0 at every other offset

module _ (code : List Bytecode) (keys : List ℕ) (numbered : (o : ℕ) → o < length keys → get_or keys o 0 ≡ key_in (keyed code) o) where
  -- the key of a lower
  pub key_at : length code ≤ length keys → (o : ℕ) → Start code o → get_or keys o 0 ≡ key_of (keyed code) o
  key_at most o s = numbered o (omega (arith, s.inside)) ∙ key_is code o s

  -- every key is below the number of blocks and two
  pub keys_low : (o : ℕ) → get_or keys o 0 < length (keyed code) + 2
  keys_low o = by_lt o (length keys) (λ h. omega (arith, numbered o h, below)) (λ h. omega (arith, get_d_past keys o 0 h))
    where
      below : key_in (keyed code) o < length (keyed code) + 2
      below = unfold number_of in
          by_test (λ b. has o (keyed code) ≡ b → unwrap_or (cond b (Some (2 + place o (keyed code))) None) 0 < length (keyed code) + 2) (has o (keyed code))
          (λ e q. omega (arith, place_lt o (keyed code) (has_in o (keyed code) e))) (λ e q. omega arith) refl

-- ---- an accepted sheet

module _ (s : List ℕ) (accepted : check_sheet s ≡ Accepted) (goes : List Successors) (ls uppers : List ℕ) (cut : BlocksFound (code_of s) goes ls uppers) where
  shaped : Shaped s (count_of s)
  shaped = accepted_shaped s (count_of s) refl accepted

  -- each block ends at a record
  pub fill_has : (b : ℕ) → b < length ls → HasRecord s (get_or uppers (get_or ls b 0) 0)
  fill_has b h = record { ends = record_inside shaped (get_or uppers (get_or ls b 0) 0) inside; few = omega (arith, inside, shaped.few) }
    where
      start : Start (code_of s) (get_or ls b 0)
      start = lower_in (code_of s) ls b cut.lower h

      inside : get_or uppers (get_or ls b 0) 0 < count_of s
      inside = omega (arith, cut.upper.each (get_or ls b 0) start.inside, upper_lt (code_of s) (get_or ls b 0) start.inside, code_size shaped)

  -- with room for the rows of all blocks, those out of the arrays are what the call leaves
  pub fill_rows : (keys old table : List ℕ) → ((o : ℕ) → Start (code_of s) o → get_or keys o 0 ≡ key_of (keyed (code_of s)) o) → row_numbers * length ls ≤ length old
      → table ≡ gather (row_in s goes uppers keys) ls ++ drop (row_numbers * length ls) old → table ≡ output_after (flow_reply s (length old)) old
  fill_rows keys old table key room is =
      fill_output s old table accepted (omega (arith, count))
      (is ∙ ap₂ (λ (rows : List ℕ) (m : ℕ). rows ++ drop (row_numbers * m) old)
      (cut_rows (code_of s) (code_sound s accepted) goes uppers keys cut.going cut.upper key s (λ k h. code_at shaped k (omega (arith, code_size shaped))) ls cut.lower) count)
    where
      count : length ls ≡ blocks_of (code_of s)
      count = unfold blocks_of in ap length cut.lower

-- The flow table means what it is to mean. Assumes nothing.
use Rattle.std.specs.Prelude.{◌≡◌, Result, Ok, Err, refl, ℕ, ◌+◌, ◌*◌, ◌≤◌, ◌<◌, length, drop, List, ◌++◌, get_or}
use Rattle.std.proofs.Common.{sym, ap, ◌∙◌, subst, get_or-take, arith, get_or-drop}
use mathlib.Core.List.{Memᴰ}
use Rattle.base.specs.Sizes.{row_numbers}
use Rattle.base.specs.Lists.{place}
use Rattle.base.specs.ListLaws.{get_d_in, place_lt, get_d_place, place_get_d}
use Rattle.base.specs.JoinLaws.{by_lt}
use Rattle.base.specs.PartLaws.{chunk}
use Rattle.base.specs.declared.Refusal.{Refusal}
use Rattle.base.specs.Refusals.{Accepted, answer_of, output_after}
use Rattle.base.specs.ReplyLaws.{done_value}
use Rattle.stackless_bytecode.specs.declared.Bytecode.{Bytecode}
use Rattle.stackless_bytecode.specs.Successors.{successors}
use Rattle.stackless_bytecode.specs.SuccessorLaws.{exit_nowhere, two_successors}
use Rattle.stackless_bytecode.specs.Labels.{label_offset}
use Rattle.stackless_bytecode.specs.Sound.{Sound}
use Rattle.sheet.specs.Layout.{code_of}
use Rattle.sheet.specs.Checks.{check_sheet}
use Rattle.sheet.specs.CheckLaws.{code_sound}
use Rattle.stackless_control_flow_graph.specs.Blocks.{starts, lowers, blocks_of, lower_of, upper_of, keyed, key_of, row, flow_table, flow_reply}
use Rattle.stackless_control_flow_graph.specs.BlockLaws.{named_starts, upper_le, upper_lt, upper_lower}
use Rattle.stackless_control_flow_graph.specs.Blocks.{Start}
use Rattle.stackless_control_flow_graph.specs.FlowLaws.{in_lowers, lowers_in, lowers_distinct}
use Rattle.stackless_control_flow_graph.specs.GraphLaws.{blocks_cover, blocks_apart, inner_quiet, succs_lower, keys_from, keys_to, keys_once, keys_all}
use Rattle.stackless_control_flow_graph.specs.CallLaws.{row_length, flow_short, flow_done}
use Rattle.stackless_control_flow_graph.specs.FlowMeaning.{row_lower, row_upper, row_key, FlowMeaning}

module _ (code : List Bytecode) (sound : Sound code) (z : List ℕ) where
  abbrev table : List ℕ
  table = flow_table code ++ z

  -- the lower of block b
  abbrev low : ℕ → ℕ
  low b = get_or (lowers code) b 0

  module _ (b : ℕ) (h : b < blocks_of code) where
    inside_lowers : b < length (lowers code)
    inside_lowers = unfold blocks_of in h

    -- number i of row b
    number_at : (i : ℕ) → i < row_numbers → get_or (flow_table code ++ z) (row_numbers * b + i) 0 ≡ get_or (row code (keyed code) (get_or (lowers code) b 0)) i 0
    unfolding flow_table
    number_at i g =
        sym (get_or-take row_numbers (drop (row_numbers * b) (flow_table code ++ z)) i 0 g ∙ get_or-drop (row_numbers * b) (flow_table code ++ z) i 0)
        ∙ ap (λ (l : List ℕ). get_or l i 0) (chunk row_numbers (row code (keyed code)) (row_length code) (lowers code) z b 0 inside_lowers)

    lower_is : row_lower table b ≡ low b
    unfolding row
    lower_is = let at : row_numbers * b ≡ row_numbers * b + 0 = omega arith in ap (λ (i : ℕ). get_or (flow_table code ++ z) i 0) at ∙ number_at 0 (omega arith)

    upper_is : row_upper table b ≡ upper_of code (low b)
    unfolding row
    upper_is = number_at 1 (omega arith)

    key_is : row_key table b ≡ key_of (keyed code) (low b)
    unfolding row
    key_is = number_at 2 (omega arith)

    sixth_is : get_or (flow_table code ++ z) (row_numbers * b + 5) 0 ≡ 0
    unfolding row
    sixth_is = number_at 5 (omega arith)

    start : Start code (low b)
    start = in_lowers code (low b) (get_d_in (lowers code) b 0 inside_lowers)

  -- the row of the block at o
  module _ (o : ℕ) (i : Memᴰ o (lowers code)) where
    row_inside : place o (lowers code) < blocks_of code
    row_inside = unfold blocks_of in place_lt o (lowers code) i

    row_lower_lem : low (place o (lowers code)) ≡ o
    row_lower_lem = get_d_place o (lowers code) i

  -- blocks with one lower are one
  same_row : (b d : ℕ) → b < blocks_of code → d < blocks_of code → low b ≡ low d → b ≡ d
  same_row b d h g e =
      sym (place_get_d b (lowers_distinct code) (inside_lowers b h)) ∙ ap (λ (x : ℕ). place x (lowers code)) e ∙ place_get_d d (lowers_distinct code) (inside_lowers d g)

  -- offset k is in block b
  in_block : (b k : ℕ) (h : b < blocks_of code) → row_lower table b ≤ k → k ≤ row_upper table b → lower_of code k ≡ low b
  in_block b k h l u = blocks_apart code (low b) k (start b h) (omega (arith, lower_is b h)) (omega (arith, upper_is b h))

  pub flow_meaning : FlowMeaning code (blocks_of code) (flow_table code ++ z)
  flow_meaning = record {
    inside = λ b h. (omega (arith, lower_is b h, upper_is b h, upper_le code (low b)), omega (arith, upper_is b h, upper_lt code (low b) (start b h).inside));
    cover = λ k h. let c = blocks_cover code k h in
        let b = place (lower_of code k) (lowers code) in
        let inside = row_inside (lower_of code k) c.is_lower in
        let is = row_lower_lem (lower_of code k) c.is_lower in
        (b, inside, omega (arith, lower_is b inside, is, c.from), omega (arith, upper_is b inside ∙ ap (upper_of code) is, c.to));
    apart = λ b d k h g l u m v. same_row b d h g (sym (in_block b k h l u) ∙ in_block d k g m v);
    quiet = λ b k h l u. let e = in_block b k h l (omega arith) in
        let end : k < upper_of code (low b) = omega (arith, upper_is b h) in
        let inside : k < length code = omega (arith, upper_lt code (low b) (start b h).inside) in
        inner_quiet code k inside (omega (arith, upper_lower code k inside, ap (upper_of code) e));
    named = λ k l h i. let o = label_offset code l in
        let m = lowers_in code o (record { inside = (sound.named k l h i).inside; starts = named_starts code sound k l h i }) in
        (place o (lowers code), row_inside o m, lower_is (place o (lowers code)) (row_inside o m) ∙ row_lower_lem o m);
    reason = λ b h. ap (starts code) (lower_is b h) ∙ (start b h).starts;
    goes = λ b o h i. let m = succs_lower code sound (low b) o (start b h) (subst (λ (u : ℕ). Memᴰ o (successors code u)) (upper_is b h) i) in
        (place o (lowers code), row_inside o m, lower_is (place o (lowers code)) (row_inside o m) ∙ row_lower_lem o m);
    two = λ b h. (two_successors code (row_upper table b), sixth_is b h);
    exits = λ b h x. exit_nowhere code (row_upper table b) (sound.stops (row_upper table b) (omega (arith, upper_is b h, upper_lt code (low b) (start b h).inside))) x;
    keys = λ b h. (omega (arith, key_is b h, keys_from code sound (low b)), omega (arith, key_is b h, keys_to code sound (low b) (start b h)));
    keys_once = λ b d h g e. same_row b d h g (keys_once code sound (low b) (low d) (start b h) (start d g) (sym (key_is b h) ∙ e ∙ key_is d g));
    keys_all = λ j l h. let k = keys_all code sound j l h in
        let m = lowers_in code k.lower k.start in
        let b = place k.lower (lowers code) in
        (b, row_inside k.lower m, key_is b (row_inside k.lower m) ∙ ap (key_of (keyed code)) (row_lower_lem k.lower m) ∙ k.is);
  }

-- so does whatever flow answers for an accepted sheet, where it answers with a table
pub flow_means : (s lent-table table' : List ℕ) (m : ℕ) → check_sheet s ≡ Accepted → Ok m ≡ answer_of (flow_reply s (length lent-table)) → table' ≡ output_after (flow_reply s (length lent-table)) lent-table
    → FlowMeaning (code_of s) m table'
flow_means s old table' m e result written =
    by_lt (length old) (row_numbers * blocks_of (code_of s))
    (λ h. absurd (ok_err (result ∙ ap answer_of (flow_short s (length old) e h))))
    (λ h. let d = flow_done s (length old) e h in
    subst (λ (n : ℕ). FlowMeaning (code_of s) n table') (sym (done_value result d refl))
    (subst (FlowMeaning (code_of s) (blocks_of (code_of s))) (sym (written ∙ ap (λ x. output_after x old) d)) (flow_meaning (code_of s) (code_sound s e) _)))
  where
    ok_err : {n : ℕ} {f : Refusal} → ◌≡◌ {A = Result ℕ Refusal} (Ok n) (Err f) → ⊥
    ok_err q = let z : ◌≡◌ {A = ℕ} 0 1 = cc in omega arith

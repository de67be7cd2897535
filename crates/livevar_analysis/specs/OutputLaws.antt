-- The sets of each instruction from the last to the first, the bytes that are written, and that they are read back. Assumes nothing.
use Rattle.std.specs.Prelude.{◌≡◌, Bool, true, false, ◌||◌, eqb, refl, cond, not, List, ◌++◌, ℕ, suc, ◌+◌, ◌-◌, ◌*◌, ◌^◌, ◌≤◌, ◌<◌, get_or, length, map, take, drop}
use Rattle.std.proofs.Common.{sym, ap, ap₂, ◌∙◌, subst, inl, inr, zero-add, lt_of_lt_of_le, add-one, eq-eqb, ne_eqb, length-append, pow_mono, get_or-take, ext_get_or, take_at, drop_at, append_assoc, arith, take-append-drop, pow_pos}
use Rattle.base.specs.Sizes.{set_bytes, max_locals, pair_bytes}
use Rattle.base.specs.Lists.{tab, gather}
use Rattle.base.specs.Bytes.{number, part, bytes_of}
use Rattle.base.specs.ListLaws.{by_eq, by_test, get_d_in, get_d_tab, length_tab}
use Rattle.base.specs.PartLaws.{chunk}
use Rattle.base.specs.WriteLaws.{part_behind}
use Rattle.base.specs.ByteLaws.{number_bytes}
use Rattle.base.specs.Refusals.{Accepted}
use Rattle.dataflow_domains.specs.MaskLaws.{sub_refl, sub_lt, sub_full}
use Rattle.dataflow_domains.specs.Sets.{mask}
use Rattle.dataflow_domains.specs.declared.LiveVarState.{LiveVarState}
use Rattle.dataflow_domains.specs.ByteLaws.{bytes_length}
use Rattle.stackless_bytecode.specs.declared.Bytecode.{Bytecode}
use Rattle.stackless_bytecode.specs.Kinds.{at, nop}
use Rattle.sheet.specs.Layout.{locals_of, code_of}
use Rattle.sheet.specs.Checks.{check_sheet}
use Rattle.sheet.specs.CheckLaws.{clear, locals_lt}
use Rattle.sheet.specs.AcceptLaws.{is_heading}
use Rattle.stackless_control_flow_graph.specs.Blocks.{starts, lower_of, keyed, key_of}
use Rattle.stackless_control_flow_graph.specs.BlockLaws.{Last, lower_start, lower_next, lower_starts, lower_le}
use Rattle.stackless_control_flow_graph.specs.Blocks.{Start}
use Rattle.stackless_control_flow_graph.specs.GraphLaws.{keys_once}
use Rattle.livevar_analysis.specs.Live.{execute, Post}
use Rattle.livevar_analysis.specs.LiveLaws.{transfer_lt}
use Rattle.livevar_analysis.specs.Term3Laws.{term3}
use Rattle.livevar_analysis.specs.Analysis.{LiveVarInfo, no_info, analyze_function, analyze, execute_all, info_of, live_bytes, info_in, infos_of}
use Rattle.livevar_analysis.specs.BlockRuleLaws.{sides_by, behind, rest_is, behind_last, behind_mid}
use Rattle.livevar_analysis.specs.declared.rules.Rule.{Rule}
use Rattle.livevar_analysis.specs.Rules.{rule_at, Ruled}
use Rattle.livevar_analysis.specs.Output.{info_by, infos_by, side_bytes, is_end, after_by, Blocked}

-- ---- the set after an instruction

module _ (code : List Bytecode) (ms : List ℕ) where
  -- the set after the block of k
  final : ℕ → ℕ
  final k = get_or ms (key_of (keyed code) (lower_of code k)) 0

  -- the sets after and before instruction k
  pub after_of : ℕ → ℕ
  after_of k = execute_all (behind code k) (final k)

  pub before_of : ℕ → ℕ
  before_of k = execute (at code k) (after_of k)

  pub info_is : (k : ℕ) → k < length code → info_by code ms k ≡ record { before = before_of k; after = after_of k }
  unfolding info_by info_of before_of after_of final
  info_is k h = ap (λ (rs : List Bytecode). sides_by (at code k) (execute_all (drop 1 rs) (final k))) (rest_is code k h)

  module _ (keys : List ℕ) (sets : List LiveVarState) (known : Blocked code ms keys sets) where
    -- at the end of a block
    after_end : (k m : ℕ) → k < length code → Last code k → is_end keys (length code) k ≡ true → after_by keys sets (length code) k m ≡ after_of k
    unfolding after_by after_of execute_all final
    after_end k m h last e =
        ap (λ (b : Bool). cond b (get_or (map mask sets) (get_or keys k 0) 0) m) e
        ∙ sym (get_or-take (length ms) (map mask sets) (get_or keys k 0) 0 (known.keys_in k h)) ∙ ap (λ (l : List ℕ). get_or l (get_or keys k 0) 0) known.sets_are
        ∙ ap (λ (x : ℕ). get_or ms x 0) (known.keys_are.each k h)
        ∙ sym (ap (λ (rs : List Bytecode). execute_all rs (final k)) (behind_last code k h last))

    -- within it the set before the next is the set after this
    after_mid : (k m : ℕ) → suc k < length code → starts code (suc k) ≡ false → m ≡ before_of (suc k) → is_end keys (length code) k ≡ false → after_by keys sets (length code) k m ≡ after_of k
    unfolding after_by before_of after_of execute_all final
    after_mid k m h e q f =
        ap (λ (b : Bool). cond b (get_or (map mask sets) (get_or keys k 0) 0) m) f ∙ q
        ∙ sym (ap (λ (rs : List Bytecode). execute_all rs (final k)) (behind_mid code k h e ∙ rest_is code (suc k) h)
        ∙ ap (λ (x : ℕ). execute (at code (suc k)) (execute_all (behind code (suc k)) (get_or ms (key_of (keyed code) x) 0))) (sym (lower_next code k e)))

    pub after_is : (k m : ℕ) → k < length code → (suc k < length code → m ≡ before_of (suc k)) → after_by keys sets (length code) k m ≡ after_of k
    unfolding Last
    after_is k m h q =
        by_eq (suc k) (length code)
        (λ e. after_end k m h (inl e) (ap (λ (b : Bool). b || not (eqb (get_or keys (k + 1) 0) (get_or keys k 0))) (eq-eqb (k + 1) (length code) (omega arith))))
        (λ g. by_test (λ b. starts code (suc k) ≡ b → after_by keys sets (length code) k m ≡ after_of k) (starts code (suc k))
        (λ e r. after_end k m h (inr e) (marked g ∙ e))
        (λ e r. after_mid k m (omega arith) e (q (omega arith)) (marked g ∙ e)) refl)
      where
        -- the next offset has the same key where it is in the same block
        next_is : suc k < length code → get_or keys (suc k) 0 ≡ key_of (keyed code) (lower_of code (suc k)) → not (eqb (get_or keys (suc k) 0) (get_or keys k 0)) ≡ starts code (suc k)
        next_is inside e =
            by_test (λ b. starts code (suc k) ≡ b → not (eqb (get_or keys (suc k) 0) (get_or keys k 0)) ≡ b) (starts code (suc k))
            (λ t r. ap not (ne_eqb _ _ (λ q. other t (sym e ∙ q ∙ known.keys_are.each k h))))
            (λ f r. ap not (eq-eqb _ _ (e ∙ ap (key_of (keyed code)) (lower_next code k f) ∙ sym (known.keys_are.each k h)))) refl
          where
            start_of : (i : ℕ) → i < length code → Start code (lower_of code i)
            start_of i b = record { inside = omega (arith, lower_le code i); starts = lower_starts code i }

            other : starts code (suc k) ≡ true → key_of (keyed code) (lower_of code (suc k)) ≡ key_of (keyed code) (lower_of code k) → ⊥
            other t q =
                let low : lower_of code (suc k) ≡ suc k = lower_start code (suc k) t in
                omega (arith, low, lower_le code k, keys_once code known.sound (lower_of code (suc k)) (lower_of code k) (start_of (suc k) inside) (start_of k h) q)

        marked : (suc k ≡ length code → ⊥) → is_end keys (length code) k ≡ starts code (suc k)
        marked g =
            ap₂ (λ (a b : Bool). a || b) (ne_eqb (k + 1) (length code) (λ e. g (omega arith)))
            (ap (λ (x : ℕ). not (eqb (get_or keys x 0) (get_or keys k 0))) (add-one k) ∙ next_is (omega arith) (known.keys_are.each (suc k) (omega arith)))

-- ---- what is written, from the last instruction to the first

module _ (code : List Bytecode) (ms old : List ℕ) where
  -- the sets of the instructions from k on are written, and m is the set before k
  pub record InfoWritten (k m : ℕ) (out : List ℕ) : Type 0 where
    pub here : k < length code → m ≡ before_of code ms k
    pub is : out ≡ take (pair_bytes * k) old ++ (live_bytes (tab (length code - k) k (info_by code ms)) ++ drop (pair_bytes * length code) old)

  pub written_none : (n m : ℕ) → n ≡ length code → InfoWritten n m old
  unfolding tab live_bytes
  written_none n m e =
      let none : length code - n ≡ 0 = omega arith in
      record {
        here = λ h. absurd (omega arith);
        is = sym (ap (λ (d : ℕ). take (pair_bytes * n) old ++ (live_bytes (tab d n (info_by code ms)) ++ drop (pair_bytes * length code) old)) none ∙ ap (λ (x : ℕ). take (pair_bytes * n) old ++ drop (pair_bytes * x) old) (sym e) ∙ take-append-drop (pair_bytes * n) old);
      }

  pub written_more : {k m : ℕ} {out : List ℕ} (j before after e : ℕ) → k ≡ suc j → e ≡ pair_bytes * j + pair_bytes → k ≤ length code → pair_bytes * length code ≤ length old
      → after ≡ after_of code ms j → before ≡ execute (at code j) after → InfoWritten k m out
      → InfoWritten j before (take (pair_bytes * j) out ++ (side_bytes before after ++ drop (e - pair_bytes * j) (drop (pair_bytes * j) out)))
  unfolding tab live_bytes before_of
  written_more {k} {m} {out} j before after e s q h l ea eb w =
      let size : length code - j ≡ suc (length code - k) = omega arith in
      let end : pair_bytes * k ≡ e = omega arith in
      let rest = drop (pair_bytes * length code) old in
      let both : before ≡ before_of code ms j = eb ∙ ap (execute (at code j)) ea in
      let step : side_bytes before after ++ live_bytes (tab (length code - k) k (info_by code ms)) ≡ live_bytes (tab (length code - j) j (info_by code ms)) =
      ap₂ (λ (b a : ℕ). side_bytes b a ++ live_bytes (tab (length code - k) k (info_by code ms))) both ea
      ∙ ap (λ (x : LiveVarInfo). side_bytes x.before x.after ++ live_bytes (tab (length code - k) k (info_by code ms))) (sym (info_is code ms j (omega arith)))
      ∙ ap (λ (i : ℕ). side_bytes (info_by code ms j).before (info_by code ms j).after ++ live_bytes (tab (length code - k) i (info_by code ms))) s
      ∙ ap (λ (n : ℕ). live_bytes (tab n j (info_by code ms))) (sym size) in
      record {
        here = λ i. both;
        is = part_behind old (live_bytes (tab (length code - k) k (info_by code ms)) ++ rest) (side_bytes before after) out (pair_bytes * j) e (omega arith) (omega arith) (w.is ∙ ap (λ (n : ℕ). take n old ++ (live_bytes (tab (length code - k) k (info_by code ms)) ++ rest)) end)
            ∙ ap (λ (x : List ℕ). take (pair_bytes * j) old ++ x) (sym (append_assoc (side_bytes before after) (live_bytes (tab (length code - k) k (info_by code ms))) rest) ∙ ap (λ (x : List ℕ). x ++ rest) step);
      }

  -- a turn, by the rules and blocks in slices: a is the set after instruction k - 1, b the set before it
  pub written_step : (rules : List Rule) (keys : List ℕ) (sets : List LiveVarState) {k m : ℕ} {out : List ℕ} (n a b : ℕ) (blk : List ℕ) → n ≡ length code → Ruled code rules → Blocked code ms keys sets
      → 0 < k → k ≤ n → pair_bytes * n ≤ length old → a ≡ after_by keys sets n (k - 1) m → b ≡ rule_at rules (k - 1) a → blk ≡ side_bytes b a → InfoWritten k m out
      → InfoWritten (k - 1) b (take (pair_bytes * (k - 1)) out ++ (blk ++ drop (pair_bytes * (k - 1) + pair_bytes - pair_bytes * (k - 1)) (drop (pair_bytes * (k - 1)) out)))
  written_step rules keys sets {k} {m} {out} n a b blk size ruled known pos h l ea eb q w =
      let j = k - 1 in
      let next : k ≡ suc j = omega arith in
      let after : a ≡ after_of code ms j =
      ea ∙ ap (λ (x : ℕ). after_by keys sets x j m) size
      ∙ after_is code ms keys sets known j m (omega arith) (λ i. w.here (omega arith) ∙ ap (before_of code ms) next) in
      let before : b ≡ execute (at code j) a = eb ∙ ruled.each j a (omega arith) in
      subst (λ (x : List ℕ). InfoWritten j b (take (pair_bytes * j) out ++ (x ++ drop (pair_bytes * j + pair_bytes - pair_bytes * j) (drop (pair_bytes * j) out)))) (sym q)
      (written_more j b a (pair_bytes * j + pair_bytes) next refl (omega arith) (omega arith) after before w)

  pub written_all : {k m : ℕ} {out : List ℕ} → k ≡ 0 → InfoWritten k m out → out ≡ live_bytes (infos_by code ms) ++ drop (pair_bytes * length code) old
  unfolding infos_by
  written_all {k} {m} {out} e w =
      let all : length code - 0 ≡ length code = omega arith in
      w.is ∙ ap (λ (x : ℕ). take (pair_bytes * x) old ++ (live_bytes (tab (length code - x) x (info_by code ms)) ++ drop (pair_bytes * length code) old)) e
      ∙ ap (λ (d : ℕ). live_bytes (tab d 0 (info_by code ms)) ++ drop (pair_bytes * length code) old) all

-- where ms are the sets of the work list's last state, the sets are what live gives
pub infos_live : (code : List Bytecode) (locals : ℕ) → infos_by code (analyze_function code (keyed code) locals).sets ≡ (analyze code locals).info
unfolding infos_by info_by analyze
infos_live code locals = refl

-- ---- what is written is read back

-- every set is within the width
pub record NarrowSets (xs : List LiveVarInfo) : Type 0 where
  pub before_lt : (k : ℕ) → k < length xs → (get_or xs k no_info).before < 2 ^ max_locals
  pub after_lt : (k : ℕ) → k < length xs → (get_or xs k no_info).after < 2 ^ max_locals

side_length : (b a : ℕ) → length (side_bytes b a) ≡ pair_bytes
side_length b a = omega (arith, length-append (bytes_of set_bytes b) (bytes_of set_bytes a), bytes_length set_bytes b, bytes_length set_bytes a)

info_back : (b a : ℕ) → b < 2 ^ max_locals → a < 2 ^ max_locals → info_in (side_bytes b a) ≡ record { before = b; after = a }
unfolding info_in
info_back b a hb ha =
    ap₂ (λ (x y : ℕ). sides x y)
    (ap number (take_at (bytes_of set_bytes b) (bytes_of set_bytes a) set_bytes (bytes_length set_bytes b)) ∙ number_bytes set_bytes b hb)
    (ap number (drop_at (bytes_of set_bytes b) (bytes_of set_bytes a) set_bytes (bytes_length set_bytes b)) ∙ number_bytes set_bytes a ha)
  where
    sides : ℕ → ℕ → LiveVarInfo
    sides x y = record { before = x; after = y }

pub infos_read : (xs : List LiveVarInfo) (z : List ℕ) → NarrowSets xs → infos_of (length xs) (live_bytes xs ++ z) ≡ xs
unfolding infos_of live_bytes
infos_read xs z w =
    ext_get_or no_info (tab (length xs) 0 piece) xs (length_tab (length xs) 0 piece)
    (λ k h. let inside : k < length xs = omega (arith, length_tab (length xs) 0 piece) in
    get_d_tab (length xs) 0 k piece no_info inside ∙ ap piece (zero-add k)
    ∙ ap info_in (chunk pair_bytes (λ x. side_bytes x.before x.after) (λ x. side_length x.before x.after) xs z k no_info inside)
    ∙ info_back (get_or xs k no_info).before (get_or xs k no_info).after (w.before_lt k inside) (w.after_lt k inside))
  where
    piece : ℕ → LiveVarInfo
    piece k = info_in (part (gather (λ x. side_bytes x.before x.after) xs ++ z) (pair_bytes * k) pair_bytes)

-- the sets of an accepted sheet are within the width: they have no more than the full sets, which have all that the rules give
module _ (s : List ℕ) (e : check_sheet s ≡ Accepted) where
  full : ℕ
  full = 2 ^ locals_of s - 1

  full_lt : full < 2 ^ locals_of s
  unfolding full
  full_lt = omega (arith, pow_pos (locals_of s))

  full_post : Post (code_of s) (λ k. full) (λ k. full)
  unfolding full
  full_post = record {
    after = λ k o h i. sub_refl full;
    before = λ k h. sub_full (locals_of s) (execute (at (code_of s) k) full) (transfer_lt (locals_of s) (at (code_of s) k) full (locals_lt s e (at (code_of s) k) (get_d_in (code_of s) k nop h)) full_lt);
  }

  wide : 2 ^ locals_of s ≤ 2 ^ max_locals
  wide = pow_mono {i = locals_of s} {j = max_locals} (is_heading s (clear s e).three).locals

  pub live_narrow : NarrowSets (analyze (code_of s) (locals_of s)).info
  live_narrow =
      let t = term3 s e in
      record {
        before_lt = λ k h. lt_of_lt_of_le (sub_lt (locals_of s) (t.within (λ j. full) (λ j. full) full_post k (omega (arith, t.count))).0 full_lt) wide;
        after_lt = λ k h. lt_of_lt_of_le (sub_lt (locals_of s) (t.within (λ j. full) (λ j. full) full_post k (omega (arith, t.count))).1 full_lt) wide;
      }

  -- so what live writes is read back
  pub live_read : (n : ℕ) (z : List ℕ) → n ≡ length (code_of s) → infos_of n (live_bytes (analyze (code_of s) (locals_of s)).info ++ z) ≡ (analyze (code_of s) (locals_of s)).info
  live_read n z q =
      ap (λ (x : ℕ). infos_of x (live_bytes (analyze (code_of s) (locals_of s)).info ++ z)) (q ∙ sym (term3 s e).count) ∙ infos_read (analyze (code_of s) (locals_of s)).info z live_narrow

-- The rows of the flow table, one a turn. Assumes nothing.
use Rattle.std.specs.Prelude.{◌≡◌, refl, Bool, true, false, cond, List, [], ◌∷◌, ◌++◌, ℕ, ◌+◌, ◌*◌, ◌≤◌, ◌<◌, get_or, length, take, drop}
use Rattle.std.proofs.Common.{sym, ap, ap₂, ◌∙◌, arith, take_all}
use Rattle.std.proofs.lemmas.List.Edits.{sets}
use Rattle.base.specs.Lists.{gather}
use Rattle.base.specs.Sizes.{row_numbers}
use Rattle.base.specs.WriteLaws.{fill}
use Rattle.stackless_bytecode.specs.declared.Bytecode.{Bytecode}
use Rattle.stackless_bytecode.specs.Kinds.{at, is_exit}
use Rattle.stackless_bytecode.specs.Sound.{Sound}
use Rattle.sheet.specs.Layout.{instruction_at}
use Rattle.stackless_control_flow_graph.specs.declared.Successors.{Successors}
use Rattle.stackless_control_flow_graph.specs.Arrays.{SuccessorsTo, Uppers, next_keys, BlockAt, succ_keys_in, next_keys_in, row_from, row_in}
use Rattle.stackless_control_flow_graph.specs.Blocks.{Start, lowers, blocks_of, upper_of, keyed, key_of, row, flow_table}
use Rattle.stackless_control_flow_graph.specs.BlockLaws.{upper_lt}
use Rattle.stackless_control_flow_graph.specs.FlowLaws.{in_lowers}
use Rattle.stackless_control_flow_graph.specs.LeadLaws.{arrays_are}
use Rattle.stackless_control_flow_graph.specs.CallLaws.{row_length}
use Rattle.base.specs.GrowLaws.{gather_agree, pieces_kept, pieces_more}

-- ---- a row

pub row_put : (out : List ℕ) (code : List Bytecode) (ks : List ℕ) (l u k x y : ℕ) → length out ≡ row_numbers → u ≡ upper_of code l → k ≡ key_of (keyed code) l
    → ks ≡ cond (is_exit (at code (upper_of code l))) (1 ∷ []) (next_keys code l) → x ≡ get_or ks 0 0 → y ≡ get_or ks 1 0 → sets out 0 (l ∷ u ∷ k ∷ x ∷ y ∷ 0 ∷ []) ≡ row code (keyed code) l
unfolding row
row_put out code ks l u k x y six eu ek is ex ey =
    fill out (l ∷ u ∷ k ∷ x ∷ y ∷ 0 ∷ []) six
    ∙ ap₂ (λ (m n : ℕ). l ∷ u ∷ k ∷ m ∷ n ∷ 0 ∷ []) ex ey
    ∙ ap₂ (λ (m : ℕ) (xs : List ℕ). l ∷ u ∷ m ∷ get_or xs 0 0 ∷ get_or xs 1 0 ∷ 0 ∷ []) ek is
    ∙ ap (λ (m : ℕ). let next = cond (is_exit (at code (upper_of code l))) (1 ∷ []) (next_keys code l) in l ∷ m ∷ key_of (keyed code) l ∷ get_or next 0 0 ∷ get_or next 1 0 ∷ 0 ∷ []) eu

-- ---- all rows

module _ (code : List Bytecode) (d : List ℕ) (b : ℕ) where
  pub rows_kept : b ≤ length (lowers code) → row_numbers * b ≤ length d → length (gather (row code (keyed code)) (take b (lowers code)) ++ drop (row_numbers * b) d) ≡ length d
  rows_kept = pieces_kept row_numbers (row code (keyed code)) (row_length code) (lowers code) d b

  pub rows_more : (l : ℕ) (t blk : List ℕ) → b < length (lowers code) → l ≡ get_or (lowers code) b 0 → t ≡ gather (row code (keyed code)) (take b (lowers code)) ++ drop (row_numbers * b) d → blk ≡ row code (keyed code) l
      → take (row_numbers * b) t ++ (blk ++ drop row_numbers (drop (row_numbers * b) t)) ≡ gather (row code (keyed code)) (take (b + 1) (lowers code)) ++ drop (row_numbers * (b + 1)) d
  rows_more l t blk h is et eb = pieces_more row_numbers (row code (keyed code)) (row_length code) (lowers code) d b t blk h et (eb ∙ ap (row code (keyed code)) is)

  pub rows_end : (t : List ℕ) → b ≡ length (lowers code) → t ≡ gather (row code (keyed code)) (take b (lowers code)) ++ drop (row_numbers * b) d → t ≡ flow_table code ++ drop (row_numbers * blocks_of code) d
  unfolding flow_table blocks_of
  rows_end t all et = et ∙ ap₂ (λ (ls : List ℕ) (n : ℕ). gather (row code (keyed code)) ls ++ drop (row_numbers * n) d) (take_all b (lowers code) (omega arith)) all

-- ---- a row out of arrays

module _ (s : List ℕ) (goes : List Successors) (keys : List ℕ) (u : ℕ) {r : Bytecode} (is : r ≡ instruction_at s u) where
  by_exit : (b : Bool) → is_exit r ≡ b → next_keys_in s goes keys u ≡ cond b (1 ∷ []) (succ_keys_in keys goes u)
  unfolding next_keys_in
  by_exit b e = ap (λ (x : Bool). cond x (1 ∷ []) (succ_keys_in keys goes u)) (ap is_exit (sym is) ∙ e)

  -- an exit is followed by the dummy exit
  pub next_exit : is_exit r ≡ true → next_keys_in s goes keys u ≡ 1 ∷ []
  next_exit = by_exit true

  -- and what is none by the blocks of its successors
  pub next_other : is_exit r ≡ false → next_keys_in s goes keys u ≡ succ_keys_in keys goes u
  next_other = by_exit false

-- six numbers written are the row of the block from l to u
pub row_from_put : (out s : List ℕ) (goes : List Successors) (keys ks : List ℕ) (l u a b x y : ℕ) → length out ≡ row_numbers → a ≡ l → b ≡ u → ks ≡ next_keys_in s goes keys u → x ≡ get_or ks 0 0 → y ≡ get_or ks 1 0
    → sets out 0 (a ∷ b ∷ get_or keys l 0 ∷ x ∷ y ∷ 0 ∷ []) ≡ row_from s goes keys l u
unfolding row_from
row_from_put out s goes keys ks l u a b x y six al bu is ex ey =
    fill out (a ∷ b ∷ get_or keys l 0 ∷ x ∷ y ∷ 0 ∷ []) six
    ∙ ap₂ (λ (m n : ℕ). m ∷ n ∷ get_or keys l 0 ∷ x ∷ y ∷ 0 ∷ []) al bu
    ∙ ap₂ (λ (m n : ℕ). l ∷ u ∷ get_or keys l 0 ∷ m ∷ n ∷ 0 ∷ []) ex ey
    ∙ ap (λ (xs : List ℕ). l ∷ u ∷ get_or keys l 0 ∷ get_or xs 0 0 ∷ get_or xs 1 0 ∷ 0 ∷ []) is

-- ---- all rows out of arrays

row_in_length : (s : List ℕ) (goes : List Successors) (uppers keys : List ℕ) (l : ℕ) → length (row_in s goes uppers keys l) ≡ row_numbers
unfolding row_from
row_in_length s goes uppers keys l = refl

module _ (s : List ℕ) (goes : List Successors) (uppers keys ls d : List ℕ) (b : ℕ) where
  -- what is written of the rows out of arrays is as long as before
  pub rows_in_kept : b ≤ length ls → row_numbers * b ≤ length d → length (gather (row_in s goes uppers keys) (take b ls) ++ drop (row_numbers * b) d) ≡ length d
  rows_in_kept = pieces_kept row_numbers (row_in s goes uppers keys) (row_in_length s goes uppers keys) ls d b

  -- one row more out of arrays
  pub rows_in_more : (l u : ℕ) (t blk : List ℕ) → b < length ls → BlockAt ls uppers b l u → t ≡ gather (row_in s goes uppers keys) (take b ls) ++ drop (row_numbers * b) d
      → blk ≡ row_from s goes keys l u → take (row_numbers * b) t ++ (blk ++ drop row_numbers (drop (row_numbers * b) t)) ≡ gather (row_in s goes uppers keys) (take (b + 1) ls) ++ drop (row_numbers * (b + 1)) d
  rows_in_more l u t blk h is et eb =
      pieces_more row_numbers (row_in s goes uppers keys) (row_in_length s goes uppers keys) ls d b t blk h et (eb ∙ ap₂ (row_from s goes keys) is.lower is.upper)

-- ---- the rows of a code, out of a sheet that has its instructions and arrays that have its successors, its uppers and the key of each lower

module _ (code : List Bytecode) (sound : Sound code) (goes : List Successors) (uppers keys : List ℕ) (going : SuccessorsTo code (length code) goes) (upper : Uppers code uppers)
    (key : (o : ℕ) → Start code o → get_or keys o 0 ≡ key_of (keyed code) o) (s : List ℕ) (is : (k : ℕ) → k < length code → at code k ≡ instruction_at s k) where
  -- each row is the code's
  pub row_is : (o : ℕ) → Start code o → row_in s goes uppers keys o ≡ row code (keyed code) o
  unfolding row_from next_keys_in row
  row_is o b =
      ap₂ (λ (u : ℕ) (xs : List ℕ). o ∷ u ∷ xs) (upper.each o b.inside)
      (ap₂ (λ (k : ℕ) (xs : List ℕ). k ∷ get_or xs 0 0 ∷ get_or xs 1 0 ∷ 0 ∷ []) (key o b) next)
    where
      next : next_keys_in s goes keys (get_or uppers o 0) ≡ cond (is_exit (at code (upper_of code o))) (1 ∷ []) (next_keys code o)
      next =
          ap₂ (λ (e : Bool) (ks : List ℕ). cond e (1 ∷ []) ks)
          (ap is_exit (ap (instruction_at s) (upper.each o b.inside) ∙ sym (is (upper_of code o) (upper_lt code o b.inside))))
          (arrays_are code sound goes uppers keys going upper key o b)

  -- and so the rows of its lowers are its flow table
  pub cut_rows : (ls : List ℕ) → ls ≡ lowers code → gather (row_in s goes uppers keys) ls ≡ flow_table code
  unfolding flow_table
  cut_rows ls lows =
      ap (gather (row_in s goes uppers keys)) lows
      ∙ gather_agree (row_in s goes uppers keys) (row code (keyed code)) (lowers code) (λ o i. row_is o (in_lowers code o i))

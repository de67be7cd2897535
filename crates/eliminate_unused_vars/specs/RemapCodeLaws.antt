-- A list in its places, and code, under the new numbers: what is written step by step. Assumes nothing.
use Rattle.std.specs.Prelude.{◌≡◌, refl, ℕ, ◌+◌, ◌-◌, ◌*◌, ◌≤◌, ◌<◌, get_or, set, length, take, drop, replicate, List, [], ◌∷◌, ◌++◌, map}
use Rattle.std.proofs.Common.{sym, ap, ◌∙◌, add-one, arith, length-take-le, take-suc, take_all}
use Rattle.std.proofs.lemmas.List.{length-map, length-replicate}
use Rattle.base.specs.Sizes.{list_places, record_bytes}
use Rattle.base.specs.WriteLaws.{wrote, wrote_more, wrote_all}
use Rattle.stackless_bytecode.specs.declared.Bytecode.{Bytecode}
use Rattle.stackless_bytecode.specs.Kinds.{nop, at}
use Rattle.sheet.specs.Layout.{code_of, encode, padded}
use Rattle.sheet.specs.CheckLaws.{code_length}
use Rattle.sheet_writer.specs.Written.{placed}
use Rattle.sheet_writer.specs.RecordsLaws.{placed_more, placed_one}
use Rattle.stackless_control_flow_graph.specs.AlikeLaws.{at_alike}
use Rattle.eliminate_unused_vars.specs.Remap.{new_number, remap}
use Rattle.eliminate_unused_vars.specs.Renumber.{staying_in, renumbered_code}
use Rattle.livevar_analysis.specs.BlockRuleLaws.{get_d_map_lt}
use Rattle.eliminate_unused_vars.specs.RemapLaws.{keeps_flow, padded_is, new_length}

-- ---- a list in its places

-- the first i of a list have their numbers, and zeros stand behind them
abbrev pub renamed : List ℕ → List ℕ → ℕ → List ℕ
renamed stay xs i = wrote (replicate list_places 0) (map (new_number stay) xs) i

module _ (stay xs : List ℕ) (few : length xs ≤ list_places) where
  pub renamed_more : (i x : ℕ) → i < length xs → x ≡ new_number stay (get_or xs i 0) → set (renamed stay xs i) i x ≡ renamed stay xs (i + 1)
  renamed_more i x h e =
      ap (λ (y : ℕ). set (renamed stay xs i) i y) (e ∙ sym (get_d_map_lt (new_number stay) xs i 0 0 h))
      ∙ wrote_more (replicate list_places 0) (map (new_number stay) xs) i (omega (arith, few, length-replicate {A = ℕ} list_places 0)) (omega (arith, length-map xs (new_number stay)))

  pub renamed_all : (i : ℕ) → i ≡ length xs → renamed stay xs i ≡ padded (map (new_number stay) xs)
  renamed_all i e =
      let ys = map (new_number stay) xs in
      let size : length ys ≡ length xs = length-map xs (new_number stay) in
      wrote_all (replicate list_places 0) ys i (omega (arith, size)) ∙ ap (λ (k : ℕ). ys ++ drop k (replicate list_places 0)) size ∙ sym (padded_is (length xs) ys few size)

-- ---- code

-- the next record behind the first k
record_next : (code : List Bytecode) (k : ℕ) (d out new : List ℕ) → k < length code → new ≡ encode (at code k) → out ≡ placed (take k code) d
    → take (record_bytes * k) out ++ (new ++ drop (record_bytes * k + record_bytes - record_bytes * k) (drop (record_bytes * k) out)) ≡ placed (take (k + 1) code) d
record_next code k d out new h e is =
    let span : record_bytes * k + record_bytes - record_bytes * k ≡ record_bytes = omega arith in
    let more : take k code ++ (at code k ∷ []) ≡ take (k + 1) code = sym (ap (λ (j : ℕ). take j code) (add-one k) ∙ take-suc code k nop h) in
    ap (λ (y : ℕ). take (record_bytes * k) out ++ (new ++ drop y (drop (record_bytes * k) out))) span
    ∙ ap (λ (z : List ℕ). take (record_bytes * k) out ++ z) (placed_one (at code k) (drop (record_bytes * k) out) new e)
    ∙ ap (λ (y : List ℕ). take (record_bytes * k) y ++ placed (at code k ∷ []) (drop (record_bytes * k) y)) is
    ∙ placed_more (take k code) (at code k ∷ []) d (record_bytes * k) (ap (λ (y : ℕ). record_bytes * y) (sym (length-take-le k code (omega arith))))
    ∙ ap (λ (y : List Bytecode). placed y d) more

-- the next instruction of a sheet is written
pub renumbered_next : (s : List ℕ) (k : ℕ) (r : Bytecode) (d new : List ℕ) → k < length (code_of s) → r ≡ at (code_of s) k → new ≡ encode (remap (staying_in s) r)
    → take (record_bytes * k) (placed (take k (renumbered_code s)) d) ++ (new ++ drop (record_bytes * k + record_bytes - record_bytes * k) (drop (record_bytes * k) (placed (take k (renumbered_code s)) d)))
    ≡ placed (take (k + 1) (renumbered_code s)) d
renumbered_next s k r d new h er en =
    record_next (renumbered_code s) k d _ new (omega (arith, new_length s, code_length s)) (en ∙ ap (λ (x : Bytecode). encode (remap (staying_in s) x)) er ∙ ap encode (sym (at_alike (keeps_flow (staying_in s)) (code_of s) k))) refl

pub renumbered_all : (s : List ℕ) (k : ℕ) (d : List ℕ) → length (code_of s) ≤ k → placed (take k (renumbered_code s)) d ≡ placed (renumbered_code s) d
renumbered_all s k d h = ap (λ (l : List Bytecode). placed l d) (take_all k (renumbered_code s) (omega (arith, new_length s, code_length s)))

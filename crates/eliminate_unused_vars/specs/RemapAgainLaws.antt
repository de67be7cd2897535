-- Renumbering what has new numbers: an instruction and a set are as they were. Assumes nothing.
use Rattle.std.specs.Prelude.{◌≡◌, refl, Bool, cond, ◌&&◌, ℕ, ◌^◌, ◌<◌, get_or, length, List, map}
use Rattle.std.proofs.Common.{sym, ap, ap₂, ◌∙◌, zero-add, arith, lt-ltb, le-ltb}
use mathlib.Core.List.{Memᴰ}
use Rattle.base.specs.Lists.{tab}
use Rattle.base.specs.ListLaws.{by_test, in_map, get_d_tab, length_tab}
use Rattle.base.specs.JoinLaws.{by_lt}
use Rattle.dataflow_domains.specs.Mask.{holds}
use Rattle.dataflow_domains.specs.MaskLaws.{bit_above}
use Rattle.dataflow_domains.specs.HoldsLaws.{false_holds, same_holds}
use Rattle.stackless_bytecode.specs.declared.Bytecode.{Bytecode}
use Rattle.stackless_bytecode.specs.Kinds.{dsts_of, srcs_of, is_flagged}
use Rattle.sheet.specs.Layout.{padded}
use Rattle.eliminate_unused_vars.specs.Remap.{new_number, remap, remap_set}
use Rattle.eliminate_unused_vars.specs.MoreListLaws.{map_own}
use Rattle.eliminate_unused_vars.specs.StayingLaws.{number_lt}
use Rattle.eliminate_unused_vars.specs.StayingOrderLaws.{tab_number}
use Rattle.eliminate_unused_vars.specs.RemapSetLaws.{remap_at}
use Rattle.eliminate_unused_vars.specs.Remaps.{Remaps}
use Rattle.eliminate_unused_vars.specs.RemapLaws.{dst_stays, src_stays, abort_stays, new_dsts, new_srcs}

-- ---- an instruction

module _ (stay : List ℕ) (r : Bytecode) (ok : Remaps stay r) where
  -- the numbers that are in use then
  abbrev later : List ℕ
  later = tab (length stay) 0 (λ i. i)

  own : (x : ℕ) → Memᴰ x stay → new_number later (new_number stay x) ≡ new_number stay x
  own x i = tab_number (length stay) (new_number stay x) (number_lt stay x i)

  list_own : (xs ys : List ℕ) → ys ≡ map (new_number stay) xs → ((x : ℕ) → Memᴰ x xs → Memᴰ x stay) → padded (map (new_number later) ys) ≡ padded (map (new_number stay) xs)
  list_own xs ys e h =
      ap padded (ap (map (new_number later)) e
      ∙ map_own (new_number later) (map (new_number stay) xs) (λ y i. let p = in_map (new_number stay) xs y i in ap (new_number later) p.2 ∙ own p.0 (h p.0 p.1) ∙ sym p.2))

  abort_own : cond (is_flagged r) (new_number later (cond (is_flagged r) (new_number stay r.abort) r.abort)) (cond (is_flagged r) (new_number stay r.abort) r.abort) ≡ cond (is_flagged r) (new_number stay r.abort) r.abort
  abort_own =
      by_test (λ b. cond b (new_number later (cond b (new_number stay r.abort) r.abort)) (cond b (new_number stay r.abort) r.abort) ≡ cond b (new_number stay r.abort) r.abort) (is_flagged r)
      (λ f. own r.abort (abort_stays stay r ok f)) (λ f. refl)

  pub remap_again : remap (tab (length stay) 0 (λ i. i)) (remap stay r) ≡ remap stay r
  unfolding remap is_flagged
  remap_again = λ i. record {
    kind = r.kind;
    sub = r.sub;
    attr = r.attr;
    one = r.one;
    two = r.two;
    ndst = r.ndst;
    nsrc = r.nsrc;
    flag = r.flag;
    abort = abort_own i;
    dsts = list_own (dsts_of r) (dsts_of (remap stay r)) (new_dsts stay r ok) (dst_stays stay r ok) i;
    srcs = list_own (srcs_of r) (srcs_of (remap stay r)) (new_srcs stay r ok) (src_stays stay r ok) i;
    payload = r.payload;
  }

-- ---- a set

pub set_again : (n m : ℕ) → m < 2 ^ n → remap_set (tab n 0 (λ i. i)) m ≡ m
set_again n m narrow =
    let xs = tab n 0 (λ (i : ℕ). i) in
    let size = length_tab n 0 (λ (i : ℕ). i) in
    same_holds (remap_set xs m) m
    (λ i. remap_at xs m i
    ∙ by_lt i n (λ h. ap₂ (λ (a b : Bool). a && b) (lt-ltb i (length xs) (omega arith)) (ap (holds m) (get_d_tab n 0 i (λ i. i) 0 h ∙ zero-add i)))
    (λ h. ap (λ (a : Bool). a && holds m (get_or xs i 0)) (le-ltb i (length xs) (omega arith)) ∙ sym (false_holds m i (bit_above m i n narrow h))))

-- An instruction under the new numbers: where it goes, its lists, what it mentions; and the code of an accepted sheet. Assumes nothing.
use Rattle.std.specs.Prelude.{◌≡◌, refl, Bool, true, ℕ, ◌+◌, ◌-◌, ◌≤◌, ◌<◌, drop, cond, List, [], ◌∷◌, ◌++◌, map, take, get_or, length, replicate}
use Rattle.std.proofs.Common.{sym, ap, ap₂, ◌∙◌, subst, ⊎_elim, take_at, drop_at, get_or-take, get_or-drop, ext_get_or, arith, length-take, length-drop, length-take-le}
use mathlib.Core.List.Memᴰ
use mathlib.Core.List.{Memᴰ}
use Rattle.std.proofs.lemmas.List.{length-map, length-replicate}
use Rattle.std.proofs.Math.Seq.{take-append-add}
use Rattle.base.specs.Sizes.{list_places, record_bytes}
use Rattle.base.specs.Lists.{zeros}
use Rattle.base.specs.Refusals.{Accepted}
use Rattle.base.specs.ListLaws.{gather_in, by_test, get_d_in, in_get_d, copies_at}
use Rattle.base.specs.GrowLaws.{map_append}
use Rattle.base.specs.PartLaws.{zeros_replicate, zeros_drop}
use Rattle.stackless_bytecode.specs.declared.Bytecode.{Bytecode}
use Rattle.stackless_bytecode.specs.Kinds.{nop, at, dsts_of, srcs_of, is_exit, is_flagged, stop_ok, is_branch, falls_through, branch_dests, label_of}
use Rattle.sheet.specs.Layout.{count_of, user_locals_of, record_start, record_at, decode, instruction_at, code_of, padded}
use Rattle.sheet.specs.Checks.{check_sheet}
use Rattle.sheet.specs.CheckLaws.{code_length}
use Rattle.stackless_control_flow_graph.specs.AlikeLaws.{KeepsFlow}
use Rattle.livevar_analysis.specs.InputLaws.{code_at, in_range, record_inside}
use Rattle.eliminate_unused_vars.specs.Remaps.{Remaps}
use Rattle.eliminate_unused_vars.specs.Remap.{abort_of, mentions, new_number, remap}
use Rattle.eliminate_unused_vars.specs.Renumber.{hides_local, staying_in, renumbered_code}
use Rattle.eliminate_unused_vars.specs.StayingLaws.{mentioned_stays}

-- ---- what does not hang on its locals

-- where it goes
pub keeps_flow : (stay : List ℕ) → KeepsFlow (remap stay)
unfolding remap dsts_of srcs_of padded is_exit is_flagged stop_ok is_branch falls_through branch_dests label_of
keeps_flow stay = record { past = refl; dests = λ r. refl; stop = λ r. refl; falls = λ r. refl; label = λ r. refl; ends = λ r. refl }

pub same_hides : (stay : List ℕ) (r : Bytecode) → hides_local (remap stay r) ≡ hides_local r
unfolding hides_local remap
same_hides stay r = refl

-- ---- a list of n in its places

zeros_behind : (n : ℕ) → n ≤ list_places → take {A = ℕ} (list_places - n) (replicate list_places 0) ≡ drop n (replicate list_places 0)
zeros_behind n few =
    let long = length-replicate {A = ℕ} list_places 0 in
    ext_get_or 0 _ _ (length-take (list_places - n) (replicate list_places 0) ∙ (omega (arith, long, length-drop n (replicate {A = ℕ} list_places 0))))
    (λ i h. get_or-take (list_places - n) (replicate list_places 0) i 0 (omega (arith, length-take (list_places - n) (replicate {A = ℕ} list_places 0))) ∙ copies_at list_places i 0
    ∙ sym (get_or-drop n (replicate list_places 0) i 0 ∙ copies_at list_places (n + i) 0))

module _ (n : ℕ) (xs : List ℕ) (few : n ≤ list_places) (size : length xs ≡ n) where
  pub padded_is : padded xs ≡ xs ++ drop n (replicate list_places 0)
  unfolding padded
  padded_is =
      let whole : list_places ≡ length xs + (list_places - n) = omega arith in
      ap (λ (k : ℕ). take k (xs ++ replicate list_places 0)) whole ∙ take-append-add xs (replicate list_places 0) (list_places - n) ∙ ap (λ (l : List ℕ). xs ++ l) (zeros_behind n few)

  padded_front : take n (padded xs) ≡ xs
  padded_front = ap (take n) padded_is ∙ take_at xs (drop n (replicate list_places 0)) n size

  pub padded_past : zeros (drop n (padded xs)) ≡ true
  padded_past =
      ap (λ (l : List ℕ). zeros (drop n l)) padded_is ∙ ap zeros (drop_at xs (drop n (replicate list_places 0)) n size) ∙ zeros_drop n (replicate list_places 0) (zeros_replicate list_places)

-- ---- an instruction

module _ (stay : List ℕ) (r : Bytecode) (ok : Remaps stay r) where
  -- its locals stay
  pub dst_stays : (x : ℕ) → Memᴰ x (dsts_of r) → Memᴰ x stay
  unfolding mentions
  dst_stays x i = ok.stays x (Memᴰ.append_left (abort_of r) (Memᴰ.append_left (srcs_of r) i))

  pub src_stays : (x : ℕ) → Memᴰ x (srcs_of r) → Memᴰ x stay
  unfolding mentions
  src_stays x i = ok.stays x (Memᴰ.append_left (abort_of r) (Memᴰ.append_right (dsts_of r) i))

  pub abort_stays : is_flagged r ≡ true → Memᴰ r.abort stay
  unfolding mentions
  abort_stays e = ok.stays r.abort (Memᴰ.append_right (dsts_of r ++ srcs_of r) (subst (λ (b : Bool). Memᴰ r.abort (cond b (r.abort ∷ []) [])) (sym e) (Memᴰ.head refl)))

  -- so do the places that are listed
  pub dsts_stay : (i : ℕ) → i < length (take r.ndst r.dsts) → Memᴰ (get_or (take r.ndst r.dsts) i 0) stay
  dsts_stay i h = dst_stays (get_or (take r.ndst r.dsts) i 0) (unfold dsts_of in get_d_in (take r.ndst r.dsts) i 0 h)

  pub srcs_stay : (i : ℕ) → i < length (take r.nsrc r.srcs) → Memᴰ (get_or (take r.nsrc r.srcs) i 0) stay
  srcs_stay i h = src_stays (get_or (take r.nsrc r.srcs) i 0) (unfold srcs_of in get_d_in (take r.nsrc r.srcs) i 0 h)

  -- how many its lists have
  pub dsts_size : (g : ℕ → ℕ) → length (map g (dsts_of r)) ≡ r.ndst
  unfolding dsts_of
  dsts_size g = length-map (dsts_of r) g ∙ length-take-le r.ndst r.dsts (omega (arith, ok.dsts_few, ok.dsts_long))

  pub srcs_size : (g : ℕ → ℕ) → length (map g (srcs_of r)) ≡ r.nsrc
  unfolding srcs_of
  srcs_size g = length-map (srcs_of r) g ∙ length-take-le r.nsrc r.srcs (omega (arith, ok.srcs_few, ok.srcs_long))

  -- it mentions the new numbers of what it mentioned
  pub new_dsts : dsts_of (remap stay r) ≡ map (new_number stay) (dsts_of r)
  unfolding dsts_of remap
  new_dsts = padded_front r.ndst _ ok.dsts_few (dsts_size (new_number stay))

  pub new_srcs : srcs_of (remap stay r) ≡ map (new_number stay) (srcs_of r)
  unfolding srcs_of remap
  new_srcs = padded_front r.nsrc _ ok.srcs_few (srcs_size (new_number stay))

  new_abort : abort_of (remap stay r) ≡ map (new_number stay) (abort_of r)
  unfolding is_flagged remap
  new_abort =
      by_test (λ b. cond b (cond b (new_number stay r.abort) r.abort ∷ []) [] ≡ map (new_number stay) (cond b (r.abort ∷ []) [])) (is_flagged r)
      (λ e. refl) (λ e. refl)

  pub new_mentions : mentions (remap stay r) ≡ map (new_number stay) (mentions r)
  unfolding mentions
  new_mentions =
      ap₂ (λ (x y : List ℕ). x ++ y) (ap₂ (λ (x y : List ℕ). x ++ y) new_dsts new_srcs ∙ sym (map_append (new_number stay) (dsts_of r) (srcs_of r))) new_abort
      ∙ sym (map_append (new_number stay) (dsts_of r ++ srcs_of r) (abort_of r))

-- ---- the code of a sheet

pub new_length : (s : List ℕ) → length (renumbered_code s) ≡ count_of s
new_length s = length-map (code_of s) (remap (staying_in s)) ∙ code_length s

module _ (s : List ℕ) (e : check_sheet s ≡ Accepted) where
  -- the lists of an instruction have all their places
  lists_long : (k : ℕ) → k < count_of s → (length (instruction_at s k).dsts ≡ list_places) × (length (instruction_at s k).srcs ≡ list_places)
  unfolding instruction_at decode
  lists_long k h =
      let p = record_at s k in
      let long : length p ≡ record_bytes = length-take record_bytes (drop (record_start k) s) ∙ (omega (arith, length-drop (record_start k) s, (record_inside s e k h).0)) in
      (length-take list_places (drop 12 p) ∙ (omega (arith, length-drop 12 p, long)), length-take list_places (drop (12 + list_places) p) ∙ (omega (arith, length-drop (12 + list_places) p, long)))

  pub at_remaps : (k : ℕ) → k < count_of s → Remaps (staying_in s) (instruction_at s k)
  at_remaps k h =
      let range = in_range s e k h in
      let long = lists_long k h in
      let here = subst (λ (r : Bytecode). Memᴰ r (code_of s)) (code_at s e k h) (get_d_in (code_of s) k nop (omega (arith, code_length s))) in
      record {
        stays = λ x i. mentioned_stays (user_locals_of s) (code_of s) x (gather_in mentions (code_of s) here i);
        dsts_long = long.0;
        srcs_long = long.1;
        dsts_few = range.dsts.few;
        srcs_few = range.srcs.few;
        first = ⊎_elim range.assign range.load;
      }

  pub remaps_at : (k : ℕ) → k < length (code_of s) → Remaps (staying_in s) (at (code_of s) k)
  remaps_at k h = let low : k < count_of s = omega (arith, code_length s) in rw (code_at s e k low) (at_remaps k low)

  pub code_remaps : (r : Bytecode) → Memᴰ r (code_of s) → Remaps (staying_in s) r
  code_remaps r i =
      let p = in_get_d (code_of s) r nop i in
      let h : p.0 < count_of s = omega (arith, p.1, code_length s) in
      subst (Remaps (staying_in s)) (sym (code_at s e p.0 h) ∙ p.2) (at_remaps p.0 h)

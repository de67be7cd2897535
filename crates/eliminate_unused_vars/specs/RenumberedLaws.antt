-- The new sheet is what `Renumbered` says. Assumes nothing.
use Rattle.base.specs.declared.Refusal.TheVariants.{LocalHidden}
use Rattle.std.specs.Prelude.{◌≡◌, ◌⊎◌, not, ℕ, ◌≤◌, ◌<◌, length, get_or, List, ◌++◌, map, None}
use Rattle.std.proofs.Common.{sym, ap₂, ◌∙◌, subst, ⊎_elim, inl, inr, arith, ap}
use mathlib.Core.List.{Memᴰ}
use Rattle.base.specs.Sizes.{set_bytes, max_locals}
use Rattle.base.specs.Bytes.{Bytes, bytes_of}
use Rattle.base.specs.Lists.{tab, gather, first_bad}
use Rattle.base.specs.ListLaws.{in_gather, in_get_d, get_d_in, map_in, in_map, length_tab}
use Rattle.base.specs.GrowLaws.{below_few}
use Rattle.base.specs.SearchLaws.{all_none, none_all}
use Rattle.base.specs.Refusals.{Accepted, Done}
use Rattle.base.specs.RefusalLaws.{accepted_none, lends_enough}
use Rattle.base.specs.ReplyLaws.{call_goes, reply_done}
use Rattle.stackless_bytecode.specs.declared.Bytecode.{Bytecode}
use Rattle.stackless_bytecode.specs.Kinds.{nop, at}
use Rattle.sheet.specs.Layout.{count_of, locals_of, user_locals_of, refs_of, code_of, sheet_of}
use Rattle.sheet.specs.Checks.{check_sheet}
use Rattle.sheet.specs.AcceptLaws.{HeadingLayout}
use Rattle.sheet_writer.specs.BodyLaws.{Body, heading, accepted_body}
use Rattle.stackless_control_flow_graph.specs.AlikeLaws.{at_alike}
use Rattle.eliminate_unused_vars.specs.Remap.{mentions, staying, new_number, remap, remap_set}
use Rattle.eliminate_unused_vars.specs.Renumber.{hides_local, staying_in, renumbered_code, renumbered_rest, renumbered_sheet, renumber_reply}
use Rattle.eliminate_unused_vars.specs.Renumbered.{Mentioned, Renumbered}
use Rattle.eliminate_unused_vars.specs.MoreListLaws.{gather_map, map_own}
use Rattle.eliminate_unused_vars.specs.StayingLaws.{stay_once, mentioned_stays, in_staying, number_at, numbers_apart}
use Rattle.eliminate_unused_vars.specs.StayingOrderLaws.{users_fit, own_number, staying_again}
use Rattle.eliminate_unused_vars.specs.RemapSetLaws.{remap_narrow}
use Rattle.eliminate_unused_vars.specs.RemapLaws.{keeps_flow, same_hides, new_mentions, new_length, code_remaps}
use Rattle.eliminate_unused_vars.specs.RemapChecksLaws.{mentions_lt, new_body}
use Rattle.eliminate_unused_vars.specs.RemapAgainLaws.{remap_again, set_again}
use Rattle.eliminate_unused_vars.specs.RemapLiveLaws.{RemappedLive, live_remapped}
use Rattle.eliminate_unused_vars.specs.RenumberedHeadingLaws.{SheetWith, sheet_with_lem}

module _ (s : List ℕ) (bytes : Bytes s) (e : check_sheet s ≡ Accepted) where
  abbrev stay : List ℕ
  stay = staying_in s

  abbrev sheet : List ℕ
  sheet = renumbered_sheet s

  old : HeadingLayout s
  old = heading s bytes e

  body : Body (locals_of s) (code_of s)
  body = accepted_body s bytes e

  -- ---- what stays

  stay_low : (x : ℕ) → Memᴰ x stay → x < locals_of s
  stay_low x i =
      ⊎_elim (λ u. omega (arith, old.users))
      (λ g. let p = in_gather mentions (code_of s) x g in
      let k = in_get_d (code_of s) p.0 nop p.1 in
      mentions_lt (locals_of s) (at (code_of s) k.0) (body.locals k.0 k.1) x (subst (λ (r : Bytecode). Memᴰ x (mentions r)) (sym k.2) p.2))
      (in_staying (user_locals_of s) (code_of s) x i)

  stay_few : length stay ≤ max_locals
  stay_few = omega (arith, below_few (locals_of s) (stay_once (user_locals_of s) (code_of s)) stay_low, old.locals)

  -- ---- the sheet

  body_again : Body (length stay) (renumbered_code s)
  body_again = new_body (locals_of s) stay (code_of s) (code_remaps s e) stay_few body

  abbrev refs : ℕ
  refs = remap_set stay (refs_of s)

  new : SheetWith s (length stay) refs (renumbered_code s) sheet
  unfolding renumbered_rest
  new = sheet_with_lem s old (length stay) refs (renumbered_code s) stay_few (users_fit (user_locals_of s) (code_of s)) (remap_narrow stay (refs_of s)) body_again bytes

  count_is : count_of sheet ≡ count_of s
  count_is = new.count ∙ new_length s

  -- ---- its locals

  gather_is : gather mentions (renumbered_code s) ≡ map (new_number stay) (gather mentions (code_of s))
  gather_is = gather_map mentions (remap stay) (new_number stay) (code_of s) (λ r i. new_mentions stay r (code_remaps s e r i))

  only_is : (i : ℕ) → i < locals_of sheet → (i < user_locals_of sheet) ⊎ Mentioned sheet i
  only_is i h =
      let within : i < length stay = omega (arith, new.locals) in
      let x = get_or stay i 0 in
      let is : new_number stay x ≡ i = number_at i (stay_once (user_locals_of s) (code_of s)) within in
      ⊎_elim (λ u. inl (let own : new_number stay x ≡ x = own_number (user_locals_of s) (code_of s) x u in omega (arith, new.users)))
      (λ g. inr (subst (λ (c : List Bytecode). Memᴰ i (gather mentions c)) (sym new.code)
      (subst (λ (l : List ℕ). Memᴰ i l) (sym gather_is) (subst (λ (y : ℕ). Memᴰ y (map (new_number stay) (gather mentions (code_of s)))) is (map_in (new_number stay) (gather mentions (code_of s)) g)))))
      (in_staying (user_locals_of s) (code_of s) x (get_d_in stay i 0 within))

  -- ---- renumbered again

  stay_again : staying_in sheet ≡ tab (length stay) 0 (λ i. i)
  stay_again = ap₂ staying new.users new.code ∙ staying_again (user_locals_of s) (code_of s) (renumbered_code s) gather_is

  code_again : renumbered_code sheet ≡ renumbered_code s
  code_again =
      ap₂ (λ (l : List ℕ) (c : List Bytecode). map (remap l) c) stay_again new.code
      ∙ map_own (remap (tab (length stay) 0 (λ i. i))) (renumbered_code s)
      (λ q i. let p = in_map (remap stay) (code_of s) q i in ap (remap (tab (length stay) 0 (λ i. i))) p.2 ∙ remap_again stay p.0 (code_remaps s e p.0 p.1) ∙ sym p.2)

  locals_again : length (staying_in sheet) ≡ length stay
  locals_again = ap length stay_again ∙ length_tab (length stay) 0 (λ (i : ℕ). i)

  refs_again : remap_set (staying_in sheet) (refs_of sheet) ≡ refs
  refs_again = ap₂ remap_set stay_again new.refs ∙ set_again (length stay) refs (remap_narrow stay (refs_of s))

  rest_again : renumbered_rest sheet ≡ renumbered_rest s
  unfolding renumbered_rest
  rest_again = λ i.
      bytes_of 2 (locals_again i) ++ new.mid i ++ bytes_of set_bytes (refs_again i) ++ new.end i

  module _ (clean : first_bad (count_of s) 0 (λ k. not (hides_local (at (code_of s) k))) ≡ None) where
    clean_again : first_bad (count_of sheet) 0 (λ k. not (hides_local (at (code_of sheet) k))) ≡ None
    clean_again =
        all_none (count_of sheet) 0 (λ k. not (hides_local (at (code_of sheet) k)))
        (λ j l h. let low : j < count_of s = omega (arith, count_is) in
        ap not (ap (λ (c : List Bytecode). hides_local (at c j)) new.code ∙ ap hides_local (at_alike (keeps_flow stay) (code_of s) j) ∙ same_hides stay (at (code_of s) j))
        ∙ none_all (count_of s) 0 (λ k. not (hides_local (at (code_of s) k))) clean j l (omega arith))

    again_is : (lent : ℕ) → length sheet ≤ lent → renumber_reply sheet lent ≡ Done (length sheet) sheet
    unfolding renumber_reply
    again_is lent h =
        call_goes _ _ new.accepted ∙ call_goes _ _ (sym (accepted_none LocalHidden clean_again)) ∙ reply_done _ (lends_enough h)
        ∙ ap (λ (t : List ℕ). Done (length t) t) (ap₂ sheet_of rest_again code_again)

    -- the theorem
    pub sheet_renumbered : Renumbered s (renumbered_sheet s)
    sheet_renumbered = record {
      bytes = new.bytes;
      accepted = new.accepted;
      count = count_is;
      users = new.users;
      params = new.params;
      locals = new.locals;
      refs = new.refs;
      code = new.code;
      apart = λ x y i j q. numbers_apart stay x y (mentioned_stays (user_locals_of s) (code_of s) x i) (mentioned_stays (user_locals_of s) (code_of s) y j) q;
      own = λ i h. own_number (user_locals_of s) (code_of s) i h;
      only = only_is;
      again = again_is;
      live = same.live;
      before = same.before;
      after = same.after;
      taken = same.taken;
    }
      where
        same : RemappedLive s (renumbered_sheet s)
        same = live_remapped s (renumbered_sheet s) e new.accepted new.code

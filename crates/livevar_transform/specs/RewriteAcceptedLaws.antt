-- A rewritten sheet is accepted again: the new code meets checks 4 to 8. Assumes nothing.
use Rattle.base.specs.declared.Refusal.TheVariants.{CodeTooLong, NumberTooHigh}
use Rattle.std.specs.Prelude.{◌≡◌, Bool, true, not, ◌||◌, ◌&&◌, ℕ, suc, ◌+◌, ◌-◌, ◌*◌, ◌/◌, ◌%◌, ◌^◌, ◌≤◌, ◌<◌, eqb, leb, ltb, get_or, take, drop, refl, cond, List, [], ◌∷◌, ◌++◌, length, Ok, Err}
use Rattle.std.proofs.Common.{sym, subst, ap, ◌∙◌, ⊎_elim, arith, lt-ltb, eqb-true, leb-true}
use mathlib.Core.List.Memᴰ
use mathlib.Core.List.{Memᴰ}
use Rattle.stackless_bytecode.specs.declared.Bytecode.{Bytecode}
use Rattle.base.specs.Sizes.{block_bytes, max_locals, max_number, max_instructions}
use Rattle.base.specs.Refusals.{Accepted, Verdict, Reply, Done, reply}
use Rattle.base.specs.RefusalLaws.{passed, passed_whole}
use Rattle.base.specs.Lists.{all, zeros}
use Rattle.sheet.specs.Layout.{heading_rest, locals_of, refs_of, code_of, padded}
use Rattle.stackless_bytecode.specs.Kinds.{Call, Branch, Jump, Label, Destroy, dsts_of, srcs_of, nop, at, is_flagged}
use Rattle.livevar_analysis.specs.Analysis.{LiveVarInfo}
use Rattle.sheet.specs.declared.Shape.{Shape}
use Rattle.sheet.specs.Checks.{shapes, no_shape, fits, record_ok, locals_ok, check_sheet}
use Rattle.sheet.specs.ValidLaws.{accepted_valid}
use Rattle.livevar_transform.specs.Rewrite.{made, aimed, into, block_size, target_of, lost_refs, is_losing, label_for, attr_for, goes_to, stands_for, added_code, transform_code, sheet_info, new_code, new_sheet, numbers_fit, rewrite_reply}
use Rattle.livevar_transform.specs.RewriteAccepted.{AcceptedRewriting}
use Rattle.base.specs.ListLaws.{or-true, by_test, get_d_in, in_get_d, and-true}
use Rattle.base.specs.JoinLaws.{by_lt, total_le, count_lt}
use Rattle.livevar_transform.specs.PieceLaws.{Part, Merged, is_merged_lem, merged_inside, size_is, size_some}
use Rattle.livevar_transform.specs.PlaceLaws.{Where, where_is, new_length, new_kept, added_part, pos_inside, by_stands, losing_some, some_losing, losing_branch, in_lost, added_length}
use Rattle.livevar_transform.specs.SoundLaws.{last_kept, new_sound, new_unique}
use Rattle.dataflow_domains.specs.MaskLaws.{bit_above}
use Rattle.sheet.specs.AcceptedLaws.{is_fits, fits_is, assign_fits, local_lt}
use Rattle.base.specs.Bytes.{Bytes}
use Rattle.sheet_writer.specs.BodyLaws.{accepted_body, small_by, by_small, heading, Body}
use Rattle.sheet_writer.specs.EncodeLaws.{Small, Encodes, padded_size, small_nil, small_cons, small_take, small_drop, small_padded, sheet_small}
use Rattle.sheet.specs.AcceptLaws.{and_both, all_by}
use Rattle.sheet_writer.specs.AgainLaws.{same_locals, same_users, same_params, same_refs, same_code, accepted_again}

-- ---- the table of kinds, taken apart

-- another list of destinations, zero past the count too
into_fits : (f : Shape) (r : Bytecode) (ds : List ℕ) → fits f r ≡ true → zeros (drop r.ndst ds) ≡ true → fits f (into r ds) ≡ true
into_fits f r ds e z =
    let o = is_fits f r e in
    fits_is f (into r ds) (record { sub = o.sub; dlow = o.dlow; dhigh = o.dhigh; slow = o.slow; shigh = o.shigh; one = o.one; two = o.two; flag = o.flag; abort = o.abort; dsts = z; srcs = o.srcs; payload = o.payload })

-- a Branch's labels are free
aimed_fits : (r : Bytecode) (x y : ℕ) → r.kind ≡ Branch → record_ok (aimed r x y) ≡ record_ok r
unfolding record_ok fits
aimed_fits r x y e = rw e

head_fits : (a l : ℕ) → record_ok (made Label 0 a l []) ≡ true
unfolding record_ok fits padded
head_fits a l = refl

destroy_fits : (a x : ℕ) → record_ok (made Call Destroy a 0 (x ∷ [])) ≡ true
unfolding record_ok fits padded
destroy_fits a x = refl

last_fits : (a t : ℕ) → record_ok (made Jump 0 a t []) ≡ true
unfolding record_ok fits padded
last_fits a t = refl

made_encodes : (kind sub a l : ℕ) (xs : List ℕ) → kind < 256 → sub < 256 → length xs < 256 → a ≤ max_number → l ≤ max_number → Small xs → Encodes (made kind sub a l xs)
made_encodes kind sub a l xs hk hs hl ha hone small = record {
  kind = hk;
  sub = hs;
  ndst = omega arith;
  nsrc = hl;
  flag = omega arith;
  abort = omega arith;
  dsts_small = small_padded [] small_nil;
  srcs_small = small_padded xs small;
  attr = ha;
  one = hone;
  two = omega arith;
  payload = omega arith;
  dsts = padded_size [];
  srcs = padded_size xs;
}

head_locals : (n a l : ℕ) → locals_ok n (made Label 0 a l []) ≡ true
unfolding locals_ok dsts_of srcs_of is_flagged
head_locals n a l = refl

last_locals : (n a l : ℕ) → locals_ok n (made Jump 0 a l []) ≡ true
unfolding locals_ok dsts_of srcs_of is_flagged
last_locals n a l = refl

destroy_locals : (n a x : ℕ) → x < n → locals_ok n (made Call Destroy a 0 (x ∷ [])) ≡ true
unfolding locals_ok dsts_of srcs_of is_flagged padded
destroy_locals n a x h = ap (λ (b : Bool). b && true && true) (lt-ltb x n h)

-- another list of destinations that are below the count too
into_locals : (l : ℕ) (r : Bytecode) (ds : List ℕ) → locals_ok l r ≡ true → ((x : ℕ) → Memᴰ x (take r.ndst ds) → x < l) → locals_ok l (into r ds) ≡ true
unfolding locals_ok dsts_of srcs_of is_flagged
into_locals l r ds e h =
    and_both (all_by (λ x. ltb x l) (dsts_of (into r ds) ++ srcs_of (into r ds)) each)
    (and-true (all (λ x. ltb x l) (dsts_of r ++ srcs_of r)) (not (is_flagged r) || ltb r.abort l) e).1
  where
    each : (x : ℕ) → Memᴰ x (dsts_of (into r ds) ++ srcs_of (into r ds)) → ltb x l ≡ true
    each x i = lt-ltb x l (⊎_elim (λ a. h x a) (λ b. local_lt l r e x (Memᴰ.append_right (dsts_of r) b)) (Memᴰ.append_cases (dsts_of (into r ds)) i))

-- ---- the new code

-- the numbers of the new blocks fit, and so does the code
pub record NewCodeFits (code : List Bytecode) (info : List LiveVarInfo) (refs : ℕ) : Type 0 where
  pub labels : 0 < length (added_code code info refs) → label_for code info refs (2 * length code) ≤ suc max_number
  pub attrs : 0 < length (added_code code info refs) → attr_for code info refs (2 * length code) ≤ suc max_number
  pub few : length (transform_code code info refs) ≤ max_instructions

module _ (l refs : ℕ) (code : List Bytecode) (info : List LiveVarInfo) (body : Body l code) (narrow : refs < 2 ^ l) (few : l ≤ max_locals) (fit : NewCodeFits code info refs) where
  -- where an edge loses, there are blocks
  added_some : (e : ℕ) → e < 2 * length code → 0 < block_size (lost_refs code info refs e) → 0 < length (added_code code info refs)
  added_some e h w = omega (arith, added_length code info refs, total_le (2 * length code) e (λ j. block_size (lost_refs code info refs j)) h)

  label_fits : (e : ℕ) → e < 2 * length code → is_losing code info refs e ≡ true → label_for code info refs e ≤ max_number
  label_fits e h f =
      let s = losing_some code info refs e f in
      let top = fit.labels (added_some e h (omega (arith, size_is (lost_refs code info refs e) s))) in
      below top
    where
      below : label_for code info refs (2 * length code) ≤ suc max_number → label_for code info refs e ≤ max_number
      below top = unfold label_for in omega (arith, top, count_lt e (2 * length code) (is_losing code info refs) f h)

  attr_fits : (e j : ℕ) → e < 2 * length code → j < block_size (lost_refs code info refs e) → attr_for code info refs e + j ≤ max_number
  attr_fits e j h w = below (fit.attrs (added_some e h (omega arith)))
    where
      below : attr_for code info refs (2 * length code) ≤ suc max_number → attr_for code info refs e + j ≤ max_number
      below top = unfold attr_for in omega (arith, top, total_le (2 * length code) e (λ x. block_size (lost_refs code info refs x)) h)

  target_fits : (e : ℕ) → e < 2 * length code → target_of code e ≤ max_number
  unfolding target_of
  target_fits e h =
      by_test (λ b. cond b (at code (e / 2)).one (at code (e / 2)).two ≤ max_number) (eqb (e % 2) 0)
      (λ q. (body.encodes (e / 2) (omega arith)).one) (λ q. (body.encodes (e / 2) (omega arith)).two)

  goes_fits : (e : ℕ) → e < 2 * length code → goes_to code info refs e ≤ max_number
  unfolding goes_to
  goes_fits e h =
      by_test (λ b. is_losing code info refs e ≡ b → cond b (label_for code info refs e) (target_of code e) ≤ max_number) (is_losing code info refs e)
      (λ f q. label_fits e h f) (λ f q. target_fits e h) refl

  -- a good instruction: what checks 4 and 5 want, and what its bytes can hold
  record Good (r : Bytecode) : Type 0 where
    fits : record_ok r ≡ true
    encodes : Encodes r
    locals : locals_ok l r ≡ true

  stands_good : (k : ℕ) → k < length code → Good (stands_for code info refs k)
  stands_good k h =
      by_stands code info refs Good k
      (λ e. record { fits = aimed_fits (at code k) _ _ e ∙ body.fits k h; encodes = aimed_encodes; locals = aimed_locals })
      (λ e. merged (is_merged_lem code info k e))
      (λ e m. record { fits = body.fits k h; encodes = old; locals = body.locals k h })
    where
      old : Encodes (at code k)
      old = body.encodes k h

      aimed_encodes : Encodes (aimed (at code k) (goes_to code info refs (2 * k)) (goes_to code info refs (suc (2 * k))))
      aimed_encodes = record { kind = old.kind; sub = old.sub; ndst = old.ndst; nsrc = old.nsrc; flag = old.flag; abort = old.abort; dsts_small = old.dsts_small; srcs_small = old.srcs_small; attr = old.attr; one = goes_fits (2 * k) (omega arith); two = goes_fits (suc (2 * k)) (omega arith); payload = old.payload; dsts = old.dsts; srcs = old.srcs }

      aimed_locals : locals_ok l (aimed (at code k) (goes_to code info refs (2 * k)) (goes_to code info refs (suc (2 * k)))) ≡ true
      aimed_locals = unfold locals_ok dsts_of srcs_of is_flagged in body.locals k h

      merged : Merged code info k → Good (into (at code k) (at code (suc k)).dsts)
      merged m =
          let w = merged_inside code info k m in
          let a = assign_fits (at code (suc k)) (body.fits (suc k) w) m.assign in
          record {
            fits = call_fits (ap (λ (x : ℕ). zeros (drop x (at code (suc k)).dsts)) m.single ∙ a.2);
            encodes = record { kind = old.kind; sub = old.sub; ndst = old.ndst; nsrc = old.nsrc; flag = old.flag; abort = old.abort; dsts_small = (body.encodes (suc k) w).dsts_small; srcs_small = old.srcs_small; attr = old.attr; one = old.one; two = old.two; payload = old.payload; dsts = (body.encodes (suc k) w).dsts; srcs = old.srcs };
            locals = into_locals l (at code k) (at code (suc k)).dsts (body.locals k h) (λ x i. local_lt l (at code (suc k)) (body.locals (suc k) w) x (Memᴰ.append_left (srcs_of (at code (suc k))) (same_dst a.0 m.single x i)));
          }
        where
          call_fits : zeros (drop (at code k).ndst (at code (suc k)).dsts) ≡ true → record_ok (into (at code k) (at code (suc k)).dsts) ≡ true
          call_fits z = unfold record_ok in into_fits (get_or shapes (at code k).kind no_shape) (at code k) (at code (suc k)).dsts (body.fits k h) z

          same_dst : (at code (suc k)).ndst ≡ 1 → (at code k).ndst ≡ 1 → (x : ℕ) → Memᴰ x (take (at code k).ndst (at code (suc k)).dsts) → Memᴰ x (dsts_of (at code (suc k)))
          same_dst p q x i = unfold dsts_of in subst (λ (n : ℕ). Memᴰ x (take n (at code (suc k)).dsts)) (q ∙ sym p) i

  part_good : (e j : ℕ) (r : Bytecode) → e < 2 * length code → j < block_size (lost_refs code info refs e)
      → Part (attr_for code info refs e) (label_for code info refs e) (target_of code e) (lost_refs code info refs e) j r → Good r
  part_good e j r h w (Part.head z q) =
      subst Good (sym q) (record { fits = head_fits _ _; encodes = made_encodes 6 0 _ _ [] (omega arith) (omega arith) (omega arith) (omega (arith, attr_fits e 0 h (omega arith))) (label_fits e h (some_losing code info refs e (size_some (lost_refs code info refs e) (omega arith)))) small_nil; locals = head_locals l _ _ })
  part_good e j r h w (Part.destroy k g z q) =
      subst Good (sym q) (record { fits = destroy_fits _ _; encodes = made_encodes 1 13 _ 0 (get_or (lost_refs code info refs e) k 0 ∷ []) (omega arith) (omega arith) (omega arith) (omega (arith, attr_fits e j h w)) (omega arith) (small_cons (omega (arith, ref, few)) small_nil); locals = destroy_locals l _ _ ref })
    where
      lost : Memᴰ (get_or (lost_refs code info refs e) k 0) (lost_refs code info refs e)
      lost = get_d_in (lost_refs code info refs e) k 0 g

      ref : get_or (lost_refs code info refs e) k 0 < l
      ref =
          by_lt (get_or (lost_refs code info refs e) k 0) l (λ b. b)
          (λ b. absurd (omega (arith, bit_above refs (get_or (lost_refs code info refs e) k 0) l narrow b, (in_lost code info refs e (get_or (lost_refs code info refs e) k 0) (losing_branch code info refs e (omega arith)) lost).in_refs)))
  part_good e j r h w (Part.last z q) =
      subst Good (sym q) (record { fits = last_fits _ _; encodes = made_encodes 5 0 _ _ [] (omega arith) (omega arith) (omega arith) (omega (arith, attr_fits e j h w)) (target_fits e h) small_nil; locals = last_locals l _ _ })

  new_good : (p : ℕ) → p < length (transform_code code info refs) → Good (at (transform_code code info refs) p)
  new_good p h = go (where_is code info refs p (omega (arith, new_length code info refs)))
    where
      go : Where code info refs p → Good (at (transform_code code info refs) p)
      go (Where.kept k b e s) = subst Good (sym (ap (at (transform_code code info refs)) s ∙ new_kept code info refs k b e)) (stands_good k b)
      go (Where.added e j b w s) = subst Good (sym (ap (at (transform_code code info refs)) s)) (part_good e j _ b w (added_part code info refs e j b w))

  pub new_body : Body l (transform_code code info refs)
  new_body = record {
    some = omega (arith, pos_inside code info refs (length code - 1) (omega (arith, body.some)) (last_kept code info refs body.sound body.unique));
    few = fit.few;
    fits = λ k h. (new_good k h).fits;
    encodes = λ k h. (new_good k h).encodes;
    locals = λ k h. (new_good k h).locals;
    unique = new_unique code info refs body.sound body.unique;
    sound = new_sound code info refs body.sound body.unique;
  }

-- ---- the rewritten sheet

-- no refusal where something is done
done_accepted : (v : Verdict) {d : Reply} {n : ℕ} {t : List ℕ} → reply v d ≡ Done n t → (v ≡ Accepted) × (d ≡ Done n t)
done_accepted (Ok tt) e = (refl, e)
done_accepted (Err f) e = absurd (let z : ◌≡◌ {A = ℕ} 0 1 = cc in omega arith)

-- a sheet that is rewritten is accepted, there is room for its new code, and it is given that code under the old heading
record RewritingOf (s t : List ℕ) : Type 0 where
  accepted : check_sheet s ≡ Accepted
  fit : NewCodeFits (code_of s) (sheet_info s) (refs_of s)
  is : new_sheet s ≡ t

numbers_low : (code : List Bytecode) (info : List LiveVarInfo) (refs : ℕ) → numbers_fit code info refs ≡ true → 0 < length (added_code code info refs)
    → (label_for code info refs (2 * length code) ≤ suc max_number) × (attr_for code info refs (2 * length code) ≤ suc max_number)
unfolding numbers_fit
numbers_low code info refs q h =
    let l = label_for code info refs (2 * length code) in
    let a = attr_for code info refs (2 * length code) in
    ⊎_elim (λ z. absurd (let e : length (added_code code info refs) ≡ 0 = eqb-true _ 0 z in omega arith))
    (λ z. let r = and-true (leb l (suc max_number)) (leb a (suc max_number)) z in (leb-true l _ r.0, leb-true a _ r.1))
    (or-true (eqb (length (added_code code info refs)) 0) (leb l (suc max_number) && leb a (suc max_number)) q)

abbrev written_of : Reply → List ℕ
written_of (Ok d) = d.written
written_of (Err e) = []

same_written : {a b : ℕ} {xs ys : List ℕ} → ◌≡◌ {A = Reply} (Done a xs) (Done b ys) → xs ≡ ys
same_written e = ap written_of e

rewriting_of : (s t : List ℕ) (lent n : ℕ) → rewrite_reply s lent ≡ Done n t → RewritingOf s t
unfolding rewrite_reply
rewriting_of s t lent n e =
    let d = done_accepted _ e in
    let c8 = passed (check_sheet s) _ d.0 in
    let c9 = passed _ _ c8.next in
    let c10 = passed _ _ c9.next in
    let low = numbers_low (code_of s) (sheet_info s) (refs_of s) (passed_whole NumberTooHigh _ c10.first) in
    record {
      accepted = c8.first;
      fit = record { labels = λ h. (low h).0; attrs = λ h. (low h).1; few = leb-true _ max_instructions (passed_whole CodeTooLong _ c10.next) };
      is = same_written d.1;
    }

pub rewritten_accepted : (s t : List ℕ) (lent n : ℕ) → Bytes s → rewrite_reply s lent ≡ Done n t → AcceptedRewriting s t
rewritten_accepted s t lent n bytes r =
    let g = rewriting_of s t lent n r in
    let e = g.accepted in
    let old = heading s bytes e in
    let b = new_body (locals_of s) (refs_of s) (code_of s) (sheet_info s) (accepted_body s bytes e) old.refs old.locals g.fit in
    let again : check_sheet (new_sheet s) ≡ Accepted = accepted_again s old (new_code s) b in
    subst (AcceptedRewriting s) g.is (record {
      bytes = by_small _ (sheet_small (heading_rest s) (new_code s) (small_take (block_bytes - 6) (drop 6 s) (small_drop 6 s (small_by s (λ i h. bytes.each i)))) (λ r i. let p = in_get_d (new_code s) r nop i in subst Encodes p.2 (b.encodes p.0 p.1)));
      accepted = again;
      code = same_code s old (new_code s) b;
      some = omega (arith, (accepted_valid _ again).count, (accepted_valid _ again).some);
      locals = same_locals s old (new_code s) b;
      users = same_users s old (new_code s) b;
      params = same_params s old (new_code s) b;
      refs = same_refs s old (new_code s) b;
    })

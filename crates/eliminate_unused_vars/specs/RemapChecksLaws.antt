-- Checks 4 to 8 accept code under the new numbers as they accepted it before. Assumes nothing.
use Rattle.std.specs.Prelude.{◌≡◌, refl, Bool, true, false, cond, not, ◌||◌, ◌&&◌, ℕ, ◌-◌, ◌≤◌, ◌<◌, eqb, length, List, [], ◌∷◌, ◌++◌, map, ltb}
use Rattle.std.proofs.Common.{sym, ap, ◌∙◌, subst, ⊎_elim, arith, lt-ltb, ltb-true}
use mathlib.Core.List.Memᴰ
use mathlib.Core.List.{Memᴰ}
use Rattle.std.proofs.lemmas.List.{length-map}
use Rattle.base.specs.Sizes.{max_locals}
use Rattle.base.specs.Lists.{all}
use Rattle.base.specs.ListLaws.{by_test, and-true, or_not, in_map, get_d_in}
use Rattle.stackless_bytecode.specs.declared.Bytecode.{Bytecode}
use Rattle.stackless_bytecode.specs.Kinds.{Call, nop, at, dsts_of, srcs_of, is_flagged, stop_ok, falls_through, branch_dests, label_of}
use Rattle.stackless_bytecode.specs.Labels.{label_offset}
use Rattle.stackless_bytecode.specs.LookupLaws.{label_defined}
use Rattle.sheet.specs.declared.Shape.{Shape}
use Rattle.sheet.specs.Layout.{padded}
use Rattle.sheet.specs.Checks.{shape_of, record_ok, locals_ok}
use Rattle.sheet.specs.AcceptLaws.{and_both, all_by}
use Rattle.sheet.specs.AcceptedLaws.{Fits, is_fits, fits_is, local_lt}
use Rattle.sheet_writer.specs.EncodeLaws.{Small, Encodes, padded_size, small_padded}
use Rattle.sheet_writer.specs.BodyLaws.{Body}
use Rattle.stackless_control_flow_graph.specs.AlikeLaws.{KeepsFlow, at_alike}
use Rattle.eliminate_unused_vars.specs.Remap.{mentions, new_number, remap}
use Rattle.eliminate_unused_vars.specs.StayingLaws.{number_lt}
use Rattle.eliminate_unused_vars.specs.Remaps.{Remaps}
use Rattle.eliminate_unused_vars.specs.RemapLaws.{keeps_flow, padded_past, dst_stays, src_stays, abort_stays, dsts_size, srcs_size, new_mentions}

-- ---- check 5: the locals that are mentioned are below the count

pub mentions_lt : (n : ℕ) (r : Bytecode) → locals_ok n r ≡ true → (x : ℕ) → Memᴰ x (mentions r) → x < n
unfolding mentions
mentions_lt n r e x i =
    ⊎_elim (λ l. local_lt n r e x l)
    (λ a. by_test (λ b. Memᴰ x (cond b (r.abort ∷ []) []) → x < n) (is_flagged r)
    (λ f m. subst (λ (y : ℕ). y < n) (sym (Memᴰ.eq_of_singleton m)) (ltb-true r.abort n (or_not (is_flagged r) (ltb r.abort n) second f)))
    (λ f m. absurd (Memᴰ.not-nil m)) a)
    (Memᴰ.append_cases (dsts_of r ++ srcs_of r) i)
  where
    second : not (is_flagged r) || ltb r.abort n ≡ true
    second = unfold locals_ok in (and-true (all (λ x. ltb x n) (dsts_of r ++ srcs_of r)) (not (is_flagged r) || ltb r.abort n) e).1

mentions_ok : (n : ℕ) (r : Bytecode) → ((x : ℕ) → Memᴰ x (mentions r) → x < n) → locals_ok n r ≡ true
unfolding locals_ok mentions
mentions_ok n r h =
    and_both (all_by (λ x. ltb x n) (dsts_of r ++ srcs_of r) (λ x i. lt-ltb x n (h x (Memᴰ.append_left _ i))))
    (by_test (λ b. ((x : ℕ) → Memᴰ x (cond b (r.abort ∷ []) []) → x < n) → not b || ltb r.abort n ≡ true) (is_flagged r)
    (λ f a. lt-ltb r.abort n (a r.abort (Memᴰ.head refl))) (λ f a. refl) (λ x i. h x (Memᴰ.append_right (dsts_of r ++ srcs_of r) i)))

-- ---- an instruction that keeps to the table

-- what is not flagged keeps its abort local, 0
abort_test : (call flag : Bool) (x y : ℕ) → flag || eqb y 0 ≡ true → flag || eqb (cond (call && flag) x y) 0 ≡ true
abort_test call true x y e = refl
abort_test true false x y e = e
abort_test false false x y e = e

module _ (stay : List ℕ) (r : Bytecode) (ok : Remaps stay r) where
  shape_fits : (f : Shape) → Fits f r → Fits f (remap stay r)
  unfolding remap is_flagged
  shape_fits f o = record {
    sub = o.sub;
    dlow = o.dlow;
    dhigh = o.dhigh;
    slow = o.slow;
    shigh = o.shigh;
    one = o.one;
    two = o.two;
    flag = o.flag;
    abort = abort_test (eqb r.kind Call) (eqb r.flag 1) (new_number stay r.abort) r.abort o.abort;
    dsts = padded_past r.ndst (map (new_number stay) (dsts_of r)) ok.dsts_few (dsts_size stay r ok (new_number stay));
    srcs = padded_past r.nsrc (map (new_number stay) (srcs_of r)) ok.srcs_few (srcs_size stay r ok (new_number stay));
    payload = o.payload;
  }

  -- check 4
  new_fits : record_ok r ≡ true → record_ok (remap stay r) ≡ true
  unfolding record_ok
  new_fits e = fits_is (shape_of (remap stay r).kind) (remap stay r) (unfold remap in shape_fits (shape_of r.kind) (is_fits (shape_of r.kind) r e))

  -- check 5
  new_locals : locals_ok (length stay) (remap stay r) ≡ true
  new_locals =
      mentions_ok (length stay) (remap stay r)
      (λ x i. let p = in_map (new_number stay) (mentions r) x (subst (λ (l : List ℕ). Memᴰ x l) (new_mentions stay r ok) i) in
      subst (λ (y : ℕ). y < length stay) (sym p.2) (number_lt stay p.0 (ok.stays p.0 p.1)))

  -- its bytes
  module _ (few : length stay ≤ max_locals) (enc : Encodes r) where
    small_list : (xs : List ℕ) → ((x : ℕ) → Memᴰ x xs → Memᴰ x stay) → Small (padded (map (new_number stay) xs))
    small_list xs h =
        small_padded (map (new_number stay) xs)
        (record { each = λ x i. let p = in_map (new_number stay) xs x i in omega (arith, p.2, number_lt stay p.0 (h p.0 p.1)) })

    small_abort : cond (is_flagged r) (new_number stay r.abort) r.abort < 256
    small_abort =
        by_test (λ b. cond b (new_number stay r.abort) r.abort < 256) (is_flagged r)
        (λ f. omega (arith, number_lt stay r.abort (abort_stays stay r ok f))) (λ f. enc.abort)

    new_encodes : Encodes (remap stay r)
    unfolding remap
    new_encodes = record {
      kind = enc.kind;
      sub = enc.sub;
      ndst = enc.ndst;
      nsrc = enc.nsrc;
      flag = enc.flag;
      abort = small_abort;
      dsts_small = small_list (dsts_of r) (dst_stays stay r ok);
      srcs_small = small_list (srcs_of r) (src_stays stay r ok);
      attr = enc.attr;
      one = enc.one;
      two = enc.two;
      payload = enc.payload;
      dsts = padded_size (map (new_number stay) (dsts_of r));
      srcs = padded_size (map (new_number stay) (srcs_of r));
    }

-- ---- code

pub new_body : (l : ℕ) (stay : List ℕ) (code : List Bytecode) → ((r : Bytecode) → Memᴰ r code → Remaps stay r) → length stay ≤ max_locals → Body l code → Body (length stay) (map (remap stay) code)
new_body l stay code ok few body = record {
  some = omega (arith, size, body.some);
  few = omega (arith, size, body.few);
  fits = λ k h. subst (λ (r : Bytecode). record_ok r ≡ true) (sym (is k)) (new_fits stay (at code k) (mine k h) (body.fits k (old k h)));
  encodes = λ k h. subst Encodes (sym (is k)) (new_encodes stay (at code k) (mine k h) few (body.encodes k (old k h)));
  locals = λ k h. subst (λ (r : Bytecode). locals_ok (length stay) r ≡ true) (sym (is k)) (new_locals stay (at code k) (mine k h));
  unique = record { one = λ o o' l h h' i i'. body.unique.one o o' l (old o h) (old o' h') (label o l i) (label o' l i') };
  sound = record {
    some = omega (arith, size, body.sound.some);
    stops = λ k h. ap stop_ok (is k) ∙ flow.stop (at code k) ∙ body.sound.stops k (old k h);
    named = λ k l h i. let d = body.sound.named k l (old k h) (subst (λ (xs : List ℕ). Memᴰ l xs) (ap branch_dests (is k) ∙ flow.dests (at code k)) i) in
        label_defined (map (remap stay) code) (label_offset code l) l (omega (arith, size, d.inside)) (subst (λ (xs : List ℕ). Memᴰ l xs) (sym (ap label_of (is (label_offset code l)) ∙ flow.label (at code (label_offset code l)))) d.label);
    closed = ap (λ (n : ℕ). falls_through (at (map (remap stay) code) (n - 1))) size ∙ ap falls_through (is (length code - 1)) ∙ flow.falls (at code (length code - 1)) ∙ body.sound.closed;
  };
}
  where
    flow : KeepsFlow (remap stay)
    flow = keeps_flow stay

    size : length (map (remap stay) code) ≡ length code
    size = length-map code (remap stay)

    old : (k : ℕ) → k < length (map (remap stay) code) → k < length code
    old k h = omega (arith, size)

    is : (k : ℕ) → at (map (remap stay) code) k ≡ remap stay (at code k)
    is = at_alike flow code

    mine : (k : ℕ) → k < length (map (remap stay) code) → Remaps stay (at code k)
    mine k h = ok (at code k) (get_d_in code k nop (old k h))

    label : (k l : ℕ) → Memᴰ l (label_of (at (map (remap stay) code) k)) → Memᴰ l (label_of (at code k))
    label k l i = subst (λ (xs : List ℕ). Memᴰ l xs) (ap label_of (is k) ∙ flow.label (at code k)) i

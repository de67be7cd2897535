-- The new code, record behind record: what is written so far, the block of an edge, the kept instructions and all blocks. Assumes nothing.
use Rattle.std.specs.Prelude.{◌≡◌, Bool, true, false, ℕ, suc, ◌+◌, ◌-◌, ◌*◌, ◌/◌, ◌%◌, ◌^◌, ◌≤◌, ◌<◌, get_or, refl, cond, List, [], ◌∷◌, ◌++◌, length, take, drop}
use Rattle.std.proofs.Common.{sym, ap, ap₂, ◌∙◌, subst, add-one, eq-eqb, ne_eqb, lt-ltb, length-drop, take-suc, take_all, length-take-le, arith, length-append}
use Rattle.std.specs.Int.Count.{ones}
use Rattle.base.specs.Sizes.{max_locals, record_bytes}
use Rattle.base.specs.Lists.{joins}
use Rattle.base.specs.WriteLaws.{drop_front}
use Rattle.dataflow_domains.specs.Mask.{minus}
use Rattle.dataflow_domains.specs.MaskLaws.{minus_lt, ones_bound}
use Rattle.dataflow_domains.specs.Members.{members, Lowest}
use Rattle.dataflow_domains.specs.MemberLaws.{walk_more, walk_end, walk_falls, members_length}
use Rattle.stackless_bytecode.specs.declared.Bytecode.{Bytecode}
use Rattle.stackless_bytecode.specs.Kinds.{Branch, Call, Label, Jump, Destroy, at, nop}
use Rattle.sheet.specs.Layout.{encode}
use Rattle.sheet_writer.specs.Written.{placed}
use Rattle.sheet_writer.specs.RecordsLaws.{placed_none, placed_more, placed_one, tail_put}
use Rattle.livevar_transform.specs.declared.plan.Fate.{Fate}
use Rattle.livevar_transform.specs.declared.plan.Next.{Next}
use Rattle.livevar_transform.specs.Rewrite.{made, aimed, into, destroys, destroy_block, target_of}
use Rattle.livevar_transform.specs.PieceLaws.{destroys_length, destroy_at}
use Rattle.livevar_transform.specs.Plan.{fate_at, goes, merges, past, numbers_at, goes_at, aimed_at, stands_at, kept_at, added_at, kept_by, added_by, code_by}
use Rattle.livevar_transform.specs.NumberLaws.{some_ones, none_lost, some_lost}

-- ---- the Destroys of a set: its members are taken out one by one, the least first

-- i of them are written, and m is left
pub record DestroysPut (refs : List ℕ) (first : ℕ) (d : List ℕ) (m i : ℕ) (out : List ℕ) : Type 0 where
  pub small : m < 2 ^ max_locals
  pub inside : i ≤ length refs
  pub rest : drop i refs ≡ members max_locals m
  pub is : out ≡ placed (take i (destroys first refs)) d

pub walk_none : (first m : ℕ) (d : List ℕ) → m < 2 ^ max_locals → DestroysPut (members max_locals m) first d m 0 d
walk_none first m d h = record { small = h; inside = omega arith; rest = refl; is = placed_none d }

module _ {refs : List ℕ} {first : ℕ} {d : List ℕ} {m i : ℕ} {out : List ℕ} (w : DestroysPut refs first d m i out) where
  pub walk_lt : (m ≡ 0 → ⊥) → i < length refs
  walk_lt f =
      let some : 0 < length (members max_locals m) = omega (arith, members_length max_locals m w.small, some_ones m f) in
      omega (arith, length-drop i refs, ap length w.rest, some)

  -- they are fewer than the set has elements, while one is left
  pub walk_place : {a x : ℕ} → Lowest m x → refs ≡ members max_locals a → a < 2 ^ max_locals → (i < ones a) × (ones a ≤ max_locals)
  walk_place {a} {x} low e small = (omega (arith, walk_lt (λ z. omega (arith, z, walk_falls m x low.has)), ap length e, members_length max_locals a small), ones_bound max_locals a small)

  taken_length : length (take i (destroys first refs)) ≡ i
  taken_length = length-take-le i (destroys first refs) (omega (arith, destroys_length first refs, w.inside))

  pub walk_next : (x m' : ℕ) (new : List ℕ) → Lowest m x → m' ≡ minus m (2 ^ x) → new ≡ encode (made Call Destroy (first + i) 0 (x ∷ []))
      → DestroysPut refs first d m' (i + 1) (take (record_bytes * i) out ++ (new ++ drop (record_bytes * i + record_bytes - record_bytes * i) (drop (record_bytes * i) out)))
  walk_next x m' new low em en =
      let span : record_bytes * i + record_bytes - record_bytes * i ≡ record_bytes = omega arith in
      let front = drop_front refs i x (members max_locals m') (w.rest ∙ walk_more max_locals m x low w.small ∙ ap (λ (y : ℕ). x ∷ members max_locals y) (sym em)) in
      let one : get_or (destroys first refs) i nop ≡ made Call Destroy (first + i) 0 (x ∷ []) = destroy_at first refs i front.inside ∙ ap (λ (y : ℕ). made Call Destroy (first + i) 0 (y ∷ [])) front.here in
      let more : take i (destroys first refs) ++ (get_or (destroys first refs) i nop ∷ []) ≡ take (i + 1) (destroys first refs) = sym (ap (λ (j : ℕ). take j (destroys first refs)) (add-one i) ∙ take-suc (destroys first refs) i nop (omega (arith, destroys_length first refs, front.inside))) in
      record {
        small = subst (λ (y : ℕ). y < 2 ^ max_locals) (sym em) (minus_lt max_locals m (2 ^ x) w.small);
        inside = omega (arith, front.inside);
        rest = front.rest;
        is = ap (λ (y : ℕ). take (record_bytes * i) out ++ (new ++ drop y (drop (record_bytes * i) out))) span
            ∙ ap₂ (λ (y z : List ℕ). take (record_bytes * i) y ++ z) w.is (placed_one (get_or (destroys first refs) i nop) (drop (record_bytes * i) out) new (en ∙ ap encode (sym one)) ∙ ap (λ (y : List ℕ). placed (get_or (destroys first refs) i nop ∷ []) (drop (record_bytes * i) y)) w.is)
            ∙ placed_more (take i (destroys first refs)) (get_or (destroys first refs) i nop ∷ []) d (record_bytes * i) (ap (λ (y : ℕ). record_bytes * y) (sym taken_length))
            ∙ ap (λ (y : List Bytecode). placed y d) more;
      }

  pub walk_done : m ≡ 0 → out ≡ placed (destroys first refs) d
  walk_done e =
      let none : length (drop i refs) ≡ 0 = ap length (w.rest ∙ ap (members max_locals) e ∙ walk_end max_locals 0) in
      w.is ∙ ap (λ (y : List Bytecode). placed y d) (take_all i (destroys first refs) (omega (arith, none, length-drop i refs, destroys_length first refs)))

-- ---- the block of an edge

block_is : (a l t : ℕ) (xs : List ℕ) → 0 < length xs → destroy_block a l t xs ≡ (made Label 0 a l [] ∷ []) ++ destroys (a + 1) xs ++ (made Jump 0 (a + 1 + length xs) t [] ∷ [])
unfolding destroy_block
block_is a l t [] h = absurd (omega arith)
block_is a l t (x ∷ xs) h = ap (λ (y : ℕ). made Label 0 a l [] ∷ (destroys y (x ∷ xs) ++ (made Jump 0 (y + length (x ∷ xs)) t [] ∷ []))) (sym (add-one a))

-- its three parts, one behind the other
module _ (a l t m c : ℕ) (d one two three x y : List ℕ) (some : m ≡ 0 → ⊥) (small : m < 2 ^ max_locals) (ec : c ≡ ones m) where
  xs : List ℕ
  xs = members max_locals m

  long : length xs ≡ c
  unfolding xs
  long = members_length max_locals m small ∙ sym ec

  front : List Bytecode
  front = (made Label 0 a l [] ∷ []) ++ destroys (a + 1) xs

  front_written : one ≡ encode (made Label 0 a l []) → x ≡ one ++ drop record_bytes d → two ≡ placed (destroys (a + 1) xs) (take (length x - record_bytes) (drop record_bytes x))
      → take record_bytes x ++ (two ++ drop (length x - record_bytes) (drop record_bytes x)) ≡ placed front d
  unfolding front
  front_written e1 ex e2 =
      tail_put (destroys (a + 1) xs) x two record_bytes e2
      ∙ ap (λ (z : List ℕ). take record_bytes z ++ placed (destroys (a + 1) xs) (drop record_bytes z)) (ex ∙ placed_one (made Label 0 a l []) d one e1)
      ∙ placed_more (made Label 0 a l [] ∷ []) (destroys (a + 1) xs) d record_bytes refl

  last_written : (p : ℕ) → three ≡ encode (made Jump 0 (a + 1 + c) t []) → y ≡ placed front d → p ≡ record_bytes * (1 + c)
      → take p y ++ (three ++ drop (p + record_bytes - p) (drop p y)) ≡ placed (destroy_block a l t xs) d
  unfolding front xs
  last_written p e3 ey ep =
      let span : p + record_bytes - p ≡ record_bytes = omega arith in
      ap (λ (z : ℕ). take p y ++ (three ++ drop z (drop p y))) span
      ∙ ap (λ (z : List ℕ). take p y ++ z) (placed_one (made Jump 0 (a + 1 + length (members max_locals m)) t []) (drop p y) three (e3 ∙ ap (λ (z : ℕ). encode (made Jump 0 (a + 1 + z) t [])) (sym long)))
      ∙ ap (λ (z : List ℕ). take p z ++ placed (made Jump 0 (a + 1 + length (members max_locals m)) t [] ∷ []) (drop p z)) ey
      ∙ placed_more front (made Jump 0 (a + 1 + length (members max_locals m)) t [] ∷ []) d p (ep ∙ (omega (arith, long, destroys_length (a + 1) (members max_locals m))))
      ∙ ap (λ (z : List Bytecode). placed z d) (sym (block_is a l t (members max_locals m) (omega (arith, long, ec, some_ones m some))))

  pub block_written : (p : ℕ) → one ≡ encode (made Label 0 a l []) → x ≡ one ++ drop record_bytes d
      → two ≡ placed (destroys (a + 1) (members max_locals m)) (take (length x - record_bytes) (drop record_bytes x))
      → y ≡ take record_bytes x ++ (two ++ drop (length x - record_bytes) (drop record_bytes x))
      → three ≡ encode (made Jump 0 (a + 1 + c) t []) → p ≡ record_bytes * (1 + c)
      → take p y ++ (three ++ drop (p + record_bytes - p) (drop p y)) ≡ placed (destroy_block a l t (members max_locals m)) d
  unfolding xs
  block_written p e1 ex e2 ey e3 ep = last_written p e3 (ey ∙ front_written e1 ex e2) ep

-- ---- where an edge goes

pub goes_old : (m old label : ℕ) → m ≡ 0 → old ≡ goes_at (members max_locals m) old label
goes_old m old label e = sym (ap (λ (xs : List ℕ). goes_at xs old label) (none_lost m e))

pub goes_new : (m old label : ℕ) → (m ≡ 0 → ⊥) → m < 2 ^ max_locals → label ≡ goes_at (members max_locals m) old label
goes_new m old label f h = sym (ap (λ (b : Bool). cond b label old) (lt-ltb 0 (length (members max_locals m)) (some_lost m f h)))

pub aimed_by : (lost : List ℕ) (k : ℕ) (x y : Next) (r : Bytecode) (a b one two : ℕ) → a ≡ get_or lost (2 * k) 0 → b ≡ get_or lost (2 * k + 1) 0 → one ≡ goes_at (members max_locals a) r.one x.label → y ≡ past x (members max_locals a)
    → two ≡ goes_at (members max_locals b) r.two y.label → aimed r one two ≡ aimed_at lost k x r
unfolding aimed_at
aimed_by lost k x y r a b one two ea eb eo ey et =
    ap₂ (aimed r) (eo ∙ ap (λ (m : ℕ). goes_at (members max_locals m) r.one x.label) ea)
    (et ∙ ap₂ (λ (m : ℕ) (z : Next). goes_at (members max_locals m) r.two z.label) eb (ey ∙ ap (λ (m : ℕ). past x (members max_locals m)) ea))

-- the label of edge e, in the instruction of its Branch
module _ (code : List Bytecode) (e : ℕ) (r : Bytecode) (is : r ≡ at code (e / 2)) where
  pub target_then : e % 2 ≡ 0 → r.one ≡ target_of code e
  unfolding target_of
  target_then z = sym (ap (λ (b : Bool). cond b (at code (e / 2)).one (at code (e / 2)).two) (eq-eqb (e % 2) 0 z) ∙ ap (λ (x : Bytecode). x.one) (sym is))

  pub target_else : (e % 2 ≡ 0 → ⊥) → r.two ≡ target_of code e
  unfolding target_of
  target_else z = sym (ap (λ (b : Bool). cond b (at code (e / 2)).one (at code (e / 2)).two) (ne_eqb (e % 2) 0 z) ∙ ap (λ (x : Bytecode). x.two) (sym is))

-- ---- what stands for an offset

module _ (code : List Bytecode) (fates : List Fate) (lost : List ℕ) (k : ℕ) (x : Next) (r : Bytecode) (is : r ≡ at code k) where
  pub stands_branch : r.kind ≡ Branch → aimed_at lost k x r ≡ stands_at code fates lost k x
  unfolding stands_at
  stands_branch q =
      ap (aimed_at lost k x) is ∙ sym (ap (λ (b : Bool). cond b (aimed_at lost k x (at code k)) (cond (merges (fate_at fates k)) (into (at code k) (at code (suc k)).dsts) (at code k))) (eq-eqb (at code k).kind Branch (ap (λ (y : Bytecode). y.kind) (sym is) ∙ q)))

  other : (r.kind ≡ Branch → ⊥) → stands_at code fates lost k x ≡ cond (merges (fate_at fates k)) (into (at code k) (at code (suc k)).dsts) (at code k)
  unfolding stands_at
  other q = ap (λ (b : Bool). cond b (aimed_at lost k x (at code k)) (cond (merges (fate_at fates k)) (into (at code k) (at code (suc k)).dsts) (at code k))) (ne_eqb (at code k).kind Branch (λ z. q (ap (λ (y : Bytecode). y.kind) is ∙ z)))

  pub stands_merged : (a : Bytecode) → merges (fate_at fates k) ≡ true → (r.kind ≡ Branch → ⊥) → a ≡ at code (k + 1) → into r a.dsts ≡ stands_at code fates lost k x
  stands_merged a m q g =
      ap₂ (λ (y z : Bytecode). into y z.dsts) is (g ∙ ap (at code) (add-one k)) ∙ sym (other q ∙ ap (λ (b : Bool). cond b (into (at code k) (at code (suc k)).dsts) (at code k)) m)

  pub stands_plain : merges (fate_at fates k) ≡ false → (r.kind ≡ Branch → ⊥) → r ≡ stands_at code fates lost k x
  stands_plain m q = is ∙ sym (other q ∙ ap (λ (b : Bool). cond b (into (at code k) (at code (suc k)).dsts) (at code k)) m)

-- ---- the kept instructions

module _ (code : List Bytecode) (fates : List Fate) (lost : List ℕ) (k : ℕ) (x : Next) where
  pub kept_out : goes (fate_at fates k) ≡ true → kept_at code fates lost k x ≡ []
  unfolding kept_at
  kept_out e = ap (λ (b : Bool). cond b [] (stands_at code fates lost k x ∷ [])) e

  pub kept_in : (r : Bytecode) → goes (fate_at fates k) ≡ false → r ≡ stands_at code fates lost k x → kept_at code fates lost k x ≡ r ∷ []
  unfolding kept_at
  kept_in r e q = ap₂ (λ (b : Bool) (y : Bytecode). cond b [] (y ∷ [])) e (sym q)

-- ---- the block of an edge by the table

module _ (code : List Bytecode) (lost : List ℕ) (e m : ℕ) (x : Next) (l : m ≡ get_or lost e 0) where
  pub block_on_lem : (t : ℕ) (d out : List ℕ) → t ≡ target_of code e → out ≡ placed (destroy_block x.attr x.label t (members max_locals m)) d → out ≡ placed (added_at code lost e x) d
  unfolding added_at
  block_on_lem t d out p q = q ∙ ap₂ (λ (y z : ℕ). placed (destroy_block x.attr x.label y (members max_locals z)) d) p l

  pub block_none : (d : List ℕ) → m ≡ 0 → d ≡ placed (added_at code lost e x) d
  unfolding added_at destroy_block
  block_none d q = placed_none d ∙ ap (λ (y : List ℕ). placed (destroy_block x.attr x.label (target_of code e) y) d) (sym (ap (members max_locals) (sym l) ∙ none_lost m q))

-- ---- all of them, and all blocks: piece k comes behind the pieces before it

pub joins_none : (f : ℕ → List Bytecode) → 0 ≡ length (joins 0 f)
unfolding joins
joins_none f = refl

pub pieces_none : (f : ℕ → List Bytecode) (d : List ℕ) → d ≡ placed (joins 0 f) d
unfolding joins
pieces_none f d = placed_none d

pub pieces_more : (f : ℕ → List Bytecode) (k a : ℕ) (d out new : List ℕ) → out ≡ placed (joins k f) d → a ≡ record_bytes * length (joins k f) → new ≡ placed (f k) (take (length out - a) (drop a out))
    → take a out ++ (new ++ drop (length out - a) (drop a out)) ≡ placed (joins (k + 1) f) d
pieces_more f k a d out new e q w =
    tail_put (f k) out new a w
    ∙ ap (λ (x : List ℕ). take a x ++ placed (f k) (drop a x)) e ∙ placed_more (joins k f) (f k) d a q ∙ ap (λ (x : List Bytecode). placed x d) (sym (next_joins f k))
  where
    next_joins : (f : ℕ → List Bytecode) (k : ℕ) → joins (k + 1) f ≡ joins k f ++ f k
    next_joins f k = ap (λ (j : ℕ). joins j f) (add-one k) ∙ (unfold joins in refl)

pub pieces_length : (f : ℕ → List Bytecode) (k m c : ℕ) → m ≡ length (joins k f) → c ≡ length (f k) → m + c ≡ length (joins (k + 1) f)
pieces_length f k m c e q =
    ap₂ ◌+◌ e q ∙ sym (ap (λ (j : ℕ). length (joins j f)) (add-one k) ∙ (unfold joins in length-append (joins k f) (f k)))

pub pieces_end : (f : ℕ → List Bytecode) (k n m : ℕ) (d out : List ℕ) → k ≡ n → m ≡ length (joins k f) → out ≡ placed (joins k f) d → (m ≡ length (joins n f)) × (out ≡ placed (joins n f) d)
pieces_end f k n m d out e p q = (p ∙ ap (λ (x : ℕ). length (joins x f)) e, q ∙ ap (λ (x : ℕ). placed (joins x f) d) e)

-- one kept instruction more, and one block more, by the numbers x that have come
pub kept_pieces : (code : List Bytecode) (fates : List Fate) (lost : List ℕ) (first x : Next) (k a : ℕ) (d out new : List ℕ) → x ≡ numbers_at first lost (2 * k) → out ≡ placed (joins k (kept_by code fates lost first)) d
    → a ≡ record_bytes * length (joins k (kept_by code fates lost first)) → new ≡ placed (kept_at code fates lost k x) (take (length out - a) (drop a out))
    → take a out ++ (new ++ drop (length out - a) (drop a out)) ≡ placed (joins (k + 1) (kept_by code fates lost first)) d
kept_pieces code fates lost first x k a d out new ex e q w =
    pieces_more (kept_by code fates lost first) k a d out new e q (w ∙ ap (λ (y : Next). placed (kept_at code fates lost k y) (take (length out - a) (drop a out))) ex)

pub kept_long : (code : List Bytecode) (fates : List Fate) (lost : List ℕ) (first x : Next) (k m c : ℕ) → x ≡ numbers_at first lost (2 * k) → m ≡ length (joins k (kept_by code fates lost first)) → c ≡ length (kept_at code fates lost k x)
    → m + c ≡ length (joins (k + 1) (kept_by code fates lost first))
kept_long code fates lost first x k m c ex e q = pieces_length (kept_by code fates lost first) k m c e (q ∙ ap (λ (y : Next). length (kept_at code fates lost k y)) ex)

pub added_pieces : (code : List Bytecode) (lost : List ℕ) (first x : Next) (e a : ℕ) (d out new : List ℕ) → x ≡ numbers_at first lost e → out ≡ placed (joins e (added_by code lost first)) d
    → a ≡ record_bytes * length (joins e (added_by code lost first)) → new ≡ placed (added_at code lost e x) (take (length out - a) (drop a out))
    → take a out ++ (new ++ drop (length out - a) (drop a out)) ≡ placed (joins (e + 1) (added_by code lost first)) d
added_pieces code lost first x e a d out new ex i q w =
    pieces_more (added_by code lost first) e a d out new i q (w ∙ ap (λ (y : Next). placed (added_at code lost e y) (take (length out - a) (drop a out))) ex)

-- the kept instructions, and all blocks behind them
pub all_written : (code : List Bytecode) (fates : List Fate) (lost : List ℕ) (n : ℕ) (first : Next) (a : ℕ) (d out new : List ℕ) → out ≡ placed (joins n (kept_by code fates lost first)) d
    → a ≡ record_bytes * length (joins n (kept_by code fates lost first)) → new ≡ placed (joins (2 * n) (added_by code lost first)) (take (length out - a) (drop a out))
    → take a out ++ (new ++ drop (length out - a) (drop a out)) ≡ placed (code_by code fates lost n first) d
all_written code fates lost n first a d out new p q w =
    tail_put (joins (2 * n) (added_by code lost first)) out new a w
    ∙ ap (λ (x : List ℕ). take a x ++ placed (joins (2 * n) (added_by code lost first)) (drop a x)) p
    ∙ placed_more (joins n (kept_by code fates lost first)) (joins (2 * n) (added_by code lost first)) d a q

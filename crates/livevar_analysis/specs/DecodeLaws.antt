-- A decoded rule does what the live rule of its instruction says, and so does each rule in the slice. Assumes nothing.
use Rattle.std.specs.Prelude.{◌≡◌, refl, ◌⊎◌, Bool, true, cond, List, [], ◌∷◌, ◌++◌, ℕ, ◌+◌, ◌^◌, ◌≤◌, ◌<◌, get_or, set, length, take, false, eqb}
use Rattle.std.proofs.Common.{sym, ap, ◌∙◌, not-suc-le-zero, add-one, arith, get_or-set_same, get_or-set_other, get_or-take, length-take, take-suc, ⊎_elim, eq-eqb, ne_eqb}
use Rattle.base.specs.Sizes.{max_locals}
use Rattle.base.specs.ListLaws.{by_test, by_eq}
use Rattle.dataflow_domains.specs.Mask.{bit, holds, union, minus, set_of}
use Rattle.dataflow_domains.specs.MaskLaws.{ext, bit_union, bit_minus, bit_empty, bit_self, bit_other, bit_lt, minus_none}
use Rattle.dataflow_domains.specs.Sets.{mask}
use Rattle.dataflow_domains.specs.HoldsLaws.{holds_true, holds_false}
use Rattle.stackless_bytecode.specs.declared.Bytecode.{Bytecode}
use Rattle.stackless_bytecode.specs.Kinds.{Assign, Call, Ret, Load, Branch, Abort, Prop, at, dsts_of, srcs_of, is_flagged}
use Rattle.livevar_analysis.specs.Live.{assigned, called, execute}
use Rattle.livevar_analysis.specs.RuleLaws.{assign_rule, load_rule}
use Rattle.livevar_analysis.specs.Rules.{ListedLocals, applied, no_rule, rule_by, rule_at, Ruled, RulePut}
use Rattle.livevar_analysis.specs.declared.rules.Rule.{Rule}

-- ---- the set of a list, one place after the other

union_assoc : (a b c : ℕ) → union a (union b c) ≡ union (union a b) c
union_assoc a b c =
    ext _ _ (λ i. omega (arith, bit_union a (union b c) i, bit_union b c i, bit_union (union a b) c i, bit_union a b i))

pub set_of_end : (xs : List ℕ) (x : ℕ) → set_of (xs ++ (x ∷ [])) ≡ union (set_of xs) (2 ^ x)
unfolding set_of
set_of_end [] x = ext _ _ (λ i. omega (arith, bit_union (2 ^ x) 0 i, bit_union 0 (2 ^ x) i))
set_of_end (y ∷ xs) x = ap (union (2 ^ y)) (set_of_end xs x) ∙ union_assoc (2 ^ y) (set_of xs) (2 ^ x)

pub set_of_more : (xs : List ℕ) (i m : ℕ) → i < length xs → m ≡ set_of (take i xs) → union m (2 ^ get_or xs i 0) ≡ set_of (take (i + 1) xs)
set_of_more xs i m h e =
    ap (λ (s : ℕ). union s (2 ^ get_or xs i 0)) e ∙ sym (set_of_end (take i xs) (get_or xs i 0))
    ∙ ap set_of (sym (take-suc xs i 0 h)) ∙ ap (λ (n : ℕ). set_of (take n xs)) (sym (add-one i))

-- ---- by kind

-- the source comes in only where the destination was live
applied_assign : (d ss m : ℕ) → applied true (2 ^ d) ss m ≡ assigned d ss m
unfolding applied assigned
applied_assign d ss m =
    by_test (λ b. holds m d ≡ b → cond (eqb (minus m (2 ^ d)) m) m (union ss (minus m (2 ^ d))) ≡ cond b (union ss (minus m (2 ^ d))) m) (holds m d)
    (λ t q. ap (λ (b : Bool). cond b m (union ss (minus m (2 ^ d)))) (ne_eqb (minus m (2 ^ d)) m (λ e. omega (arith, ap (λ (x : ℕ). bit x d) e, bit_minus m (2 ^ d) d, bit_self d, holds_true m d t))))
    (λ t q. ap (λ (b : Bool). cond b m (union ss (minus m (2 ^ d)))) (eq-eqb (minus m (2 ^ d)) m (kept (holds_false m d t)))) refl
  where
    kept : bit m d ≡ 0 → minus m (2 ^ d) ≡ m
    kept z =
        ext _ _ (λ i. by_eq i d (λ e. omega (arith, ap (bit (minus m (2 ^ d))) e, ap (bit m) e, bit_minus m (2 ^ d) d)) (λ g. omega (arith, bit_minus m (2 ^ d) i, bit_other d i (λ e. g (sym e)))))

minus_union : (a b c : ℕ) → minus (union a b) c ≡ union (minus a c) (minus b c)
minus_union a b c =
    ext _ _ (λ i. omega (arith, bit_minus (union a b) c i, bit_union a b i, bit_union (minus a c) (minus b c) i, bit_minus a c i, bit_minus b c i))

minus_minus : (a b c : ℕ) → minus (minus a b) c ≡ minus a (union b c)
minus_minus a b c =
    ext _ _ (λ i. omega (arith, bit_minus (minus a b) c i, bit_minus a b i, bit_minus a (union b c) i, bit_union b c i, bit_lt a i))

-- what goes out last never comes in
applied_call : (ds ss gone m : ℕ) → applied false (union ds gone) (minus ss gone) m ≡ called ds ss gone m
unfolding applied called
applied_call ds ss gone m = sym (minus_union ss (minus m ds) gone ∙ ap (union (minus ss gone)) (minus_minus m ds gone))

applied_load : (kills m : ℕ) → applied false kills 0 m ≡ minus m kills
unfolding applied
applied_load kills m = ext _ _ (λ i. omega (arith, bit_union 0 (minus m kills) i, bit_empty i))

applied_sources : (ss m : ℕ) → applied false 0 ss m ≡ union ss m
unfolding applied
applied_sources ss m = ap (union ss) (minus_none m)

-- ---- each arm

-- the locals of a list that is in range
pub listed : {n : ℕ} {list xs : List ℕ} → ListedLocals n list → xs ≡ take n list → (i : ℕ) → i < length xs → get_or xs i 0 < max_locals
listed {n} {list} h e i l =
    let inside : i < n = omega (arith, ap length e, length-take n list) in
    omega (arith, ap (λ (xs : List ℕ). get_or xs i 0) e, get_or-take n list i 0 inside, h.each i inside)

-- the abort local is asked for only of a flagged Call
pub flag_asked : (r : Bytecode) → r.kind ≡ Call → r.flag ≡ 1 → is_flagged r ≡ true
unfolding is_flagged
flag_asked r k f = rw (k, f)

flag_is : (r : Bytecode) → r.kind ≡ Call → is_flagged r ≡ eqb r.flag 1
unfolding is_flagged
flag_is r k = rw k

module _ (r : Bytecode) (kills gens m : ℕ) where
  pub decoded_assign : r.kind ≡ Assign → kills ≡ 2 ^ get_or r.dsts 0 0 → gens ≡ set_of (srcs_of r) → applied true kills gens m ≡ execute r m
  unfolding srcs_of
  decoded_assign k e f = rw (e, f) (applied_assign (get_or r.dsts 0 0) (set_of (srcs_of r)) m ∙ sym (assign_rule r m k))

  pub decoded_load : r.kind ≡ Load → kills ≡ 2 ^ get_or r.dsts 0 0 → gens ≡ 0 → applied false kills gens m ≡ execute r m
  decoded_load k e f = rw (e, f) (applied_load (2 ^ get_or r.dsts 0 0) m ∙ sym (load_rule r m k))

  call_is : r.kind ≡ Call → execute r m ≡ called (set_of (take r.ndst r.dsts)) (set_of (take r.nsrc r.srcs)) (cond (eqb r.flag 1) (2 ^ r.abort) 0) m
  unfolding execute dsts_of srcs_of
  call_is k = rw k

  pub decoded_call : r.kind ≡ Call → (ds ss gone : ℕ) → ds ≡ set_of (dsts_of r) → ss ≡ set_of (srcs_of r) → gone ≡ cond (is_flagged r) (2 ^ r.abort) 0
      → kills ≡ union ds gone → gens ≡ minus ss gone → applied false kills gens m ≡ execute r m
  unfolding dsts_of srcs_of
  decoded_call k ds ss gone p q g e f = rw (e, f) (applied_call ds ss gone m ∙ rw (p, q, g, flag_is r k) (sym (call_is k)))

  -- Ret, Branch, Abort, Prop
  sources_is : (r.kind ≡ Ret) ⊎ ((r.kind ≡ Branch) ⊎ ((r.kind ≡ Abort) ⊎ (r.kind ≡ Prop))) → execute r m ≡ union (set_of (take r.nsrc r.srcs)) m
  unfolding execute srcs_of
  sources_is k = ⊎_elim (λ e. rw e) (⊎_elim (λ e. rw e) (⊎_elim (λ e. rw e) (λ e. rw e))) k

  pub decoded_sources : (r.kind ≡ Ret) ⊎ ((r.kind ≡ Branch) ⊎ ((r.kind ≡ Abort) ⊎ (r.kind ≡ Prop))) → kills ≡ 0 → gens ≡ set_of (srcs_of r)
      → applied false kills gens m ≡ execute r m
  unfolding srcs_of
  decoded_sources k e f = rw (e, f) (applied_sources (set_of (take r.nsrc r.srcs)) m ∙ sym (sources_is k))

  -- no kind that the rules name
  pub none_is : (r.kind ≡ Assign → ⊥) → (r.kind ≡ Call → ⊥) → (r.kind ≡ Ret → ⊥) → (r.kind ≡ Load → ⊥) → (r.kind ≡ Branch → ⊥) → (r.kind ≡ Abort → ⊥) → (r.kind ≡ Prop → ⊥) → execute r m ≡ m
  unfolding execute
  none_is a b c d e f g = rw (ne_eqb _ 0 a, ne_eqb _ 1 b, ne_eqb _ 3 d, ne_eqb _ 2 c, ne_eqb _ 4 e, ne_eqb _ 7 f, ne_eqb _ 11 g)

-- nothing goes out, nothing comes in
pub applied_none : (kills gens m : ℕ) → kills ≡ 0 → gens ≡ 0 → applied false kills gens m ≡ m
applied_none kills gens m e f = rw (e, f) (applied_load 0 m ∙ minus_none m)

-- ---- the loop: the rules of the first n instructions are in the slice

pub record RuledTo (code : List Bytecode) (n : ℕ) (rules : List Rule) : Type 0 where
  pub each : (k m : ℕ) → k < n → rule_at rules k m ≡ execute (at code k) m

pub ruled_none : (code : List Bytecode) (rules : List Rule) → RuledTo code 0 rules
ruled_none code rules = record { each = λ k m h. absurd (not-suc-le-zero h) }

pub ruled_all : (code : List Bytecode) (n : ℕ) (rules : List Rule) → length code ≤ n → RuledTo code n rules → Ruled code rules
ruled_all code n rules l r = record { each = λ k m h. r.each k m (omega arith) }

-- a rule is stored: it stands there, and those before it are as they were
pub rule_put : (rules : List Rule) (k : ℕ) (rule : Rule) → k < length rules → RulePut rules k (mask rule.kills) (mask rule.gens) rule.assign (set rules k rule)
rule_put rules k rule inside =
    let here : get_or (set rules k rule) k no_rule ≡ rule = get_or-set_same rules k rule no_rule inside in
    record {
      killed = ap (λ (r : Rule). mask r.kills) here;
      genned = ap (λ (r : Rule). mask r.gens) here;
      flagged = ap (λ (r : Rule). r.assign) here;
      others = λ i h. get_or-set_other rules k i rule no_rule (λ e. omega arith);
    }

-- one rule more, whatever stands behind it
pub ruled_put : (code : List Bytecode) (n : ℕ) (rules : List Rule) (kill gen : ℕ) (assign : Bool) (rules₁ : List Rule) → RulePut rules n kill gen assign rules₁
    → ((m : ℕ) → applied assign kill gen m ≡ execute (at code n) m) → RuledTo code n rules → RuledTo code (n + 1) rules₁
ruled_put code n rules kill gen assign rules₁ put is r = record {
  each = λ k m h. by_eq k n (λ e. rw (e, put.killed, put.genned, put.flagged) (is m)) (λ g. let before : k < n = omega arith in ap (λ (r : Rule). rule_by r m) (put.others k before) ∙ r.each k m before);
}

-- one rule more, stored in the slice
pub ruled_more : (code : List Bytecode) (n : ℕ) (rules : List Rule) (rule : Rule) → n < length rules → ((m : ℕ) → rule_by rule m ≡ execute (at code n) m) → RuledTo code n rules
    → RuledTo code (n + 1) (set rules n rule)
ruled_more code n rules rule inside is r = ruled_put code n rules (mask rule.kills) (mask rule.gens) rule.assign (set rules n rule) (rule_put rules n rule inside) is r

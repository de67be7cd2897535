-- The live rules are monotone: more behind an instruction is more in front of it. For all widths together. Assumes nothing.
use Rattle.std.specs.Prelude.{◌≡◌, refl, Bool, true, false, cond, ◌||◌, ℕ, ◌^◌, ◌≤◌, ◌<◌, eqb, get_or}
use Rattle.std.proofs.Common.{sym, ap, arith}
use Rattle.std.proofs.Math.Decide.{ℕ_discrete}
use mathlib.Core.List.{Memᴰ}
use Rattle.dataflow_domains.specs.Mask.{bit, holds, union, minus, set_of, Sub}
use Rattle.dataflow_domains.specs.MaskLaws.{bit_union, bit_minus, bit_other, sub_refl, union_lt, minus_lt, set_of_lt, union_mono, minus_mono}
use Rattle.dataflow_domains.specs.HoldsLaws.{holds_true, holds_false}
use Rattle.stackless_bytecode.specs.declared.Bytecode.{Bytecode}
use Rattle.stackless_bytecode.specs.Kinds.{Assign, Call, Ret, Load, Branch, Abort, Prop, dsts_of, srcs_of}
use Rattle.livevar_analysis.specs.Live.{assigned, called, execute}

-- ---- one rule after the other

cond_mono : (b : Bool) {x y u v : ℕ} → Sub x y → Sub u v → Sub (cond b x u) (cond b y v)
cond_mono true p q = p
cond_mono false p q = q

-- d is not in m: then m is in what the rule makes of a larger set that has d
kept : (d ss m n : ℕ) → bit m d ≡ 0 → Sub m n → Sub m (union ss (minus n (2 ^ d)))
kept d ss m n e p = record { each = λ i. at i (ℕ_discrete d i) }
  where
    at : (i : ℕ) → Dec (d ≡ i) → bit m i ≤ bit (union ss (minus n (2 ^ d))) i
    at i (yes q) = omega (arith, sym (ap (bit m) q), e)
    at i (no q) =
        omega (arith, bit_union ss (minus n (2 ^ d)) i, bit_minus n (2 ^ d) i, bit_other d i q, p.each i)

pub assigned_mono : (d ss m n : ℕ) → Sub m n → Sub (assigned d ss m) (assigned d ss n)
unfolding assigned
assigned_mono d ss m n p = go (holds m d) (holds n d) refl refl
  where
    go : (b c : Bool) → holds m d ≡ b → holds n d ≡ c
        → Sub (cond b (union ss (minus m (2 ^ d))) m) (cond c (union ss (minus n (2 ^ d))) n)
    go true true e f = union_mono (sub_refl ss) (minus_mono (2 ^ d) p)
    go true false e f = absurd (omega (arith, holds_true m d e, holds_false n d f, p.each d))
    go false true e f = kept d ss m n (holds_false m d e) p
    go false false e f = p

pub called_mono : (ds ss gone m n : ℕ) → Sub m n → Sub (called ds ss gone m) (called ds ss gone n)
unfolding called
called_mono ds ss gone m n p = minus_mono gone (union_mono (sub_refl ss) (minus_mono ds p))

-- ---- every kind

pub transfer_mono : (r : Bytecode) (m n : ℕ) → Sub m n → Sub (execute r m) (execute r n)
unfolding execute
transfer_mono r m n p =
    cond_mono (eqb r.kind Assign) (assigned_mono (get_or r.dsts 0 0) (set_of (srcs_of r)) m n p)
    (cond_mono (eqb r.kind Call) (called_mono (set_of (dsts_of r)) (set_of (srcs_of r)) (cond (eqb r.flag 1) (2 ^ r.abort) 0) m n p)
    (cond_mono (eqb r.kind Load) (minus_mono (2 ^ get_or r.dsts 0 0) p)
    (cond_mono (eqb r.kind Ret || eqb r.kind Branch || eqb r.kind Abort || eqb r.kind Prop) (union_mono (sub_refl (set_of (srcs_of r))) p) p)))

-- ---- every rule keeps to the locals

cond_lt : (l : ℕ) (b : Bool) {x y : ℕ} → x < 2 ^ l → y < 2 ^ l → cond b x y < 2 ^ l
cond_lt l true p q = p
cond_lt l false p q = q

pub transfer_lt : (l : ℕ) (r : Bytecode) (m : ℕ) → ((x : ℕ) → Memᴰ x (srcs_of r) → x < l) → m < 2 ^ l → execute r m < 2 ^ l
unfolding execute assigned called
transfer_lt l r m h b =
    let ss : set_of (srcs_of r) < 2 ^ l = set_of_lt l (srcs_of r) h in
    cond_lt l (eqb r.kind Assign) (cond_lt l (holds m (get_or r.dsts 0 0)) (union_lt l _ _ ss (minus_lt l m _ b)) b)
    (cond_lt l (eqb r.kind Call) (minus_lt l _ _ (union_lt l _ _ ss (minus_lt l m _ b)))
    (cond_lt l (eqb r.kind Load) (minus_lt l m _ b)
    (cond_lt l (eqb r.kind Ret || eqb r.kind Branch || eqb r.kind Abort || eqb r.kind Prop) (union_lt l _ _ ss b) b)))

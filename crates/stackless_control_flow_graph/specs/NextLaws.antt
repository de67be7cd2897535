-- The successors of a Call, by its flag, where no Stop has an abort action; and that one or two successors are among all. Assumes nothing.
use Rattle.std.specs.Prelude.{◌≡◌, Bool, true, false, not, ◌||◌, [], ◌∷◌, ◌++◌, ℕ, length, take, cond, eqb, ◌<◌, List}
use Rattle.std.proofs.Common.{ap, ap₂, ◌∙◌, refl, sym, subst}
use mathlib.Core.List.{Memᴰ}
use Rattle.stackless_bytecode.specs.declared.Bytecode.{Bytecode}
use Rattle.stackless_bytecode.specs.Kinds.{Call, Branch, Jump, is_exit, is_flagged, stop_ok, falls_through, branch_dests}
use Rattle.stackless_bytecode.specs.KindLaws.{flagged_goes}
use Rattle.stackless_bytecode.specs.Successors.{ascending}
use Rattle.stackless_control_flow_graph.specs.Arrays.{offsets_of, succs_by, Within}
use Rattle.stackless_control_flow_graph.specs.declared.Successors.{Successors}

module _ (r : Bytecode) (one two next : ℕ) (call : r.kind ≡ Call) where
  -- what `succs_by` gives of a Call
  call_is : {f x : Bool} → is_flagged r ≡ f → is_exit r ≡ x → succs_by r one two next ≡ ascending (take (length (cond f (r.one ∷ []) [])) (one ∷ two ∷ []) ++ cond (not x) (next ∷ []) [])
  unfolding succs_by branch_dests falls_through
  call_is ef ex =
      ap (λ (k : ℕ). ascending (take (length (cond (eqb k Branch) (r.one ∷ r.two ∷ []) (cond (eqb k Jump || is_flagged r) (r.one ∷ []) []))) (one ∷ two ∷ []) ++ cond (not (eqb k Branch || eqb k Jump || is_exit r)) (next ∷ []) [])) call
      ∙ ap₂ (λ (f x : Bool). ascending (take (length (cond f (r.one ∷ []) [])) (one ∷ two ∷ []) ++ cond (not x) (next ∷ []) [])) ef ex

  pub flagged_next : stop_ok r ≡ true → is_flagged r ≡ true → succs_by r one two next ≡ ascending (one ∷ next ∷ [])
  flagged_next ok f = call_is f (flagged_goes r ok f)

  pub stop_next : is_flagged r ≡ false → is_exit r ≡ true → succs_by r one two next ≡ []
  unfolding ascending
  stop_next f x = call_is f x

  pub plain_next : is_flagged r ≡ false → is_exit r ≡ false → succs_by r one two next ≡ next ∷ []
  unfolding ascending
  plain_next f x = call_is f x

-- ---- those of one, and of two

pub one_below : (n a : ℕ) (e : Successors) → e ≡ Successors.One a → Within n (offsets_of e) → a < n
one_below n a e q w = (rw q at w).each a (Memᴰ.head refl)

pub two_below : (n a b : ℕ) (e : Successors) → e ≡ Successors.Two a b → Within n (offsets_of e) → (a < n) × (b < n)
two_below n a b e q w = ((rw q at w).each a (Memᴰ.head refl), (rw q at w).each b (Memᴰ.tail (Memᴰ.head refl)))

pub one_in : {a : ℕ} {e : Successors} {xs : List ℕ} → e ≡ Successors.One a → offsets_of e ≡ xs → Memᴰ a xs
one_in {a} q is = subst (λ (l : List ℕ). Memᴰ a l) (sym (ap offsets_of q) ∙ is) (Memᴰ.head refl)

pub two_in : {a b : ℕ} {e : Successors} {xs : List ℕ} → e ≡ Successors.Two a b → offsets_of e ≡ xs → Memᴰ a xs × Memᴰ b xs
two_in {a} {b} q is = (subst (λ (l : List ℕ). Memᴰ a l) (sym (ap offsets_of q) ∙ is) (Memᴰ.head refl), subst (λ (l : List ℕ). Memᴰ b l) (sym (ap offsets_of q) ∙ is) (Memᴰ.tail (Memᴰ.head refl)))

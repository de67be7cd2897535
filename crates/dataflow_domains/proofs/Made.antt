-- An array that `array::from_fn` made, where its calls leave the function as it was. Assumes nothing.
use Rattle.std.specs.Prelude.{◌≡◌, List, ℕ, zero, suc, ◌+◌, ◌≤◌, ◌<◌, get_or}
use Rattle.std.proofs.Common.{sym, subst, arith}
use Rattle.std.specs.Fn.{Called}
use Rattle.std.specs.Array.{IsFromFnResultFrom, IsFromFnResult}
use denote.Param.Members.{Mut}
use Rattle.base.specs.ListLaws.{by_eq}

module _ {F B : Type 0} (g : Mut F (ℕ × Unit {0}) B) (P : ℕ → B → Type 0) (f : F) (same : (i : ℕ) (y : B) (q : F) → Called g f (i, tt) y q → P i y × (q ≡ f)) where
  each_from : (ys : List B) (i n k : ℕ) (d : B) → IsFromFnResultFrom g f ys i n → i ≤ k → k < i + n → P k (get_or ys k d)
  each_from ys i zero k d r h l = absurd (omega arith)
  each_from ys i (suc n) k d (q, y, here, called, rest) h l =
      let as_before = same i y q called in
      by_eq k i (λ e. subst (λ (j : ℕ). P j (get_or ys j d)) (sym e) (subst (P i) (sym (here.1 d)) as_before.0))
      (λ e. each_from ys (i + 1) n k d (subst (λ (p : F). IsFromFnResultFrom g p ys (i + 1) n) as_before.1 rest) (omega arith) (omega arith))

  -- each element is what P says of a call
  pub each_made : (ys : List B) (n : ℕ) → IsFromFnResult g f ys n → (k : ℕ) (d : B) → k < n → P k (get_or ys k d)
  each_made ys n made k d h = each_from ys 0 n k d made.each (omega arith) (omega arith)

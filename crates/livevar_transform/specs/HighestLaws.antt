-- The highest Label and attribute id, looked for one instruction after the other. Assumes nothing.
use Rattle.std.specs.Prelude.{◌≡◌, refl, List, [], ◌∷◌, ◌++◌, map, ℕ, suc, ◌+◌, ◌≤◌, ◌<◌, max, length, drop}
use Rattle.std.proofs.Common.{sym, ap, ap₂, ◌∙◌, add-one, arith, drop_of_length-le, drop-cons}
use Rattle.base.specs.Lists.{gather}
use Rattle.stackless_bytecode.specs.declared.Bytecode.{Bytecode}
use Rattle.stackless_bytecode.specs.Kinds.{at, nop, label_of}
use Rattle.livevar_transform.specs.Rewrite.{highest, next_free_label, next_free_attr}

-- ---- the highest Label and attribute id

highest_append : (xs ys : List ℕ) → highest (xs ++ ys) ≡ max (highest xs) (highest ys)
unfolding highest
highest_append [] ys = omega arith
highest_append (x ∷ xs) ys = ap (max x) (highest_append xs ys) ∙ (omega arith)

-- a turn of the loop: f gives what an instruction adds
highest_more : (f : Bytecode → List ℕ) (code : List Bytecode) (k t : ℕ) (r : Bytecode) → k < length code → r ≡ at code k
    → max t (highest (gather f (drop k code))) ≡ max (max t (highest (f r))) (highest (gather f (drop (k + 1) code)))
highest_more f code k t r l e =
    ap (λ (xs : List Bytecode). max t (highest (gather f xs))) (drop-cons code k nop l) ∙ ap (max t) (highest_append (f (at code k)) (gather f (drop (suc k) code)))
    ∙ ap₂ (λ (x : Bytecode) (j : ℕ). max t (max (highest (f x)) (highest (gather f (drop j code))))) (sym e) (sym (add-one k)) ∙ (omega arith)

highest_end : (f : Bytecode → List ℕ) (code : List Bytecode) (k t : ℕ) → length code ≤ k → max t (highest (gather f (drop k code))) ≡ t
unfolding highest
highest_end f code k t l = ap (λ (xs : List Bytecode). max t (highest (gather f xs))) (drop_of_length-le code l) ∙ (omega arith)

pub highest_turn : (f : Bytecode → List ℕ) (code : List Bytecode) (k t x h : ℕ) (r : Bytecode) → k < length code → r ≡ at code k → x ≡ max t (highest (f r))
    → max t (highest (gather f (drop k code))) ≡ h → max x (highest (gather f (drop (k + 1) code))) ≡ h
highest_turn f code k t x h r l e q i = ap (λ (y : ℕ). max y (highest (gather f (drop (k + 1) code)))) q ∙ sym (highest_more f code k t r l e) ∙ i

pub highest_done : (f : Bytecode → List ℕ) (code : List Bytecode) (k t h : ℕ) → length code ≤ k → max t (highest (gather f (drop k code))) ≡ h → t ≡ h
highest_done f code k t h l i = sym (highest_end f code k t l) ∙ i

pub highest_start : (f : Bytecode → List ℕ) (code : List Bytecode) → max 0 (highest (gather f (drop 0 code))) ≡ highest (gather f code)
highest_start f code = omega arith

-- a Label's number, and an attribute id, as a list of one
abbrev pub attr_of : Bytecode → List ℕ
attr_of r = r.attr ∷ []

pub attr_raised : (t x : ℕ) (r : Bytecode) → x ≡ max t r.attr → x ≡ max t (highest (attr_of r))
unfolding highest
attr_raised t x r e = e ∙ (omega arith)

attrs_are : (code : List Bytecode) → gather attr_of code ≡ map (λ r. r.attr) code
attrs_are [] = refl
attrs_are (r ∷ rs) = ap (λ (l : List ℕ). r.attr ∷ l) (attrs_are rs)

pub free_label : (code : List Bytecode) (t x : ℕ) → t ≡ highest (gather label_of code) → x ≡ t → x + 1 ≡ next_free_label code
unfolding next_free_label
free_label code t x e q = add-one x ∙ ap suc (q ∙ e)

pub free_attr : (code : List Bytecode) (t x : ℕ) → t ≡ highest (gather attr_of code) → x ≡ t → x + 1 ≡ next_free_attr code
unfolding next_free_attr
free_attr code t x e q = add-one x ∙ ap suc (q ∙ e ∙ ap highest (attrs_are code))

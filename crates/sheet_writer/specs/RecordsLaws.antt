-- The records of some code, one behind the other, at the front of a slice. Assumes nothing.
use Rattle.std.specs.Prelude.{◌≡◌, refl, List, [], ◌∷◌, ◌++◌, ℕ, ◌+◌, ◌-◌, ◌*◌, ◌≤◌, length, take, drop}
use Rattle.std.proofs.Common.{sym, ap, ap₂, ◌∙◌, append-nil, arith, length-append, length-drop, drop_of_length-le, take_all}
use Rattle.base.specs.Sizes.{record_bytes}
use Rattle.base.specs.Lists.{gather}
use Rattle.base.specs.PartLaws.{gather_length}
use Rattle.base.specs.WriteLaws.{part_more, length_kept}
use Rattle.stackless_bytecode.specs.declared.Bytecode.{Bytecode}
use Rattle.sheet.specs.Layout.{encode}
use Rattle.base.specs.GrowLaws.{gather_append}
use Rattle.sheet_writer.specs.Written.{placed}
use Rattle.sheet_writer.specs.EncodeLaws.{record_size}

pub records_length : (code : List Bytecode) → length (gather encode code) ≡ record_bytes * length code
records_length code = gather_length record_bytes encode record_size code

-- none
pub placed_none : (d : List ℕ) → d ≡ placed [] d
placed_none d = refl

-- the part from a on comes back with more records at its front
pub placed_more : (code more : List Bytecode) (d : List ℕ) (a : ℕ) → a ≡ record_bytes * length code
    → take a (placed code d) ++ placed more (drop a (placed code d)) ≡ placed (code ++ more) d
placed_more code more d a e =
    let sum : a + record_bytes * length more ≡ record_bytes * length (code ++ more) = omega (arith, length-append code more) in
    ap (λ (x : List ℕ). take a x ++ (gather encode more ++ drop (record_bytes * length more) (drop a x))) (ap (λ (x : ℕ). gather encode code ++ drop x d) (sym e))
    ∙ part_more (gather encode code) (gather encode more) d a (record_bytes * length more) (records_length code ∙ sym e)
    ∙ ap₂ (λ (l : List ℕ) (x : ℕ). l ++ drop x d) (sym (gather_append encode code more)) sum

-- one record
pub placed_one : (r : Bytecode) (d x : List ℕ) → x ≡ encode r → x ++ drop record_bytes d ≡ placed (r ∷ []) d
placed_one r d x e = ap (λ (l : List ℕ). l ++ drop record_bytes d) (e ∙ sym (append-nil (encode r)))

-- the rest of a slice, from a on, is lent
pub tail_is : (out : List ℕ) (a : ℕ) → take (length out - a) (drop a out) ≡ drop a out
tail_is out a = take_all (length out - a) (drop a out) (omega (arith, length-drop a out))

pub tail_room : (out : List ℕ) (a b : ℕ) → a + b ≤ length out → b ≤ length (take (length out - a) (drop a out))
tail_room out a b h = omega (arith, length-drop a out, ap length (tail_is out a))

pub tail_put : (more : List Bytecode) (out new : List ℕ) (a : ℕ) → new ≡ placed more (take (length out - a) (drop a out)) → take a out ++ (new ++ drop (length out - a) (drop a out)) ≡ take a out ++ placed more (drop a out)
tail_put more out new a e =
    ap (λ (x : List ℕ). take a out ++ (new ++ x)) (drop_of_length-le (drop a out) {i = length out - a} (omega (arith, length-drop a out))) ∙ ap (λ (x : List ℕ). take a out ++ x) (append-nil new ∙ e ∙ ap (placed more) (tail_is out a))

pub placed_length : (code : List Bytecode) (d : List ℕ) → record_bytes * length code ≤ length d → length (placed code d) ≡ length d
placed_length code d h = length_kept (gather encode code) d (record_bytes * length code) (records_length code) h

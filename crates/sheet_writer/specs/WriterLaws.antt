-- Writing a record: its four parts, one behind the other. Assumes nothing.
use Rattle.std.specs.Prelude.{◌≡◌, refl, List, ◌++◌, ℕ, ◌+◌, ◌*◌, length, take, drop}
use Rattle.std.proofs.Common.{sym, ap, ap₂, ◌∙◌, append-nil, arith, length-append, drop_of_length-le}
use Rattle.base.specs.Sizes.{list_places, record_bytes}
use Rattle.base.specs.Bytes.{bytes_of}
use Rattle.base.specs.WriteLaws.{part_more}
use Rattle.stackless_bytecode.specs.declared.Bytecode.{Bytecode}
use Rattle.sheet.specs.Layout.{encode, padded}
use Rattle.sheet_writer.specs.Written.{head_of}
use Rattle.sheet_writer.specs.EncodeLaws.{padded_size}

-- a part of a list is put anew: k places from a on
abbrev put : ℕ → ℕ → List ℕ → List ℕ → List ℕ
put a k l new = take a l ++ (new ++ drop k (drop a l))

encode_is : (r : Bytecode) → encode r ≡ head_of r ++ padded r.dsts ++ padded r.srcs ++ bytes_of 4 r.payload
unfolding encode bytes_of
encode_is r = refl

-- the four parts of a record
pub record_written : (r : Bytecode) (out h d s p : List ℕ) → length out ≡ record_bytes → h ≡ head_of r → d ≡ padded r.dsts → s ≡ padded r.srcs → p ≡ bytes_of 4 r.payload
    → put (12 + 2 * list_places) 4 (put (12 + list_places) list_places (put 12 list_places (h ++ drop 12 out) d) s) p ≡ encode r
record_written r out h d s p size eh ed es ep =
    let lh : length h ≡ 12 = ap length eh in
    let ld : length d ≡ list_places = ap length ed ∙ padded_size r.dsts in
    let ls : length s ≡ list_places = ap length es ∙ padded_size r.srcs in
    ap (λ (x : List ℕ). put (12 + 2 * list_places) 4 (put (12 + list_places) list_places x s) p) (part_more h d out 12 list_places lh)
    ∙ ap (λ (x : List ℕ). put (12 + 2 * list_places) 4 x p) (part_more (h ++ d) s out (12 + list_places) list_places (length-append h d ∙ (omega arith)))
    ∙ part_more (h ++ d ++ s) p out (12 + 2 * list_places) 4 (length-append (h ++ d) s ∙ (omega (arith, length-append h d)))
    ∙ ap (λ (x : List ℕ). h ++ d ++ s ++ p ++ x) (drop_of_length-le out {i = 12 + 2 * list_places + 4} (omega arith)) ∙ append-nil (h ++ d ++ s ++ p)
    ∙ ap₂ (λ (x y : List ℕ). x ++ y ++ s ++ p) eh ed ∙ ap₂ (λ (x y : List ℕ). head_of r ++ padded r.dsts ++ x ++ y) es ep ∙ sym (encode_is r)

-- Texts that a writer writes one behind the other, and what stands in the slice then. Assumes nothing.
use Rattle.std.specs.Prelude.{◌≡◌, refl, List, [], ◌∷◌, ◌++◌, ℕ, ◌+◌, ◌-◌, ◌*◌, ◌/◌, ◌%◌, ◌<◌, ◌≤◌, length, get_or, set, take}
use Rattle.std.proofs.Common.{sym, ap, ap₂, ◌∙◌, add-one, arith, take-suc, take_all, lt-ltb, le-ltb}
use Rattle.std.specs.Borrow.{MutBor}
use Rattle.base.specs.Bytes.{number, Bytes}
use Rattle.base.specs.Sizes.{set_bytes}
use Rattle.listing.specs.Words.{hex_digit, hex}
use Rattle.listing.specs.NumberLaws.{hex_length, hex_high, hex_low}
use Rattle.listing.specs.Output.{store, write, Wrote}
use Rattle.listing.specs.OutputLaws.{write_append, write_inside}
use Rattle.listing.specs.Writer.{output, with_output, at_front, ◌with_text◌}
use Rattle.listing.specs.declared.writer.Writer.{Writer}

-- nothing
pub text_none : (w : Writer) → (w with_text []) ≡ w
unfolding ◌with_text◌ write
text_none w = refl

-- one text behind the other
pub text_then : (w : Writer) (s t : List ℕ) → (w with_text s) with_text t ≡ w with_text (s ++ t)
unfolding ◌with_text◌
text_then w s t = ap (with_output w) (sym (write_append (output w) s t))

-- what joins texts, for a tactic's list
pub ruleset texts = (text_none, text_then)

-- by hand: two texts of which each is written, and a text by another name
pub text_next : (w : Writer) (s t : List ℕ) {v u : Writer} → v ≡ w with_text s → u ≡ v with_text t → u ≡ w with_text (s ++ t)
text_next w s t p q = q ∙ ap (λ (x : Writer). x with_text t) p ∙ text_then w s t

pub text_as : (w : Writer) {s t : List ℕ} {v : Writer} → s ≡ t → v ≡ w with_text s → v ≡ w with_text t
text_as w e p = p ∙ ap (λ (x : List ℕ). w with_text x) e

-- one byte, where there is room and where there is none
pub text_one : (w : Writer) (x : ℕ) → w.next < length w.bytes.now → with_output w (record { bytes = set w.bytes.now w.next x; next = w.next + 1 }) ≡ w with_text (x ∷ [])
unfolding ◌with_text◌ write store
text_one w x h = rw (lt-ltb w.next (length w.bytes.now) h, add-one)

pub text_full : (w : Writer) (x : ℕ) → length w.bytes.now ≤ w.next → w ≡ w with_text (x ∷ [])
unfolding ◌with_text◌ write store
text_full w x h = rw (le-ltb w.next (length w.bytes.now) h)

-- byte i, behind the first i bytes of a text
pub text_more : (w : Writer) (s : List ℕ) (i : ℕ) → i < length s → (w with_text take i s) with_text (get_or s i 0 ∷ []) ≡ w with_text take (i + 1) s
text_more w s i h = text_then w (take i s) (get_or s i 0 ∷ []) ∙ sym (ap (λ (n : ℕ). w with_text take n s) (add-one i) ∙ ap (λ (t : List ℕ). w with_text t) (take-suc s i 0 h))

-- what stands in a slice, from its front on
pub front_wrote : (slice : MutBor (List ℕ)) (w v : Writer) (t : List ℕ) → w ≡ at_front slice → v ≡ w with_text t → Wrote slice.now 0 t v.bytes.now v.next
unfolding ◌with_text◌
front_wrote slice w v t p q = record { is = ap output (sym (q ∙ ap (λ (x : Writer). with_output x (write (output x) t)) p)) }

-- the place behind a text is inside the slice
pub text_inside : (w : Writer) (t : List ℕ) → w.next ≤ length w.bytes.now → (w with_text t).next ≤ length (w with_text t).bytes.now
unfolding ◌with_text◌
text_inside w t h = write_inside (output w) t h

-- the two digits of the byte below the first i, behind those of the bytes above
pub text_hex : (w : Writer) (p : List ℕ) → Bytes p → (i : ℕ) → 0 < i → i ≤ set_bytes
    → ((w with_text take (2 * (set_bytes - i)) (hex (number p))) with_text (hex_digit (get_or p (i - 1) 0 / 16) ∷ [])) with_text (hex_digit (get_or p (i - 1) 0 % 16) ∷ []) ≡ w with_text take (2 * (set_bytes - (i - 1))) (hex (number p))
text_hex w p b i some few =
    let n = set_bytes - i in
    let x = number p in
    let here : set_bytes - 1 - n ≡ i - 1 = omega arith in
    let all : 2 * n + 1 + 1 ≡ 2 * (set_bytes - (i - 1)) = omega arith in
    let high : hex_digit (get_or p (i - 1) 0 / 16) ≡ get_or (hex x) (2 * n) 0 = ap (λ (j : ℕ). hex_digit (get_or p j 0 / 16)) (sym here) ∙ hex_high p b n (omega arith) in
    let low : hex_digit (get_or p (i - 1) 0 % 16) ≡ get_or (hex x) (2 * n + 1) 0 = ap (λ (j : ℕ). hex_digit (get_or p j 0 % 16)) (sym here) ∙ hex_low p b n (omega arith) in
    ap₂ (λ (a b : ℕ). ((w with_text take (2 * n) (hex x)) with_text (a ∷ [])) with_text (b ∷ [])) high low
    ∙ ap (λ (v : Writer). v with_text (get_or (hex x) (2 * n + 1) 0 ∷ [])) (text_more w (hex x) (2 * n) (omega (arith, hex_length x))) ∙ text_more w (hex x) (2 * n + 1) (omega (arith, hex_length x))
    ∙ ap (λ (j : ℕ). w with_text take j (hex x)) all

pub text_hex_all : (w : Writer) (x i : ℕ) → i ≤ 0 → (w with_text take (2 * (set_bytes - i)) (hex x)) ≡ w with_text hex x
text_hex_all w x i h =
    let all : 2 * (set_bytes - i) ≡ 2 * set_bytes = omega arith in
    ap (λ (t : List ℕ). w with_text t) (ap (λ (n : ℕ). take n (hex x)) all ∙ take_all (2 * set_bytes) (hex x) (omega (arith, hex_length x)))

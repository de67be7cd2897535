-- Texts written one behind the other, and whole where there is room. Assumes nothing.
use Rattle.std.specs.Prelude.{◌≡◌, refl, Bool, cond, List, [], ◌∷◌, ◌++◌, ℕ, suc, ◌+◌, ◌≤◌, ◌<◌, length, drop, set}
use Rattle.std.proofs.Common.{sym, ap, ◌∙◌, subst, add-one, arith, lt-ltb, le-ltb, length-set, take-append-drop, zero-add, add-zero}
use Rattle.base.specs.JoinLaws.{by_lt}
use Rattle.base.specs.PutLaws.{put_one, put_then, put_front}
use Rattle.base.specs.Put.{Put}
use Rattle.listing.specs.Output.{Output, store, write, Wrote}

-- ---- one text behind the other

pub write_append : (o : Output) (s t : List ℕ) → write o (s ++ t) ≡ write (write o s) t
unfolding write
write_append o [] t = refl
write_append o (x ∷ s) t = write_append (store o x) s t

-- ---- the slice keeps its length

store_length : (o : Output) (x : ℕ) → length (store o x).bytes ≡ length o.bytes
unfolding store
store_length o x =
    by_lt o.next (length o.bytes)
    (λ h. ap (λ b. length (cond b (record { bytes = set o.bytes o.next x; next = suc o.next }) o).bytes) (lt-ltb o.next (length o.bytes) h) ∙ length-set o.bytes o.next x)
    (λ h. ap (λ b. length (cond b (record { bytes = set o.bytes o.next x; next = suc o.next }) o).bytes) (le-ltb o.next (length o.bytes) h))

write_length : (o : Output) (t : List ℕ) → length (write o t).bytes ≡ length o.bytes
unfolding write
write_length o [] = refl
write_length o (x ∷ t) = write_length (store o x) t ∙ store_length o x

-- what a text leaves is as long as before
pub wrote_length : {a e : ℕ} {old new t : List ℕ} → Wrote old a t new e → length new ≡ length old
wrote_length {a} {e} {old} {new} {t} p = sym (ap (λ (o : Output). length o.bytes) p.is) ∙ write_length (record { bytes = old; next = a }) t

-- ---- the place behind the text is inside the slice

store_inside : (o : Output) (x : ℕ) → o.next ≤ length o.bytes → (store o x).next ≤ length (store o x).bytes
unfolding store
store_inside o x h =
    by_lt o.next (length o.bytes)
    (λ l. subst (λ (b : Bool). (cond b (record { bytes = set o.bytes o.next x; next = suc o.next }) o).next ≤ length (cond b (record { bytes = set o.bytes o.next x; next = suc o.next }) o).bytes) (sym (lt-ltb o.next (length o.bytes) l)) (omega (arith, length-set o.bytes o.next x)))
    (λ l. subst (λ (b : Bool). (cond b (record { bytes = set o.bytes o.next x; next = suc o.next }) o).next ≤ length (cond b (record { bytes = set o.bytes o.next x; next = suc o.next }) o).bytes) (sym (le-ltb o.next (length o.bytes) l)) h)

pub write_inside : (o : Output) (t : List ℕ) → o.next ≤ length o.bytes → (write o t).next ≤ length (write o t).bytes
unfolding write
write_inside o [] h = h
write_inside o (x ∷ t) h = write_inside (store o x) t (store_inside o x h)

pub wrote_inside : {e : ℕ} {old new t : List ℕ} → Wrote old 0 t new e → e ≤ length new
wrote_inside {e} {old} {new} {t} p = subst (λ (o : Output). o.next ≤ length o.bytes) p.is (write_inside (record { bytes = old; next = 0 }) t (omega arith))

-- ---- where there is room, the whole text stands there

put_nothing : (old : List ℕ) (at : ℕ) → at ≤ length old → Put old at [] old at
put_nothing old at h = record { is = sym (take-append-drop at old); ends = sym (add-zero at); inside = h }

stored : (old : List ℕ) (at x : ℕ) → at < length old → store (record { bytes = old; next = at }) x ≡ record { bytes = set old at x; next = suc at }
unfolding store
stored old at x h = rw (lt-ltb at (length old) h)

put_step : (old : List ℕ) (at x : ℕ) → at < length old → Put old at (x ∷ []) (set old at x) (suc at)
put_step old at x h = subst (λ (n : ℕ). Put old at (x ∷ []) (set old at x) n) (add-one at) (put_one old at x h)

pub put_write : (old : List ℕ) (at : ℕ) (t : List ℕ) → at + length t ≤ length old → Put old at t (write (record { bytes = old; next = at }) t).bytes (write (record { bytes = old; next = at }) t).next
unfolding write
put_write old at [] h = put_nothing old at (omega arith)
put_write old at (x ∷ t) h =
    subst (λ (o : Output). Put old at (x ∷ t) (write o t).bytes (write o t).next) (sym (stored old at x (omega arith)))
    (put_then (put_step old at x (omega arith)) (put_write (set old at x) (suc at) t (omega (arith, length-set old at x))))

pub wrote_whole : {e : ℕ} {old new t : List ℕ} → length t ≤ length old → Wrote old 0 t new e → (new ≡ t ++ drop e old) × (e ≡ length t) × (e ≤ length old)
wrote_whole {e} {old} {new} {t} h p =
    let q = subst (λ (o : Output). Put old 0 t o.bytes o.next) p.is (put_write old 0 t (omega (arith, zero-add (length t)))) in
    let f = put_front q in
    (f.0, f.1, q.inside)

-- A word of a text with bars byte by byte; it is an element of the list of the text's words, and the names are such lists. Assumes nothing.
use Rattle.std.specs.Prelude.{◌≡◌, refl, ◌≢◌, cond, ℕ, zero, suc, ◌+◌, ◌-◌, ◌<◌, ◌≤◌, List, [], ◌∷◌, eqb, length, get_or, drop}
use Rattle.std.proofs.Common.{ap, ◌∙◌, arith, eq-eqb, ne_eqb}
use Rattle.std.proofs.lemmas.List.{at_drop_more, at_drop_all}
use Rattle.base.specs.ListLaws.{by_test}
use Rattle.stackless_bytecode.specs.Kinds.{Assign, Call, Load, Prop}
use Rattle.pages.specs.Words.{word}
use Rattle.pages.specs.Code.{verbs, assigns, operations, constants, props, names}
use Rattle.pages.specs.Bars.{barred_word, in_front, words_of, barred_verbs, barred_assigns, barred_operations, barred_constants, barred_props, barred_names}

-- ---- the word from byte k on, where i bars are left to pass

-- a bar ends the word that is written
pub bar_ends : (i : ℕ) (t : List ℕ) (k : ℕ) → i ≡ 0 → k < length t → get_or t k 0 ≡ 124 → barred_word i (drop k t) ≡ []
unfolding barred_word
bar_ends i t k z h e = at_drop_more (barred_word i) t k 0 h ∙ rw (z, eq-eqb (get_or t k 0) 124 e)

-- another byte is part of it
pub bar_goes : (i : ℕ) (t : List ℕ) (k : ℕ) → i ≡ 0 → k < length t → get_or t k 0 ≢ 124 → barred_word i (drop k t) ≡ get_or t k 0 ∷ barred_word i (drop (k + 1) t)
unfolding barred_word
bar_goes i t k z h n = at_drop_more (barred_word i) t k 0 h ∙ rw (z, ne_eqb (get_or t k 0) 124 n)

-- in front of the word a bar is counted
pub bar_counted : (i : ℕ) (t : List ℕ) (k : ℕ) → i ≢ 0 → k < length t → get_or t k 0 ≡ 124 → barred_word i (drop k t) ≡ barred_word (i - 1) (drop (k + 1) t)
unfolding barred_word
bar_counted zero t k s h e = elim (s refl) [ ]
bar_counted (suc i) t k s h e =
    let one : i ≡ suc i - 1 = omega arith in
    at_drop_more (barred_word (suc i)) t k 0 h ∙ rw (eq-eqb (get_or t k 0) 124 e) (ap (λ (n : ℕ). barred_word n (drop (k + 1) t)) one)

-- and another byte is left out
pub bar_passed : (i : ℕ) (t : List ℕ) (k : ℕ) → i ≢ 0 → k < length t → get_or t k 0 ≢ 124 → barred_word i (drop k t) ≡ barred_word i (drop (k + 1) t)
unfolding barred_word
bar_passed zero t k s h n = elim (s refl) [ ]
bar_passed (suc i) t k s h n = at_drop_more (barred_word (suc i)) t k 0 h ∙ rw (ne_eqb (get_or t k 0) 124 n)

-- where the text ends, so does the word
pub bar_none : (i : ℕ) (t : List ℕ) (k : ℕ) → length t ≤ k → barred_word i (drop k t) ≡ []
unfolding barred_word
bar_none i t k h = at_drop_all (barred_word i) t k h

-- what a loop over the bytes needs
pub ruleset bar_steps = (bar_ends, bar_goes, bar_counted, bar_passed, bar_none)

-- ---- the list of its words

front_first : (b : ℕ) (ws : List (List ℕ)) → b ∷ word 0 ws ≡ word 0 (in_front b ws)
unfolding in_front
front_first b [] = refl
front_first b (w ∷ ws) = refl

front_later : (b i : ℕ) (ws : List (List ℕ)) → word (suc i) ws ≡ word (suc i) (in_front b ws)
unfolding in_front
front_later b i [] = refl
front_later b i (w ∷ ws) = refl

-- of any text
pub barred_is : (i : ℕ) (t : List ℕ) → barred_word i t ≡ word i (words_of t)
unfolding barred_word words_of
barred_is zero [] = refl
barred_is (suc i) [] = refl
barred_is zero (b ∷ bs) =
    by_test (λ t. cond t [] (b ∷ barred_word zero bs) ≡ word 0 (cond t ([] ∷ words_of bs) (in_front b (words_of bs)))) (eqb b 124)
    (λ _. refl) (λ _. ap (λ (w : List ℕ). b ∷ w) (barred_is zero bs) ∙ front_first b (words_of bs))
barred_is (suc i) (b ∷ bs) =
    by_test (λ t. cond t (barred_word i bs) (barred_word (suc i) bs) ≡ word (suc i) (cond t ([] ∷ words_of bs) (in_front b (words_of bs)))) (eqb b 124)
    (λ _. barred_is i bs) (λ _. barred_is (suc i) bs ∙ front_later b i (words_of bs))

-- the five texts, word for word
pub barred_texts : (words_of barred_verbs ≡ verbs) × (words_of barred_assigns ≡ assigns) × (words_of barred_operations ≡ operations) × (words_of barred_constants ≡ constants) × (words_of barred_props ≡ props)
unfolding words_of in_front
barred_texts = (refl, refl, refl, refl, refl)

-- a verb
pub barred_verb : (i : ℕ) → barred_word i barred_verbs ≡ word i verbs
barred_verb i = barred_is i barred_verbs ∙ ap (word i) barred_texts.0

-- the names of each kind
barred_list : (kind : ℕ) → words_of (barred_names kind) ≡ names kind
unfolding words_of barred_names names
barred_list kind =
    by_test (λ a. words_of (cond a barred_assigns (cond (eqb kind Call) barred_operations (cond (eqb kind Load) barred_constants (cond (eqb kind Prop) barred_props [])))) ≡ cond a assigns (cond (eqb kind Call) operations (cond (eqb kind Load) constants (cond (eqb kind Prop) props [])))) (eqb kind Assign) (λ _. barred_texts.1)
    (λ _. by_test (λ a. words_of (cond a barred_operations (cond (eqb kind Load) barred_constants (cond (eqb kind Prop) barred_props []))) ≡ cond a operations (cond (eqb kind Load) constants (cond (eqb kind Prop) props []))) (eqb kind Call) (λ _. barred_texts.2)
    (λ _. by_test (λ a. words_of (cond a barred_constants (cond (eqb kind Prop) barred_props [])) ≡ cond a constants (cond (eqb kind Prop) props [])) (eqb kind Load) (λ _. barred_texts.3)
    (λ _. by_test (λ a. words_of (cond a barred_props []) ≡ cond a props []) (eqb kind Prop) (λ _. barred_texts.4) (λ _. refl))))

-- and one of them
pub barred_name : (i kind : ℕ) → barred_word i (barred_names kind) ≡ word i (names kind)
barred_name i kind = barred_is i (barred_names kind) ∙ ap (word i) (barred_list kind)

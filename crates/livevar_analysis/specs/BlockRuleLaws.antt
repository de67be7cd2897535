-- What the rules of the rest of a block make of a set, which keys are predecessors, and that sets which obey have at least what the rules give. Assumes nothing.
use Rattle.std.specs.Prelude.{◌≡◌, refl, false, cond, eqb, get_or, length, drop, List, [], ◌∷◌, map, ℕ, zero, suc, ◌+◌, ◌-◌, ◌^◌, ◌<◌, take}
use Rattle.std.proofs.Common.{sym, inl, inr, ⊎_elim, not-suc-le-zero, le_of_suc-le-suc, zero-lt-suc, arith, eqb-true, drop-cons, ap, ap₂, suc-le-suc}
use mathlib.Core.List.Memᴰ
use mathlib.Core.List.{Memᴰ}
use Rattle.std.proofs.lemmas.Bool.{eqb-false}
use Rattle.dataflow_domains.specs.Mask.{Sub}
use Rattle.dataflow_domains.specs.MaskLaws.{sub_eq, sub_trans, unions_in}
use Rattle.livevar_analysis.specs.Live.{Obeys, Post, execute}
use Rattle.stackless_bytecode.specs.declared.Bytecode.{Bytecode}
use Rattle.livevar_analysis.specs.LiveLaws.{transfer_mono}
use Rattle.stackless_bytecode.specs.Kinds.{at, nop}
use Rattle.stackless_bytecode.specs.Successors.{successors}
use Rattle.stackless_control_flow_graph.specs.Blocks.{starts, upper_of}
use Rattle.stackless_control_flow_graph.specs.Backward.{times, preds_from}
use Rattle.livevar_analysis.specs.Analysis.{execute_all, rest_of, LiveVarInfo}
use Rattle.base.specs.ListLaws.{by_test, by_eq, map_in}
use Rattle.stackless_control_flow_graph.specs.BlockLaws.{Last, upper_le, upper_next, upper_stop}

-- ---- sets that obey have at least what the rules give

pub obeys_post : (code : List Bytecode) (b a : ℕ → ℕ) → Obeys code b a → Post code b a
obeys_post code b a ob = record {
  after = λ k o h i. sub_trans (unions_in (map b (successors code k)) (map_in b (successors code k) i)) (sub_eq (sym (ob.after k h)));
  before = λ k h. sub_eq (sym (ob.before k h));
}

-- ---- predecessors

pub times_in : (p k : ℕ) (ns : List ℕ) → Memᴰ k ns → Memᴰ p (times p k ns)
unfolding times
times_in p k [] i = absurd (Memᴰ.not-nil i)
times_in p k (x ∷ xs) i =
    by_test (λ b. Memᴰ p (cond b (p ∷ times p k xs) (times p k xs))) (eqb k x) (λ e. Memᴰ.head refl)
    (λ e. ⊎_elim (λ s. absurd (eqb-false k x e s)) (λ t. times_in p k xs t) (Memᴰ.cases_cons i))

pub in_times : (q p k : ℕ) (ns : List ℕ) → Memᴰ q (times p k ns) → (q ≡ p) × Memᴰ k ns
unfolding times
in_times q p k [] i = absurd (Memᴰ.not-nil i)
in_times q p k (x ∷ xs) i =
    by_test (λ b. Memᴰ q (cond b (p ∷ times p k xs) (times p k xs)) → (q ≡ p) × Memᴰ k (x ∷ xs)) (eqb k x)
    (λ e m. ⊎_elim (λ s. (s, Memᴰ.head (eqb-true k x e))) (λ t. let r = in_times q p k xs t in (r.0, Memᴰ.tail r.1)) (Memᴰ.cases_cons m))
    (λ e m. let r = in_times q p k xs m in (r.0, Memᴰ.tail r.1)) i

pub preds_in : (nss : List (List ℕ)) (p k i : ℕ) → i < length nss → Memᴰ k (get_or nss i []) → Memᴰ (p + i) (preds_from nss p k)
unfolding preds_from
preds_in [] p k i h m = absurd (not-suc-le-zero h)
preds_in (ns ∷ nss) p k zero h m = Memᴰ.append_left (preds_from nss (suc p) k) (Memᴰ.cast (omega arith) (times_in p k ns m))
preds_in (ns ∷ nss) p k (suc i) h m =
    Memᴰ.append_right (times p k ns) (Memᴰ.cast (omega arith) (preds_in nss (suc p) k i (le_of_suc-le-suc h) m))

pub record Edge (nss : List (List ℕ)) (p k q : ℕ) : Type 0 where
  pub from : ℕ
  pub inside : from < length nss
  pub is : q ≡ p + from
  pub edge : Memᴰ k (get_or nss from [])

pub in_preds : (nss : List (List ℕ)) (p k q : ℕ) → Memᴰ q (preds_from nss p k) → Edge nss p k q
unfolding preds_from
in_preds [] p k q m = absurd (Memᴰ.not-nil m)
in_preds (ns ∷ nss) p k q m =
    ⊎_elim (λ h. let r = in_times q p k ns h in record { from = 0; inside = zero-lt-suc (length nss); is = omega arith; edge = r.1 })
    (λ t. let r = in_preds nss (suc p) k q t in record { from = suc r.from; inside = suc-le-suc r.inside; is = omega arith; edge = r.edge })
    (Memᴰ.append_cases (times p k ns) m)

pub get_d_map_lt : {A B : Type 0} (f : A → B) (xs : List A) (k : ℕ) (d : A) (e : B) → k < length xs → get_or (map f xs) k e ≡ f (get_or xs k d)
get_d_map_lt f [] k d e h = absurd (not-suc-le-zero h)
get_d_map_lt f (x ∷ xs) zero d e h = refl
get_d_map_lt f (x ∷ xs) (suc k) d e h = get_d_map_lt f xs k d e (le_of_suc-le-suc h)

pub map_same : {B : Type 0} (f g : ℕ → B) (xs : List ℕ) → ((x : ℕ) → Memᴰ x xs → f x ≡ g x) → map f xs ≡ map g xs
map_same f g [] h = refl
map_same f g (x ∷ xs) h = ap₂ ◌∷◌ (h x (Memᴰ.head refl)) (map_same f g xs (λ y i. h y (Memᴰ.tail i)))

-- ---- the rest of a block

pub before_mono : (rs : List Bytecode) (m n : ℕ) → Sub m n → Sub (execute_all rs m) (execute_all rs n)
unfolding execute_all
before_mono [] m n p = p
before_mono (r ∷ rs) m n p = transfer_mono r (execute_all rs m) (execute_all rs n) (before_mono rs m n p)

pub before_lt : (l : ℕ) (rs : List Bytecode) → ((r : Bytecode) (m : ℕ) → Memᴰ r rs → m < 2 ^ l → execute r m < 2 ^ l) → (m : ℕ) → m < 2 ^ l → execute_all rs m < 2 ^ l
unfolding execute_all
before_lt l [] h m b = b
before_lt l (r ∷ rs) h m b = h r (execute_all rs m) (Memᴰ.head refl) (before_lt l rs (λ q n i. h q n (Memᴰ.tail i)) m b)

module _ (code : List Bytecode) where
  -- the instructions behind k, to the end of its block
  pub behind : ℕ → List Bytecode
  behind k = take (upper_of code k - k) (drop (suc k) code)

  pub rest_is : (k : ℕ) → k < length code → rest_of code k ≡ at code k ∷ behind k
  unfolding rest_of behind
  rest_is k h =
      let size : suc (upper_of code k) - k ≡ suc (upper_of code k - k) = omega (arith, upper_le code k) in
      ap₂ (λ (x : ℕ) (l : List Bytecode). take x l) size (drop-cons code k nop h)

  pub behind_last : (k : ℕ) → k < length code → Last code k → behind k ≡ []
  unfolding behind
  behind_last k h last =
      let size : upper_of code k - k ≡ 0 = omega (arith, upper_stop code k h last) in
      ap (λ (x : ℕ). take x (drop (suc k) code)) size

  pub behind_mid : (k : ℕ) → suc k < length code → starts code (suc k) ≡ false → behind k ≡ rest_of code (suc k)
  unfolding behind rest_of
  behind_mid k h e =
      let size : upper_of code k - k ≡ suc (upper_of code (suc k)) - suc k = omega (arith, upper_next code k h e, upper_le code (suc k)) in
      ap (λ (x : ℕ). take x (drop (suc k) code)) size

  -- a block ends at k, or goes on
  pub by_last : {P : Type 0} (k : ℕ) → k < length code → (Last code k → P) → (suc k < length code → starts code (suc k) ≡ false → P) → P
  unfolding Last
  by_last {P} k h stop on =
      by_eq (suc k) (length code) (λ e. stop (inl e))
      (λ g. by_test (λ b. starts code (suc k) ≡ b → P) (starts code (suc k)) (λ e q. stop (inr e)) (λ e q. on (omega arith) e) refl)

-- an instruction's sides from its set after
abbrev pub sides_by : Bytecode → ℕ → LiveVarInfo
sides_by r m = record { before = execute r m; after = m }

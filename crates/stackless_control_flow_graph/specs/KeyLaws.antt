-- Keys, one block after the other. Assumes nothing.
use Rattle.std.specs.Prelude.{◌≡◌, refl, ◌≢◌, ℕ, ◌+◌, ◌<◌, get_or, length, take, List, [], ◌∷◌, ◌++◌}
use Rattle.std.proofs.Common.{sym, ap, ◌∙◌, arith, take_all}
use Rattle.base.specs.Lists.{firsts, gather}
use Rattle.base.specs.GrowLaws.{gather_more, firsts_append}
use Rattle.stackless_bytecode.specs.declared.Bytecode.{Bytecode}
use Rattle.stackless_bytecode.specs.Successors.{successors}
use Rattle.stackless_control_flow_graph.specs.Blocks.{lowers, upper_of, keyed, key_of}

-- a key is not 0
pub key_pos : (ks : List ℕ) (o : ℕ) → key_of ks o ≢ 0
unfolding key_of
key_pos ks o e = omega arith

-- ---- what takes keys at the first b blocks: each block's successors, then the block

unfoldable pub takers : List Bytecode → ℕ → List ℕ
takers code b = gather (λ l. successors code (upper_of code l) ++ (l ∷ [])) (take b (lowers code))

pub keys_begin : (code : List Bytecode) → [] ≡ firsts [] (takers code 0)
unfolding takers firsts
keys_begin code = refl

pub keys_more : (code : List Bytecode) (b l : ℕ) {ks ks' : List ℕ} → b < length (lowers code) → l ≡ get_or (lowers code) b 0 → ks ≡ firsts [] (takers code b)
    → ks' ≡ firsts ks (successors code (upper_of code l) ++ (l ∷ [])) → ks' ≡ firsts [] (takers code (b + 1))
unfolding takers
keys_more code b l h is p q =
    let f : ℕ → List ℕ = λ o. successors code (upper_of code o) ++ (o ∷ []) in
    q ∙ ap (λ (seen : List ℕ). firsts seen (f l)) p ∙ ap (λ (o : ℕ). firsts (firsts [] (gather f (take b (lowers code)))) (f o)) is
    ∙ sym (ap (firsts []) (gather_more f (lowers code) b 0 h) ∙ firsts_append [] (gather f (take b (lowers code))) (f (get_or (lowers code) b 0)))

pub keys_end : (code : List Bytecode) (b : ℕ) {ks : List ℕ} → b ≡ length (lowers code) → ks ≡ firsts [] (takers code b) → ks ≡ keyed code
unfolding takers keyed
keys_end code b e p = p ∙ ap (λ (l : List ℕ). firsts [] (gather (λ o. successors code (upper_of code o) ++ (o ∷ [])) l)) (take_all b (lowers code) (omega arith))

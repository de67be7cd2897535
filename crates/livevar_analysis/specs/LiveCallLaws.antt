-- The bytes of an accepted sheet's live sets have term 3. Assumes nothing.
use Rattle.base.specs.declared.Refusal.{Refusal}
use Rattle.base.specs.declared.Refusal.TheVariants.{OutputShort}
use Rattle.std.specs.Prelude.{◌≡◌, refl, ℕ, ◌*◌, ◌≤◌, ◌<◌, List, [], ◌∷◌, ◌++◌, map, get_or, length, Err}
use Rattle.std.proofs.Common.{sym, ap, ap₂, ◌∙◌, subst, zero-add, arith, length-append}
use mathlib.Core.List.{Memᴰ}
use Rattle.base.specs.Sizes.{set_bytes, pair_bytes}
use Rattle.base.specs.Bytes.{part, bytes_of}
use Rattle.dataflow_domains.specs.ByteLaws.{bytes_length}
use Rattle.base.specs.PartLaws.{gather_length}
use Rattle.base.specs.Refusals.{Accepted, Reply, Done, lends}
use Rattle.base.specs.ReplyLaws.{call_refused, call_short, call_done}
use Rattle.base.specs.ListLaws.{get_d_tab}
use Rattle.dataflow_domains.specs.Mask.{bit, unions}
use Rattle.dataflow_domains.specs.MaskLaws.{sub_at}
use Rattle.stackless_bytecode.specs.declared.Bytecode.{Bytecode}
use Rattle.stackless_bytecode.specs.Kinds.{at}
use Rattle.stackless_bytecode.specs.Successors.{successors}
use Rattle.stackless_bytecode.specs.Sound.{Sound}
use Rattle.sheet.specs.Layout.{code_of, locals_of}
use Rattle.sheet.specs.Checks.{check_sheet}
use Rattle.sheet.specs.CheckLaws.{code_sound}
use Rattle.stackless_control_flow_graph.specs.StartLaws.{succs_within}
use Rattle.livevar_analysis.specs.Live.{execute, Obeys}
use Rattle.livevar_analysis.specs.Analysis.{LiveVarInfo, no_info, analyze, live_bytes, live_reply, info_in, infos_of}
use Rattle.livevar_analysis.specs.Term3Laws.{term3}
use Rattle.livevar_analysis.specs.OutputLaws.{live_read}
use Rattle.livevar_analysis.specs.Prepared.{LiveWritten}
use Rattle.livevar_analysis.specs.LiveCall.{before_at, after_at, LeastLive, TakenUntilEmpty}

-- ---- sets that agree at every offset obey alike

map_same : (b c : ℕ → ℕ) (xs : List ℕ) → ((o : ℕ) → Memᴰ o xs → b o ≡ c o) → map b xs ≡ map c xs
map_same b c [] h = refl
map_same b c (x ∷ xs) h = ap₂ (λ (y : ℕ) (ys : List ℕ). y ∷ ys) (h x (Memᴰ.head refl)) (map_same b c xs (λ o i. h o (Memᴰ.tail i)))

obeys_same : (code : List Bytecode) → Sound code → (b a c d : ℕ → ℕ) → ((k : ℕ) → k < length code → b k ≡ c k) → ((k : ℕ) → k < length code → a k ≡ d k) → Obeys code c d → Obeys code b a
obeys_same code sound b a c d eb ea ob = record {
  after = λ k h. ea k h ∙ ob.after k h ∙ ap unions (sym (map_same b c (successors code k) (λ o i. eb o ((succs_within code sound k h).each o i))));
  before = λ k h. eb k h ∙ ob.before k h ∙ ap (execute (at code k)) (sym (ea k h));
}

-- ---- the bytes of an accepted sheet

module _ (s : List ℕ) (e : check_sheet s ≡ Accepted) where
  module _ (z : List ℕ) where
    abbrev info : List LiveVarInfo
    info = (analyze (code_of s) (locals_of s)).info

    abbrev out : List ℕ
    out = live_bytes info ++ z

    read : (k : ℕ) → k < length (code_of s) → info_in (part out (pair_bytes * k) pair_bytes) ≡ get_or info k no_info
    unfolding infos_of
    read k h =
        sym (get_d_tab (length (code_of s)) 0 k (λ j. info_in (part out (pair_bytes * j) pair_bytes)) no_info h ∙ ap (λ (j : ℕ). info_in (part out (pair_bytes * j) pair_bytes)) (zero-add k))
        ∙ ap (λ (is : List LiveVarInfo). get_or is k no_info) (live_read s e (length (code_of s)) z refl)

    before_is : (k : ℕ) → k < length (code_of s) → before_at out k ≡ (get_or info k no_info).before
    before_is k h = ap (λ (x : LiveVarInfo). x.before) (read k h)

    after_is : (k : ℕ) → k < length (code_of s) → after_at out k ≡ (get_or info k no_info).after
    after_is k h = ap (λ (x : LiveVarInfo). x.after) (read k h)

    pub least_live : LeastLive s (live_bytes (analyze (code_of s) (locals_of s)).info ++ z)
    least_live = record {
      obeys = obeys_same (code_of s) (code_sound s e) (before_at out) (after_at out) (λ k. (get_or info k no_info).before) (λ k. (get_or info k no_info).after) before_is after_is (term3 s e).obeys;
      before = λ b a ob k i h x. sub_at ((term3 s e).least b a ob k h).0 i (sym (ap (λ (m : ℕ). bit m i) (before_is k h)) ∙ x);
      after = λ b a ob k i h x. sub_at ((term3 s e).least b a ob k h).1 i (sym (ap (λ (m : ℕ). bit m i) (after_is k h)) ∙ x);
    }

  -- so has an output that the live sets are written to
  pub written_least : (r : ℕ) (out₀ out' : List ℕ) → LiveWritten s r out₀ out' → LeastLive s out'
  written_least r out₀ out' w = subst (LeastLive s) (sym w.written) (least_live _)

  pub written_counted : (r : ℕ) (out₀ out' : List ℕ) → LiveWritten s r out₀ out' → TakenUntilEmpty s r
  written_counted r out₀ out' w = subst (TakenUntilEmpty s) (sym w.taken) (term3 s e).taken

  -- as many bytes as the sets of each instruction have
  pub live_length : length (live_bytes (analyze (code_of s) (locals_of s)).info) ≡ pair_bytes * length (code_of s)
  unfolding live_bytes
  live_length =
      gather_length pair_bytes (λ (x : LiveVarInfo). bytes_of set_bytes x.before ++ bytes_of set_bytes x.after)
      (λ x. length-append (bytes_of set_bytes x.before) (bytes_of set_bytes x.after) ∙ (omega (arith, bytes_length set_bytes x.before, bytes_length set_bytes x.after))) (analyze (code_of s) (locals_of s)).info
      ∙ ap (λ (x : ℕ). pair_bytes * x) (term3 s e).count

-- ---- the three replies

module _ (s : List ℕ) (lent : ℕ) where
  abbrev done : Reply
  done = Done (analyze (code_of s) (locals_of s)).taken (live_bytes (analyze (code_of s) (locals_of s)).info)

  pub live_refused : {e : Refusal} → check_sheet s ≡ Err e → live_reply s lent ≡ Err e
  unfolding live_reply
  live_refused e = call_refused (lends lent (pair_bytes * length (code_of s))) done e

  pub live_short : check_sheet s ≡ Accepted → lent < pair_bytes * length (code_of s) → live_reply s lent ≡ Err OutputShort
  unfolding live_reply
  live_short e h = call_short done e h

  pub live_done_lem : check_sheet s ≡ Accepted → pair_bytes * length (code_of s) ≤ lent → live_reply s lent ≡ done
  unfolding live_reply
  live_done_lem e h = call_done done e h

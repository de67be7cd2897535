-- The paper's worked sheets M1 to M8, proved together by one statement, `worked`, by computation. Assumes nothing.
use Rattle.std.specs.Prelude.{◌≡◌, refl, ℕ, List, [], ◌∷◌}
use Rattle.std.specs.Fmt.{digits}
use Rattle.base.specs.Sizes.{max_bytes}
use Rattle.base.specs.Bytes.{u16_at}
use Rattle.base.specs.Refusals.{Accepted, Done}
use Rattle.sheet.specs.Layout.{code_of, locals_of}
use Rattle.sheet.specs.Checks.{check_sheet}
use Rattle.stackless_control_flow_graph.specs.Blocks.{flow_reply}
use Rattle.livevar_analysis.specs.Analysis.{LiveVarInfo, Analyzed, analyze}
use Rattle.livevar_transform.specs.Rewrite.{rewrite_reply}
use Rattle.borrow_analysis.specs.Borrows.{dying_reply}
use Rattle.listing.specs.Lines.{livelist}
use Rattle.worked.specs.Samples.{m1, m2, m3, m4, m5, m6, m2_text, m4_new, m5_new, m6_new, chain}
use Rattle.worked.specs.Opened.{opened}

-- before and after
abbrev pub sets : ℕ → ℕ → LiveVarInfo
sets b a = record { before = b; after = a }

-- what live gives for a sheet
unfoldable pub live : List ℕ → Analyzed
live s = analyze (code_of s) (locals_of s)

pub record Worked : Type 0 where
  pub m1_accepted : check_sheet m1 ≡ Accepted
  pub m1_check_0 : u16_at m1 2 ≡ 4
  pub m1_check_1 : u16_at m1 514 ≡ 4
  pub m1_flow : flow_reply m1 6 ≡ Done 1 (0 ∷ 0 ∷ 2 ∷ 1 ∷ 0 ∷ 0 ∷ [])
  pub m1_taken : (live m1).taken ≡ 3
  pub m2_accepted : check_sheet m2 ≡ Accepted
  pub m2_flow : flow_reply m2 12 ≡ Done 2 (0 ∷ 1 ∷ 2 ∷ 2 ∷ 3 ∷ 0 ∷ 2 ∷ 3 ∷ 3 ∷ 1 ∷ 0 ∷ 0 ∷ [])
  pub m2_live : (live m2).info ≡ sets 3 3 ∷ sets 3 3 ∷ sets 2 2 ∷ sets 2 0 ∷ []
  pub m2_taken : (live m2).taken ≡ 7
  pub m2_printed : livelist m2 ≡ m2_text
  pub m3_accepted : check_sheet m3 ≡ Accepted
  pub m3_live : (live m3).info ≡ sets 0 3 ∷ sets 2 0 ∷ sets 1 1 ∷ sets 1 0 ∷ []
  pub m4_accepted : check_sheet m4 ≡ Accepted
  pub m4_live : (live m4).info ≡ sets 0 0 ∷ sets 0 0 ∷ []
  pub m4_rewritten : rewrite_reply m4 max_bytes ≡ Done 1024 m4_new
  pub m5_accepted : check_sheet m5 ≡ Accepted
  pub m5_rewritten : rewrite_reply m5 max_bytes ≡ Done 1024 m5_new
  pub m6_accepted : check_sheet m6 ≡ Accepted
  pub m6_rewritten : rewrite_reply m6 max_bytes ≡ Done 1024 m6_new
  pub m7_dying : dying_reply (chain 4) (chain 0) 3 ≡ Done 3 (2 ∷ 1 ∷ 0 ∷ [])
  pub m8_dying : dying_reply (chain 7) (chain 5) 3 ≡ Done 0 []

pub worked : Worked
unfolding live digits opened
worked = record {
  m1_accepted = refl;
  m1_check_0 = refl;
  m1_check_1 = refl;
  m1_flow = refl;
  m1_taken = refl;
  m2_accepted = refl;
  m2_flow = refl;
  m2_live = refl;
  m2_taken = refl;
  m2_printed = refl;
  m3_accepted = refl;
  m3_live = refl;
  m4_accepted = refl;
  m4_live = refl;
  m4_rewritten = refl;
  m5_accepted = refl;
  m5_rewritten = refl;
  m6_accepted = refl;
  m6_rewritten = refl;
  m7_dying = refl;
  m8_dying = refl;
}

use Rattle.std.proofs.Common.{◌≡◌, sym, ap, ◌∙◌, true, false, refl, ℕ, set, rules}
use Rattle.dataflow_domains.specs.Sets.{mask, is_changed}
use Rattle.dataflow_domains.specs.SetLaws.{mask_in}
use Rattle.dataflow_analysis.specs.Receipt.{news_at}
use Rattle.dataflow_analysis.specs.ReceiptLaws.{news_first, news_again, received_news, received_none}
use Rattle.dataflow_analysis.proofs.Worklist.receive.Goals as goal
use Rattle.dataflow_analysis.proofs.Worklist.receive.Goals.{then-not-self-at-via-then-not-self-at, then-not-self-at-via-else-not-self-at+then-eq}

pub put-self-requires : goal.put-self-requires
put-self-requires c =
    let w = c.args.self.now in
    let old_is = mask_in w.sets.now c.from-at.result c.args.p c.from-at.ensures in
    c.requires.room (elim c.then-not-self-at.branch [
      | then-not-self-at-via-then-not-self-at b ↦ news_first w c.args.p (mask c.args.m) (search rules)
      | then-not-self-at-via-else-not-self-at+then-eq b ↦
          let changed : is_changed c.join-result.result.result ≡ true = search rules in
          news_again w c.args.p (mask c.args.m) _ old_is (search rules) ∙ sym c.join-result.ensures.result ∙ changed
    ])

pub returns-then-not-self-at : goal.returns-then-not-self-at
returns-then-not-self-at c =
    let w = c.args.self.now in
    let old_is = mask_in w.sets.now c.from-at.result c.args.p c.from-at.ensures in
    let news : news_at w c.args.p (mask c.args.m) ≡ true = (elim c.then-not-self-at.branch [
      | then-not-self-at-via-then-not-self-at b ↦ news_first w c.args.p (mask c.args.m) (search rules)
      | then-not-self-at-via-else-not-self-at+then-eq b ↦
          let changed : is_changed c.join-result.result.result ≡ true = search rules in
          news_again w c.args.p (mask c.args.m) _ old_is (search rules) ∙ sym c.join-result.ensures.result ∙ changed
    ]) in
    received_news w c.args.p (mask c.args.m) _ old_is _ _ news c.join-result.ensures.state c.put-self.ensures
    (ap (λ (i : ℕ). set w.sets.now i c.join-result.result.state) c.from-at.ensures) (ap (λ (i : ℕ). set w.met.now i true) c.from-at.ensures)
    (record { sets = refl; met = refl; queue = refl; sets_long = search rules; met_long = search rules; queue_long = search rules })

pub returns-else-eq : goal.returns-else-eq
returns-else-eq c =
    let w = c.args.self.now in
    let old_is = mask_in w.sets.now c.from-at.result c.args.p c.from-at.ensures in
    let unchanged : is_changed c.join-result.result.result ≡ false = search rules in
    received_none w c.args.p (mask c.args.m) (news_again w c.args.p (mask c.args.m) _ old_is (search rules) ∙ sym c.join-result.ensures.result ∙ unchanged)

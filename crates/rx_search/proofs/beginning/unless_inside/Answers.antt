-- A set that isn't coverable counts for nothing; else its ranks decide.
use Rattle.std.proofs.Common.{◌∙◌, Ok, [], subst, sym}
use Rattle.rx_cert.specs.Findings.{Beyond, No, Yes}
use Rattle.rx_has_ranks.specs.HasRanks.{HasRanksAnswer}
use Rattle.rx_rank.specs.Ranking.{ranked}
use Rattle.rx_rank.specs.declared.kind.RankingKind.TheVariants.{Plain}
use Rattle.rx_search.proofs.BegunLaws.{begun_covered, begun_uncovered}
use Rattle.rx_search.proofs.beginning.unless_inside.Goals as goal

pub returns-then-not-covered-clause-begun : goal.returns-then-not-covered-clause-begun
returns-then-not-covered-clause-begun g c =
    begun_uncovered c.args.inside.now.rules c.args.noted c.args.inside.now.domains.rows
    (sym c.in_ok-covered.ensures.covered ∙ c.if-not-covered.true)

pub returns-in-Ok-true-clause-ready : goal.returns-in-Ok-true-clause-ready
returns-in-Ok-true-clause-ready g c = λ _. record {
  coverable = sym c.in_ok-covered.ensures.covered ∙ c.if-not-covered.false;
  ranked =
      subst (λ b. HasRanksAnswer (ranked Plain c.args.inside.now.rules []) (Ok b))
      c.in-Ok-true.field-0-test c.in-Ok-true.ensures.answer;
}

pub returns-in-Ok-true-clause-begun : goal.returns-in-Ok-true-clause-begun
returns-in-Ok-true-clause-begun g c =
    begun_covered c.args.inside.now.rules c.args.noted c.args.inside.now.domains.rows Yes
    (sym c.in_ok-covered.ensures.covered ∙ c.if-not-covered.false)
    (subst (λ b. HasRanksAnswer (ranked Plain c.args.inside.now.rules []) (Ok b))
    c.in-Ok-true.field-0-test c.in-Ok-true.ensures.answer)

pub returns-in-Ok-false-clause-begun : goal.returns-in-Ok-false-clause-begun
returns-in-Ok-false-clause-begun g c =
    begun_covered c.args.inside.now.rules c.args.noted c.args.inside.now.domains.rows No
    (sym c.in_ok-covered.ensures.covered ∙ c.if-not-covered.false)
    (subst (λ b. HasRanksAnswer (ranked Plain c.args.inside.now.rules []) (Ok b))
    c.in-Ok-false.field-0-test c.in-Ok-false.ensures.answer)

pub returns-in-Err-Large-clause-begun : goal.returns-in-Err-Large-clause-begun
returns-in-Err-Large-clause-begun g c =
    begun_covered c.args.inside.now.rules c.args.noted c.args.inside.now.domains.rows Beyond
    (sym c.in_ok-covered.ensures.covered ∙ c.if-not-covered.false)
    (c.in-Err-Large.ensures.answer c.in-Err-Large.field-0-is)

-- Whether the rules alone have ranks decides first.
use Rattle.std.proofs.Common.{Ok, [], subst}
use Rattle.rx_cert.specs.Findings.{Beyond, No, Yes}
use Rattle.rx_has_ranks.specs.HasRanks.{HasRanksAnswer}
use Rattle.rx_rank.specs.Ranking.{ranked}
use Rattle.rx_rank.specs.declared.kind.RankingKind.TheVariants.{Plain}
use Rattle.rx_search.proofs.BegunLaws.{begins}
use Rattle.rx_search.proofs.beginning.begin_plain.Goals as goal

pub returns-in-Ok-true-clause-begun : goal.returns-in-Ok-true-clause-begun
returns-in-Ok-true-clause-begun g c =
    let yes = subst (λ b. HasRanksAnswer (ranked Plain c.args.rules.now []) (Ok b))
    c.in-Ok-true.field-0-test c.in-Ok-true.ensures.answer in
    (begins c.args.rules.now c.args.goal.now Yes yes, yes)

pub begin_inside-requires-clause-begun : goal.begin_inside-requires-clause-begun
begin_inside-requires-clause-begun g c =
    begins c.args.rules.now c.args.goal.now No
    (subst (λ b. HasRanksAnswer (ranked Plain c.args.rules.now []) (Ok b))
    c.in-Ok-false.field-0-test c.in-Ok-false.ensures.answer)

pub begin_inside-requires-in-Err-Large-clause-begun :
    goal.begin_inside-requires-in-Err-Large-clause-begun
begin_inside-requires-in-Err-Large-clause-begun g c =
    begins c.args.rules.now c.args.goal.now Beyond
    (c.in-Err-Large.ensures.answer c.in-Err-Large.field-0-is)

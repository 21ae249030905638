use Rattle.std.proofs.Common.{Some, ap}
use Rattle.rx_find_cover.proofs.Paired.{paired_coverable}
use Rattle.rx_term.specs.Paired.{IsPaired}
use Rattle.rx_term.specs.declared.rule_set.RuleParts.{RuleParts}
use Rattle.rx_cli.specs.Problems.{rows_of}
use Rattle.rx_cli.specs.Steps.{FormsSome, Translates}
use Rattle.rx_cli.proofs.Sound.{fits_goal, is_problem}
use Rattle.rx_cli.proofs.problems.problem_stage.Goals as goal

pub returns-clause-stage : goal.returns-clause-stage
returns-clause-stage c =
    let translated : Translates c.args.integers c.args.compared.now (Some c.in-Some.translation) =
    rw c.in-Some.is at c.in_ok-translation.ensures.translates in
    let forms : FormsSome (Some c.in-Some-2.rows) (rows_of c.args.compared.now.precondition) =
    rw c.in-Some-2.is at c.in_ok-rows.ensures in
    is_problem c.args.integers c.args.compared.now c.in-Some.translation translated
    c.in-Some-2.rows forms c.parameter_count-count.result c.parameter_count-count.ensures
    c.in_ok-bounded.bounded c.in_ok-bounded.ensures c.in_ok-goal.goal c.in_ok-goal.ensures

pub returns-clause-fits : goal.returns-clause-fits
returns-clause-fits c =
    let translated : Translates c.args.integers c.args.compared.now (Some c.in-Some.translation) =
    rw c.in-Some.is at c.in_ok-translation.ensures.translates in
    fits_goal c.args.integers c.args.compared.now c.requires c.in-Some.translation translated
    c.parameter_count-count.result c.parameter_count-count.ensures c.in_ok-bounded.bounded
    c.in_ok-goal.goal c.in_ok-goal.ensures

pub returns-clause-coverable : goal.returns-clause-coverable
returns-clause-coverable c =
    let paired : IsPaired c.in-Some.translation.rules =
    rw c.in-Some.is at c.in_ok-translation.ensures.paired in
    let translated : Translates c.args.integers c.args.compared.now (Some c.in-Some.translation) =
    rw c.in-Some.is at c.in_ok-translation.ensures.translates in
    paired_coverable c.in-Some.translation.rules paired
    (ap (λ (parts : RuleParts). parts.domains) translated.parts_are)

pub returns-clause-no_domains : goal.returns-clause-no_domains
returns-clause-no_domains c =
    let translated : Translates c.args.integers c.args.compared.now (Some c.in-Some.translation) =
    rw c.in-Some.is at c.in_ok-translation.ensures.translates in
    ap (λ (parts : RuleParts). parts.domains) translated.parts_are

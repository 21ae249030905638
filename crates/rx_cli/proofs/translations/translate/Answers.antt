use Rattle.std.proofs.Common.{inl, inr, refl}
use Rattle.std.proofs.lemmas.Result.{IfOk-weaker}
use Rattle.c_front.specs.declared.stages.Next.TheVariants.{Ends, Goes}
use Rattle.rx_command.specs.Commands.{functions_view}
use Rattle.rx_cli.specs.Problems.{asked}
use Rattle.rx_proofs.specs.Goals.{IsFitting}
use Rattle.rx_cli.proofs.Induced.{asked_bare, text_written}
use Rattle.rx_cli.proofs.OneReport.{problem_made}
use Rattle.rx_cli.proofs.translations.translate.Goals as goal

pub returns-in-Ends-clause-answer : goal.returns-in-Ends-clause-answer
returns-in-Ends-clause-answer c =
    let ended : asked (functions_view c.args.functions.now) c.args.source.now
    (Ends c.in-Ends.verdict) = rw c.in-Ends.is at c.in_ok-verdict.ensures.stage in
    inl (c.in-Ends.verdict, ended, refl)

pub returns-in-Goes-clause-answer : goal.returns-in-Goes-clause-answer
returns-in-Goes-clause-answer c =
    let found : asked (functions_view c.args.functions.now) c.args.source.now
    (Goes c.in-Goes.problem) = rw c.in-Goes.is at c.in_ok-verdict.ensures.stage in
    let fits : IsFitting c.in-Goes.problem.rules c.in-Goes.problem.goal =
    rw c.in-Goes.is at c.in_ok-verdict.ensures.fits in
    IfOk-weaker c.write.result _ _ (λ answer on. inr (
      c.in-Goes.problem,
      found,
      text_written c.in-Goes.problem answer
          (problem_made (functions_view c.args.functions.now) c.args.source.now
          c.in-Goes.problem found) fits on,
    ))
    c.write.ensures.answer

pub write-requires : goal.write-requires
write-requires c =
    let found : asked (functions_view c.args.functions.now) c.args.source.now
    (Goes c.in-Goes.problem) = rw c.in-Goes.is at c.in_ok-verdict.ensures.stage in
    asked_bare (functions_view c.args.functions.now) c.args.source.now c.in-Goes.problem found

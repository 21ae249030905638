use Rattle.rx_command.specs.Commands.{functions_view}
use Rattle.rx_io.specs.Outside.{Rose}
use Rattle.std.proofs.lemmas.Result.{IfOk-weaker}
use Rattle.c_front.specs.declared.stages.Next.TheVariants.{Ends, Goes}
use Rattle.rx_cli.specs.Problems.{asked}
use Rattle.rx_cli.proofs.AnswerLemmas.{checks_asked, checks_posed}
use Rattle.rx_cli.proofs.LogFileVerdicts.{read_said}
use Rattle.rx_cli.proofs.answers.check_named.Goals as goal

pub returns-in-Ends-clause-verdict : goal.returns-in-Ends-clause-verdict
returns-in-Ends-clause-verdict g c =
    let ended : asked (functions_view c.args.functions.now) c.args.source.now
    (Ends c.in-Ends.verdict) = rw c.in-Ends.is at c.in_ok-verdict.ensures.stage in
    checks_asked (g.F.Files.held c.args.files.now)
    (Rose (g.F.Files.faults c.args.files.now) (g.F.Files.faults c.args.files.now))
    (functions_view c.args.functions.now) c.args.source.now c.args.log.now
    c.in-Ends.verdict ended

pub returns-in-Goes-clause-verdict : goal.returns-in-Goes-clause-verdict
returns-in-Goes-clause-verdict g c =
    let found : asked (functions_view c.args.functions.now) c.args.source.now
    (Goes c.in-Goes.problem) = rw c.in-Goes.is at c.in_ok-verdict.ensures.stage in
    IfOk-weaker c.on_named.result _ _
    (λ verdict read. checks_posed (g.F.Files.held c.args.files.now)
    (Rose (g.F.Files.faults c.args.files.now) (g.F.Files.faults c.on_named.new.files))
    (functions_view c.args.functions.now) c.args.source.now c.args.log.now
    verdict c.in-Goes.problem found
    (read_said (g.F.Files.held c.args.files.now)
    (Rose (g.F.Files.faults c.args.files.now) (g.F.Files.faults c.on_named.new.files))
    c.args.log.now c.in-Goes.problem verdict read))
    c.on_named.ensures.verdict

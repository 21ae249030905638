use Rattle.rx_io.specs.Outside.{Rose}
use Rattle.c_front.specs.declared.stages.Next.TheVariants.{Ends, Goes}
use Rattle.rx_cli.specs.Problems.{posed}
use Rattle.rx_cli.proofs.LogFileVerdicts.{read_said}
use Rattle.rx_cli.proofs.RuleAnswers.{replays_ended, replays_posed}
use Rattle.rx_cli.proofs.inductions.replay.Goals as goal

pub returns-in-Ends-clause-verdict : goal.returns-in-Ends-clause-verdict
returns-in-Ends-clause-verdict g c =
    let ended : posed c.args.source.now (Ends c.in-Ends.verdict) =
    rw c.in-Ends.is at c.in_ok-verdict.ensures.stage in
    replays_ended (g.F.Files.held c.args.files.now)
    (Rose (g.F.Files.faults c.args.files.now) (g.F.Files.faults c.args.files.now))
    c.args.source.now c.args.log.now c.in-Ends.verdict ended

pub returns-in_ok-on_named-in-Goes-clause-verdict :
    goal.returns-in_ok-on_named-in-Goes-clause-verdict
returns-in_ok-on_named-in-Goes-clause-verdict g c =
    let found : posed c.args.source.now (Goes c.in-Goes.problem) =
    rw c.in-Goes.is at c.in_ok-verdict.ensures.stage in
    replays_posed (g.F.Files.held c.args.files.now)
    (Rose (g.F.Files.faults c.args.files.now) (g.F.Files.faults c.on_named.new.files))
    c.args.source.now c.args.log.now c.of_induction.result c.in-Goes.problem found
    c.in_ok-on_named-in-Goes.field-0 c.of_induction.ensures.value
    (read_said (g.F.Files.held c.args.files.now)
    (Rose (g.F.Files.faults c.args.files.now) (g.F.Files.faults c.on_named.new.files))
    c.args.log.now c.in-Goes.problem c.in_ok-on_named-in-Goes.field-0
    c.in_ok-on_named-in-Goes.ensures.verdict)

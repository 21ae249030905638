use Rattle.rx_command.specs.Commands.{Replay}
use Rattle.rx_io.specs.Outside.{Rose}
use Rattle.c_front.specs.declared.stages.Next.TheVariants.{Ends, Goes}
use Rattle.rx_report.specs.declared.verdicts.Verdict.TheVariants as Said
use Rattle.rx_cli.specs.Problems.{longest_source}
use Rattle.rx_cli.specs.Steps.{Reads}
use Rattle.rx_cli.proofs.RuleAnswers.{answers_replayed, replays_later, rules_unread}
use Rattle.rx_cli.proofs.answers.execute_replay.Goals as goal

pub returns-in-Ends-clause-answer : goal.returns-in-Ends-clause-answer
returns-in-Ends-clause-answer g c =
    let reads : Reads (g.F.Files.held c.args.files.now)
    (Rose (g.F.Files.faults c.args.files.now) (g.F.Files.faults c.read_source.new.files))
    c.args.file.now longest_source Said.LongSource (Ends c.in-Ends.verdict) =
    rw c.in-Ends.is at c.in_ok-verdict.ensures.read in
    rules_unread (g.F.Files.held c.args.files.now)
    (Rose (g.F.Files.faults c.args.files.now) (g.F.Files.faults c.read_source.new.files))
    (Replay c.args.file.now c.args.log.now) c.in-Ends.verdict reads

pub returns-in_ok-replay-in-Goes-clause-answer :
    goal.returns-in_ok-replay-in-Goes-clause-answer
returns-in_ok-replay-in-Goes-clause-answer g c =
    let reads : Reads (g.F.Files.held c.args.files.now)
    (Rose (g.F.Files.faults c.args.files.now) (g.F.Files.faults c.read_source.new.files))
    c.args.file.now longest_source Said.LongSource (Goes c.in-Goes.source.items) =
    rw c.in-Goes.is at c.in_ok-verdict.ensures.read in
    answers_replayed (g.F.Files.held c.args.files.now)
    (Rose (g.F.Files.faults c.args.files.now) (g.F.Files.faults c.replay.new.files))
    c.args.file.now c.in-Goes.source.items c.deref.result.now
    reads.0 reads.1 c.deref.ensures.value c.args.log.now c.in_ok-replay-in-Goes.field-0
    (replays_later (g.F.Files.held c.args.files.now) (g.F.Files.held c.read_source.new.files)
    (g.F.Files.faults c.args.files.now) (g.F.Files.faults c.read_source.new.files)
    (g.F.Files.faults c.replay.new.files) c.deref.result.now c.args.log.now
    c.in_ok-replay-in-Goes.field-0 c.in_ok-verdict.ensures.held c.in_ok-verdict.ensures.later
    c.in_ok-replay-in-Goes.ensures.verdict)

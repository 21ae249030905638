use Rattle.rx_command.specs.Commands.{Refute, functions_view}
use Rattle.rx_io.specs.Outside.{Rose}
use Rattle.std.proofs.lemmas.Result.{IfOk-weaker}
use Rattle.c_front.specs.declared.stages.Next.TheVariants.{Ends, Goes}
use Rattle.rx_report.specs.declared.verdicts.Verdict.TheVariants as Said
use Rattle.rx_cli.specs.Problems.{longest_source}
use Rattle.rx_cli.specs.Steps.{Reads}
use Rattle.rx_cli.proofs.AnswerLemmas.{answers_refuted, answers_unread}
use Rattle.rx_cli.proofs.answers.execute_refute.Goals as goal

pub returns-in-Ends-clause-answer : goal.returns-in-Ends-clause-answer
returns-in-Ends-clause-answer g c =
    let reads : Reads (g.F.Files.held c.args.files.now)
    (Rose (g.F.Files.faults c.args.files.now) (g.F.Files.faults c.read_source.new.files))
    c.args.functions.now.file.now longest_source Said.LongSource (Ends c.in-Ends.verdict) =
    rw c.in-Ends.is at c.in_ok-verdict.ensures.read in
    answers_unread (g.F.Files.held c.args.files.now)
    (Rose (g.F.Files.faults c.args.files.now) (g.F.Files.faults c.read_source.new.files))
    (Refute (functions_view c.args.functions.now) c.args.extent)
    c.in-Ends.verdict reads

pub returns-in-Goes-clause-answer : goal.returns-in-Goes-clause-answer
returns-in-Goes-clause-answer g c =
    let reads : Reads (g.F.Files.held c.args.files.now)
    (Rose (g.F.Files.faults c.args.files.now) (g.F.Files.faults c.read_source.new.files))
    c.args.functions.now.file.now longest_source Said.LongSource (Goes c.in-Goes.source.items) =
    rw c.in-Goes.is at c.in_ok-verdict.ensures.read in
    IfOk-weaker c.refute.result _ _
    (λ answer refuted. answers_refuted (g.F.Files.held c.args.files.now)
    (Rose (g.F.Files.faults c.args.files.now) (g.F.Files.faults c.read_source.new.files))
    (functions_view c.args.functions.now) c.in-Goes.source.items
    c.deref.result.now reads.0 reads.1 c.deref.ensures.value c.args.extent answer refuted)
    c.refute.ensures.answer

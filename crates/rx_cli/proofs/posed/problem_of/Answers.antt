-- The text is read, and poses a problem or none.
use Rattle.rx_command.specs.Commands.{functions_view}
use Rattle.rx_io.specs.Outside.{Rose}
use Rattle.std.proofs.lemmas.Result.{IfOk-weaker}
use Rattle.c_front.specs.declared.stages.Next.TheVariants.{Ends, Goes}
use Rattle.rx_report.specs.declared.verdicts.Verdict.TheVariants as Said
use Rattle.rx_cli.specs.Problems.{asked, longest_source}
use Rattle.rx_cli.specs.Steps.{Reads}
use Rattle.rx_cli.proofs.PosedLemmas.{poses_read, poses_unread}
use Rattle.rx_cli.proofs.posed.problem_of.Goals as goal

pub returns-in-Ends-clause-poses : goal.returns-in-Ends-clause-poses
returns-in-Ends-clause-poses g c =
    let reads : Reads (g.F.Files.held c.args.files.now)
    (Rose (g.F.Files.faults c.args.files.now) (g.F.Files.faults c.read_source.new.files))
    c.args.functions.now.file.now longest_source Said.LongSource (Ends c.in-Ends.field-0) =
    rw c.in-Ends.is at c.in_ok-read_source.ensures.read in
    poses_unread (g.F.Files.held c.args.files.now)
    (Rose (g.F.Files.faults c.args.files.now) (g.F.Files.faults c.read_source.new.files))
    c.args.functions.now.file.now (asked (functions_view c.args.functions.now)) c.in-Ends.field-0 reads

pub returns-in-Goes-clause-poses : goal.returns-in-Goes-clause-poses
returns-in-Goes-clause-poses g c =
    let reads : Reads (g.F.Files.held c.args.files.now)
    (Rose (g.F.Files.faults c.args.files.now) (g.F.Files.faults c.read_source.new.files))
    c.args.functions.now.file.now longest_source Said.LongSource (Goes c.in-Goes.source.items) =
    rw c.in-Goes.is at c.in_ok-read_source.ensures.read in
    IfOk-weaker c.problem_in.result _ _
    (λ problem poses. poses_read (g.F.Files.held c.args.files.now)
    (Rose (g.F.Files.faults c.args.files.now) (g.F.Files.faults c.read_source.new.files))
    c.args.functions.now.file.now (asked (functions_view c.args.functions.now))
    c.in-Goes.source.items c.deref.result.now problem
    reads.0 c.deref.ensures.value poses) c.problem_in.ensures

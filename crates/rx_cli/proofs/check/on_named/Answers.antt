use Rattle.rx_io.specs.Outside.{Rose}
use Rattle.std.proofs.lemmas.Result.{IfOk-weaker}
use Rattle.rx_cli.proofs.LogFileVerdicts.{accepted_said, end_said}
use Rattle.rx_cli.proofs.check.on_named.Goals as goal

pub returns-in-Ok-clause-verdict : goal.returns-in-Ok-clause-verdict
returns-in-Ok-clause-verdict g c =
    accepted_said (g.F.Files.held c.args.files.now)
    (Rose (g.F.Files.faults c.args.files.now) (g.F.Files.faults c.replay_file.new.files))
    c.args.name.now c.args.problem c.in-Ok.ensures.ends

pub returns-clause-verdict : goal.returns-clause-verdict
returns-clause-verdict g c =
    IfOk-weaker c.verdict_on_file.result _ _
    (λ verdict is. (end_said (g.F.Files.held c.args.files.now)
    (Rose (g.F.Files.faults c.args.files.now) (g.F.Files.faults c.replay_file.new.files))
    c.args.name.now c.args.problem c.in-Err.end verdict is c.in-Err.ensures.ends).0)
    c.verdict_on_file.ensures

pub returns-clause-line : goal.returns-clause-line
returns-clause-line g c =
    IfOk-weaker c.verdict_on_file.result _ _
    (λ verdict is. (end_said (g.F.Files.held c.args.files.now)
    (Rose (g.F.Files.faults c.args.files.now) (g.F.Files.faults c.replay_file.new.files))
    c.args.name.now c.args.problem c.in-Err.end verdict is c.in-Err.ensures.ends).1)
    c.verdict_on_file.ensures

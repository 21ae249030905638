-- The step was found, or why it wasn't.
use Rattle.rx_io.specs.Outside.{Rose}
use Rattle.rx_messages.proofs.FactLemmas.{step_found, step_missed}
use Rattle.rx_messages.proofs.logs.step_found.Goals as goal

pub returns-in-Ok-step_in_file-clause-finds : goal.returns-in-Ok-step_in_file-clause-finds
returns-in-Ok-step_in_file-clause-finds g c =
    step_found (g.F.Files.held c.args.files.now)
    (Rose (g.F.Files.faults c.args.files.now) (g.F.Files.faults c.step_in_file.new.files))
    c.args.name.now c.args.posed.now c.args.number c.in-Ok.goal c.in-Ok-step_in_file.found
    c.in-Ok.ensures c.in-Ok-step_in_file.ensures.finds

pub returns-in-Err-clause-finds : goal.returns-in-Err-clause-finds
returns-in-Err-clause-finds g c =
    step_missed (g.F.Files.held c.args.files.now)
    (Rose (g.F.Files.faults c.args.files.now) (g.F.Files.faults c.step_in_file.new.files))
    c.args.name.now c.args.posed.now c.args.number c.in-Ok.goal c.in-Err.end
    c.silence_of_look.result c.in-Ok.ensures c.silence_of_look.ensures c.in-Err.ensures.finds

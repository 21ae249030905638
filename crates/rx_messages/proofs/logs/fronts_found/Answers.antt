-- It isn't known where the lines begin.
use Rattle.rx_io.specs.Outside.{Rose}
use Rattle.rx_messages.proofs.FactLemmas.{fronts_missed}
use Rattle.rx_messages.proofs.logs.fronts_found.Goals as goal

pub returns-in-Err-clause-finds : goal.returns-in-Err-clause-finds
returns-in-Err-clause-finds g c =
    fronts_missed (g.F.Files.held c.args.files.now)
    (Rose (g.F.Files.faults c.args.files.now) (g.F.Files.faults c.fronts_in_file.new.files))
    c.args.name.now c.in-Err.end c.silence_of_look.result c.silence_of_look.ensures
    c.in-Err.ensures.finds

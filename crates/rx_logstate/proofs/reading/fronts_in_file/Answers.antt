-- The first step was looked at.
use Rattle.std.proofs.Common.{subst, sym}
use Rattle.std.specs.Prelude.{Ok}
use Rattle.rx_io.specs.Outside.{Rose}
use Rattle.rx_logstate.specs.AtSteps.{FindsFronts}
use Rattle.rx_logstate.specs.declared.front_lines.Fronts.{Fronts}
use Rattle.rx_logstate.proofs.FrontLemmas.{fronts_found, fronts_missed}
use Rattle.rx_logstate.proofs.reading.fronts_in_file.Goals as goal

pub returns-in-Ok-clause-finds : goal.returns-in-Ok-clause-finds
returns-in-Ok-clause-finds g c =
    subst (λ (fronts : Fronts). FindsFronts (g.F.Files.held c.args.files.now)
    (Rose (g.F.Files.faults c.args.files.now) (g.F.Files.faults c.step_in_file.new.files))
    c.args.name.now c.args.limit (Ok fronts)) (sym c.fronts_at.ensures)
    (fronts_found (g.F.Files.held c.args.files.now)
    (Rose (g.F.Files.faults c.args.files.now) (g.F.Files.faults c.step_in_file.new.files))
    c.args.name.now c.args.limit c.no_rules-rules.result c.plain_goal-goal.result c.in-Ok.found
    c.in-Ok.ensures.finds)

pub returns-clause-finds : goal.returns-clause-finds
returns-clause-finds g c =
    fronts_missed (g.F.Files.held c.args.files.now)
    (Rose (g.F.Files.faults c.args.files.now) (g.F.Files.faults c.step_in_file.new.files))
    c.args.name.now c.args.limit c.no_rules-rules.result c.plain_goal-goal.result c.in-Err.end
    c.in-Err.ensures.finds

use Rattle.rx_command.specs.Commands.{Compare, Refute, Translate}
use Rattle.rx_command.proofs.Modes.{asks_plainly}
use Rattle.rx_command.proofs.laws.other_modes_are_unbounded.Goals as goal

pub returns-clause-runs : goal.returns-clause-runs
returns-clause-runs c = λ words f extent. asks_plainly words (Compare (Refute f extent))

pub returns-clause-rules : goal.returns-clause-rules
returns-clause-rules c = λ words f. asks_plainly words (Translate f)

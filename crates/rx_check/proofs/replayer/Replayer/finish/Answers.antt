use Rattle.rx_check.specs.Replay.{log_of}
use Rattle.rx_check.proofs.DomainAnswers.{all_accepted}
use Rattle.rx_check.proofs.Proofs.{accepted_ends_alike}
use Rattle.rx_check.proofs.replayer.Replayer.finish.Goals as goal

pub returns-clause-sound : goal.returns-clause-sound
returns-clause-sound c = λ goal its stands fits.
    accepted_ends_alike c.args.rules.now goal (log_of its) c.parts-parts.ensures.made
    c.requires.plain fits
    (all_accepted c.args.rules.now goal its c.args.self stands c.requires.place c.in-None.is)

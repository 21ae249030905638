-- What came of the step where the goal is alone.
use Rattle.rx_moves.specs.Moves.{move_of}
use Rattle.rx_search.proofs.Finding.{right_alone, seen_alone}
use Rattle.rx_search.proofs.known.try_at.Goals as goal

pub returns-in-Ok-clause-seen : goal.returns-in-Ok-clause-seen
returns-in-Ok-clause-seen g c =
    let a = c.args in
    let one = a.candidate in
    seen_alone a.rules.now a.goal.now a.state c.try_step.new.state one.number one.keeps
    (move_of one.step) c.in-Ok.trial c.requires.state c.in-Ok.ensures.trial c.new.result
    c.new.ensures

pub returns-in-Ok-clause-right : goal.returns-in-Ok-clause-right
returns-in-Ok-clause-right g c =
    let a = c.args in
    let one = a.candidate in
    right_alone a.rules.now a.goal.now a.state c.try_step.new.state one.number one.keeps
    (move_of one.step) c.in-Ok.trial c.requires.state c.in-Ok.ensures.trial c.requires.can.unkept
    c.new.result c.new.ensures

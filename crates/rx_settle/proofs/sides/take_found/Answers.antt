-- A step that is found is taken, or there is none.
use Rattle.std.proofs.Common.{refl}
use Rattle.rx_settle.proofs.FirstLaws.{found_taken, found_untaken}
use Rattle.rx_settle.proofs.sides.take_found.Goals as goal

pub returns-in_ok-take_shown-in-Some-clause-trial : goal.returns-in_ok-take_shown-in-Some-clause-trial
returns-in_ok-take_shown-in-Some-clause-trial c = λ parts tried is_found.
    found_taken parts c.args.state.now tried c.args.found c.in-Some.ready c.take_shown.new.state
    c.in_ok-take_shown-in-Some.field-0 c.after.result
    c.in-Some.is c.in_ok-take_shown-in-Some.ensures.ok
    c.in_ok-take_shown-in-Some.ensures.trial c.after.ensures is_found

pub returns-in-None-clause-trial : goal.returns-in-None-clause-trial
returns-in-None-clause-trial c = λ parts tried is_found.
    found_untaken parts c.args.state.now tried c.args.found _ c.in-None.is refl is_found

-- The only place decides.
use Rattle.rx_settle.proofs.CandidateLaws.{on_no_place, on_place_answer}
use Rattle.rx_settle.proofs.uses.find_in.Goals as goal

pub returns-in-Some-clause-candidate : goal.returns-in-Some-clause-candidate
returns-in-Some-clause-candidate g c =
    on_place_answer c.args.by.now c.args.goal.now c.args.hypothesis.now c.args.side c.in_ok-place.field-0
    c.in_ok-place.ensures c.in-Some.place c.find_at.result
    c.in-Some.is c.find_at.ensures.candidate

pub returns-in-None-clause-candidate : goal.returns-in-None-clause-candidate
returns-in-None-clause-candidate g c =
    on_no_place c.args.by.now c.args.goal.now c.args.hypothesis.now c.args.side c.in_ok-place.field-0
    c.in_ok-place.ensures c.in-None.is

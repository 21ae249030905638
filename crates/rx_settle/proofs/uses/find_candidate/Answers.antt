-- At the first goal, of the hypothesis with that number.
use Rattle.std.proofs.Common.{◌∙◌, ap, length, refl, sym}
use borrow.Author.Tests.{ltb-false}
use Rattle.std.proofs.lemmas.Option.{slice_get_past, slice_get_read}
use Rattle.std.specs.Option.{option_copied}
use Rattle.rx_settle.proofs.CandidateLaws.{no_first, no_hypothesis, of_answer}
use Rattle.rx_settle.proofs.uses.find_candidate.Goals as goal

pub returns-in_default-clause-candidate : goal.returns-in_default-clause-candidate
returns-in_default-clause-candidate g c =
    no_first c.args.by.now c.args.state.now c.args.number c.args.side
    (sym c.first.ensures ∙ ap option_copied c.in_default.is)

pub returns-in-Some-get-clause-candidate : goal.returns-in-Some-get-clause-candidate
returns-in-Some-get-clause-candidate g c =
    of_answer c.args.by.now c.args.state.now c.args.number c.args.side c.in-Some.goal.now c.in-Some.ensures
    c.hypotheses.result.now c.in-Some-get.hypothesis.now c.find_in.result
    c.hypotheses.ensures
    (sym (slice_get_read c.hypotheses.result.now (length c.hypotheses.result.now) c.args.number
    c.in-Some-get.hypothesis.now refl c.in-Some-get.ensures.lookup.3.0
    c.in-Some-get.ensures.lookup.1))
    c.find_in.ensures.candidate

pub returns-in-None-clause-candidate : goal.returns-in-None-clause-candidate
returns-in-None-clause-candidate g c =
    no_hypothesis c.args.by.now c.args.state.now c.args.number c.args.side c.in-Some.goal.now c.in-Some.ensures
    c.hypotheses.result.now
    c.hypotheses.ensures (slice_get_past c.hypotheses.result.now c.args.number
    (ltb-false c.args.number (length c.hypotheses.result.now) (sym c.in-None.ensures.lookup.0)))

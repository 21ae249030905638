-- What comes of the use by that matching.
use Rattle.rx_settle.proofs.CandidateLaws.{at_answer}
use Rattle.rx_settle.specs.Uses.{use_by}
use Rattle.rx_settle.specs.declared.uses.Matching.TheVariants.{BothSides, PartAlone}
use Rattle.rx_settle.proofs.uses.find_at.Goals as goal

pub returns-in-PartAlone-clause-candidate : goal.returns-in-PartAlone-clause-candidate
returns-in-PartAlone-clause-candidate g c =
    let a = c.args in
    at_answer a.by.now a.goal.now a.hypothesis.now a.side a.place PartAlone
    c.candidate_of.result c.in-PartAlone.is
    (c.candidate_of.ensures
    (use_by PartAlone a.by.now.rules.now a.goal.now a.hypothesis.now a.side a.place)
    c.find_use.ensures.answer)

pub returns-in-BothSides-clause-candidate : goal.returns-in-BothSides-clause-candidate
returns-in-BothSides-clause-candidate g c =
    let a = c.args in
    at_answer a.by.now a.goal.now a.hypothesis.now a.side a.place BothSides
    c.candidate_of-in-BothSides.result c.in-BothSides.is
    (c.candidate_of-in-BothSides.ensures
    (use_by BothSides a.by.now.rules.now a.goal.now a.hypothesis.now a.side a.place)
    c.find_use_beside-found.ensures.answer)

-- What is known of the finder says what it answers.
use Rattle.rx_find_lemmas.proofs.Calls.{finder_then, finds_now, may_find}
use Rattle.rx_find_lemmas.proofs.asking.ask_lemmas.Goals as goal

pub lemma-requires : goal.lemma-requires
lemma-requires g c = may_find g.S.FnMut g.L.FnMut c.requires.lemma c.requires.solver

pub returns-clause-solver : goal.returns-clause-solver
returns-clause-solver g c =
    (finds_now g.S.FnMut g.L.FnMut c.requires.lemma c.requires.solver c.lemma.ensures).solver

pub returns-clause-lemma : goal.returns-clause-lemma
returns-clause-lemma g c =
    finder_then g.S.FnMut g.L.FnMut c.requires.lemma c.requires.solver c.lemma.ensures

pub returns-clause-answer : goal.returns-clause-answer
returns-clause-answer g c =
    (finds_now g.S.FnMut g.L.FnMut c.requires.lemma c.requires.solver c.lemma.ensures).answer

-- What is found gives the choices by lemmas, or that something passes the limits.
use Rattle.std.proofs.Common.{subst}
use Rattle.rx_find_lemmas.specs.Finders.{FindsLemmas}
use Rattle.rx_search.proofs.Finding.{lemmas_grow}
use Rattle.rx_search.proofs.known.add_lemmas.Goals as goal

pub returns-in-Ok : goal.returns-in-Ok
returns-in-Ok c = λ parts found are.
    lemmas_grow parts c.args.goal.now c.args.known.now c.push_lemmas.new.known are
    c.in-Ok.lemmas (subst (FindsLemmas parts c.args.goal.now) c.in-Ok.is found)
    c.push_lemmas.result c.push_lemmas.ensures

pub returns-in-Err : goal.returns-in-Err
returns-in-Err c = λ parts found are.
    c.note_end.ensures parts (subst (FindsLemmas parts c.args.goal.now) c.in-Err.is found) are

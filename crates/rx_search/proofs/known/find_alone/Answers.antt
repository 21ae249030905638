-- The expansions and Decompose, and then the lemmas that are found.
use Rattle.std.proofs.Common.{map, subst}
use Rattle.rx_term.specs.declared.rule.Equation.{Equation}
use Rattle.rx_find_lemmas.specs.Finders.{FindsLemmas}
use Rattle.rx_steps.specs.Alone.{alone}
use Rattle.rx_search.specs.Known.{AreOf}
use Rattle.rx_search.specs.Menu.{attempted_by}
use Rattle.rx_search.proofs.Finding.{all_can}
use Rattle.rx_search.proofs.known.find_alone.Goals as goal

pub try_each-requires-clause-can : goal.try_each-requires-clause-can
try_each-requires-clause-can g c =
    all_can c.in_ok-expansions.field-0 c.in_ok-expansions.ensures

pub returns-in-Ok-clause-right : goal.returns-in-Ok-clause-right
returns-in-Ok-clause-right g c =
    let rules = c.args.rules.now in
    let goal = c.args.goal.now in
    c.in-Ok.ensures rules
    (subst (λ (e : Equation). FindsLemmas rules e c.ask_lemmas-found.result) c.get.ensures
    c.ask_lemmas-found.ensures.answer)
    (subst (λ cs. AreOf rules goal (map (attempted_by rules (alone goal)) cs)
    c.in_ok-known.known) c.in_ok-expansions.ensures c.in_ok-known.ensures.known)

-- Wider domains are looked for where the plain ranking begins nowhere and nothing was noted.
use Rattle.std.proofs.Common.{subst}
use Rattle.rx_search.specs.Begun.{IsStatedBegun}
use Rattle.rx_search.specs.declared.beginning.Beginning.TheVariants as begun
use Rattle.rx_search.proofs.BegunLaws.{begun_noted, begun_bare, begun_within}
use Rattle.rx_search.proofs.beginning.begin.Goals as goal

pub returns-in-Bare-clause-begun : goal.returns-in-Bare-clause-begun
returns-in-Bare-clause-begun g c =
    let rules = c.args.rules.now in
    let goal = c.args.goal.now in
    begun_bare rules goal
    (subst (IsStatedBegun rules goal) c.in-Bare.is c.in_ok-begin_plain.ensures.begun)

pub returns-in-Inside-clause-begun : goal.returns-in-Inside-clause-begun
returns-in-Inside-clause-begun g c =
    let rules = c.args.rules.now in
    let goal = c.args.goal.now in
    begun_within rules goal c.in-Inside.inside
    (subst (IsStatedBegun rules goal) c.in-Inside.is c.in_ok-begin_plain.ensures.begun)

pub returns-in-Unranked-true-clause-begun : goal.returns-in-Unranked-true-clause-begun
returns-in-Unranked-true-clause-begun g c =
    let rules = c.args.rules.now in
    let goal = c.args.goal.now in
    begun_noted rules goal
    (subst (λ noted. IsStatedBegun rules goal (begun.Unranked noted)) c.in-Unranked-true.noted-test
    (subst (IsStatedBegun rules goal) c.in-Unranked-true.is c.in_ok-begin_plain.ensures.begun))

-- The domains are those that are found.
use Rattle.std.proofs.lemmas.Result.{IfOk-weaker}
use Rattle.rx_search.specs.Begun.{IsStatedBegun}
use Rattle.rx_search.proofs.BegunLaws.{begun_is, domains_shallow}
use Rattle.rx_search.proofs.beginning.begin_inside.Goals as goal

pub inside_of-requires : goal.inside_of-requires
inside_of-requires g c =
    let found = c.in_ok-domains.ensures in
    record {
      rows = found.rows;
      lawful = found.lawful;
      keeps = found.keeps;
      shallow =
          domains_shallow c.args.rules.now c.args.goal.now c.in_ok-domains.domains
          found.certificates;
    }

pub begin_with-requires-clause-listed : goal.begin_with-requires-clause-listed
begin_with-requires-clause-listed g c = c.in_ok-inside.ensures.inside.listed

pub returns-clause-begun : goal.returns-clause-begun
returns-clause-begun g c =
    IfOk-weaker c.begin_with.result _ (IsStatedBegun c.args.rules.now c.args.goal.now)
    (λ b with. begun_is c.args.rules.now c.args.goal.now c.args.noted c.in_ok-inside.inside b
    c.in_ok-inside.ensures.kind c.in_ok-inside.ensures.inside c.requires.begun with)
    c.begin_with.ensures.begun

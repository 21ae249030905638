-- Where it is known that nothing comes of the choice, nothing does.
use Rattle.std.proofs.Common.{◌≡◌, IfSome, None, Option, subst, sym, Bool}
use Rattle.rx_anchors.specs.Values.{polys_at}
use Rattle.rx_rank.specs.Choices.{choosing}
use Rattle.rx_rank.proofs.choice.choosing.Goals as goal

pub returns-in-Some-clause-tried : goal.returns-in-Some-clause-tried
returns-in-Some-clause-tried g c =
    let problem = c.args.problem.now in
    let polys = polys_at c.args.choice.now in
    sym (subst (λ (o : Option Bool). IfSome o (λ noted.
    choosing problem.infos.now c.args.numbered.now.pairs problem.anchors.now problem.order.now
    (record { raised = c.args.raised; polys = polys }) ≡ record { made = None; noted = noted }))
    c.in-Some.is (c.in_ok-noted.ensures.nothing polys c.requires.numbers))

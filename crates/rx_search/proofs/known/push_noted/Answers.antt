-- One more choice, that doesn't apply.
use Rattle.rx_search.proofs.Finding.{noted_grow}
use Rattle.rx_search.proofs.known.push_noted.Goals as goal

pub returns : goal.returns
returns c = λ parts cs are.
    noted_grow parts c.args.goal.now cs c.in_ok-after.after c.args.known.now c.push.new.self
    c.in_ok-after.ensures c.in_ok-push.ensures.ok are

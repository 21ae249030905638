use Rattle.std.proofs.Common.{◌∙◌}
use Rattle.rx_term.proofs.Walks.{unwind-on}
use Rattle.rx_term.proofs.term.Term.replace.Goals as goal

pub loop-left-preserved : goal.loop-left-preserved
loop-left-preserved c =
    unwind-on c.loop-left.rest c.loop-left.left c.loop-left.upper c.in-Some.below c.args.inner
    c.turn-further.result c.loop-left-test.true c.turn-further.ensures c.in-Some.is ∙
    c.loop-left.invariant

-- Where no candidate is left, nothing is given.
use Rattle.std.proofs.Common.{◌∙◌, drop, sym}
use Rattle.rx_anchors.proofs.ValueLaws.{no_more_choice}
use Rattle.rx_anchors.proofs.values.choice_values.Goals as goal

pub returns-in-None : goal.returns-in-None
returns-in-None c =
    sym (no_more_choice c.loop-at.values.items (drop c.loop-at.at c.args.anchors.now)
    c.args.choice.now c.loop-at.at c.in-None.ensures.lookup.3)
    ∙ c.loop-at.invariant

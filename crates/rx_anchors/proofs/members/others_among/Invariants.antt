-- The others so far, and those among what is left.
use Rattle.std.proofs.Common.{◌≡◌, ◌++◌, drop, not}
use Rattle.std.specs.List.{filter}
use Rattle.rx_anchors.specs.Members.{is_anchor}
use Rattle.rx_anchors.proofs.members.others_among.Given as goal

abbrev pub invariant-loop-symbol : goal.invariant-loop-symbol
invariant-loop-symbol l =
    l.others.items ++ filter (λ f. not (is_anchor l.infos l.hypotheses f))
    (drop l.symbol-index l.symbols)
    ≡ filter (λ f. not (is_anchor l.infos l.hypotheses f)) l.symbols

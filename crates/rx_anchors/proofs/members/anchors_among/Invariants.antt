-- The anchors so far, and those among what is left.
use Rattle.std.proofs.Common.{◌≡◌, ◌++◌, drop}
use Rattle.std.specs.List.{filter}
use Rattle.rx_anchors.specs.Members.{is_anchor}
use Rattle.rx_anchors.proofs.members.anchors_among.Given as goal

abbrev pub invariant-loop-symbol : goal.invariant-loop-symbol
invariant-loop-symbol l =
    l.anchors.items ++ filter (is_anchor l.infos l.hypotheses) (drop l.symbol-index l.symbols) ≡
    filter (is_anchor l.infos l.hypotheses) l.symbols

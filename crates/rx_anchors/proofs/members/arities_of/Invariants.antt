-- Those of the first symbols.
use Rattle.std.proofs.Common.{◌≡◌, map, take}
use Rattle.rx_anchors.specs.Members.{arity_of}
use Rattle.rx_anchors.proofs.members.arities_of.Given as goal

abbrev pub invariant-loop-symbol : goal.invariant-loop-symbol
invariant-loop-symbol l = l.arities.items ≡ map (arity_of l.infos) (take l.symbol-index l.symbols)

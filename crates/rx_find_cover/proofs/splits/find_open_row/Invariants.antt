-- What is left of the rules decides.
use Rattle.std.proofs.Common.{◌≡◌, drop}
use Rattle.rx_cover.specs.Covering.{symbol}
use Rattle.rx_term.specs.Paired.{rules_of_shape}
use Rattle.rx_find_cover.specs.Coverable.{first_open}
use Rattle.rx_cover.specs.Redexes.{shape_at}
use Rattle.rx_find_cover.proofs.splits.find_open_row.Given as goal

abbrev pub invariant-loop-rule : goal.invariant-loop-rule
invariant-loop-rule l =
    first_open l.path (rules_of_shape (shape_at (symbol l.sym) l.redex) (drop l.rule-index l.rules))
    ≡ first_open l.path (rules_of_shape (shape_at (symbol l.sym) l.redex) l.rules)

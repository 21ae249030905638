use Rattle.std.proofs.Common.{drop}
use Rattle.rx_inference.specs.Making.{expanded_by}
use Rattle.rx_inference.specs.Pieces.{have_one_shape}
use Rattle.rx_inference.proofs.Filtering.{Filtering}
use Rattle.rx_inference.proofs.rewriting.expand_by_each.Given as goal

abbrev pub invariant-loop-rule : goal.invariant-loop-rule
invariant-loop-rule l =
    Filtering (expanded_by l.goal l.side l.redex) (λ r. have_one_shape r.left l.redex) l.goals
    (drop l.rule-index l.rules) l.rules

-- The polynomials so far were added.
use Rattle.std.proofs.Common.{◌≡◌, ◌++◌, take}
use Rattle.rx_text.specs.Polynomials.{poly_text}
use Rattle.rx_words.specs.Words.{each_spaced}
use Rattle.rx_goal_words.proofs.pairs.push_columns.Given as goal

abbrev pub invariant-loop-column : goal.invariant-loop-column
invariant-loop-column l =
    l.out.items ≡ l.initial.out.items ++ each_spaced poly_text (take l.column-index l.columns)

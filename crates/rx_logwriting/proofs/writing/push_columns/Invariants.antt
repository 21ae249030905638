use Rattle.std.proofs.Common.{◌≡◌, ◌++◌, take}
use Rattle.rx_text.specs.Polynomials.{poly_text}
use Rattle.rx_words.specs.Words.{each_spaced}
use Rattle.rx_logwriting.proofs.writing.push_columns.Given as goal

abbrev pub invariant-loop-column : goal.invariant-loop-column
invariant-loop-column l =
    l.out.items ≡ l.initial.out.items ++ each_spaced poly_text (take l.column-index l.columns)

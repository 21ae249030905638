-- What is written, and the lines that are left, are all lines.
use Rattle.std.proofs.Common.{◌≡◌, ◌++◌, drop}
use Rattle.rx_rulefile.specs.RuleTexts.{numbered}
use Rattle.rx_rulefile.proofs.Written.{text_of}
use Rattle.rx_rulefile.proofs.writing.push_symbols.Given as goal

abbrev pub invariant-loop-number : goal.invariant-loop-number
invariant-loop-number l =
    l.out.items ++ text_of (numbered l.number (drop l.number l.symbols))
    ≡ l.initial.out.items ++ text_of (numbered 0 l.symbols)

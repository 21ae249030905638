-- What is left has lines exactly where all has.
use Rattle.std.proofs.Common.{◌≡◌, drop}
use Rattle.std.specs.List.{list_all}
use Rattle.rx_rulefile.specs.RuleLines.{lines}
use Rattle.rx_rulefile.specs.RuleTexts.{numbered}
use Rattle.rx_cli.proofs.translations.symbols_have_lines.Given as goal

abbrev pub invariant-loop-number : goal.invariant-loop-number
invariant-loop-number l =
    list_all lines.in_range (numbered l.number (drop l.number l.symbols))
    ≡ list_all lines.in_range (numbered 0 l.symbols)

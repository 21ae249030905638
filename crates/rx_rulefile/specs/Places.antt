-- The order of lines of a rule text: at each place some lines may come, and each leads to a place.
use Rattle.std.specs.Prelude.{ℕ, ◌+◌, ◌==◌, if◌then◌else◌, Option, Some, None}
use Rattle.rx_lines.specs.Orders.{Order}
use Rattle.rx_rulefile.specs.RuleLines.{lines}
use Rattle.rx_rulefile.specs.declared.place.Place.{Place}
use Rattle.rx_rulefile.specs.declared.place.Place.TheVariants.{AtHeader, AtFails, InSymbols, InRules, AtEnd, Finished}
use Rattle.rx_rulefile.specs.declared.rule_line.RuleLine.{RuleLine}
use Rattle.rx_rulefile.specs.declared.rule_line.RuleLine.TheVariants as line

abbrev pub after_header : RuleLine → Option Place
after_header line.Header = Some AtFails
after_header other = None

abbrev pub after_fails : RuleLine → Option Place
after_fails (line.Fails fails) = Some (InSymbols 0)
after_fails other = None

-- after the last symbol, and among the rules
abbrev pub after_rules : RuleLine → Option Place
after_rules (line.Rule rule) = Some InRules
after_rules (line.Equation equation) = Some AtEnd
after_rules other = None

-- the symbol with this number is next, if any
abbrev pub after_symbols : ℕ → RuleLine → Option Place
after_symbols next (line.Symbol number s) =
    if number == next then Some (InSymbols (next + 1)) else None
after_symbols next other = after_rules other

abbrev pub after_equation : RuleLine → Option Place
after_equation line.End = Some Finished
after_equation other = None

-- the place after a line; None where no such line may come
abbrev pub after : Place → RuleLine → Option Place
after AtHeader next = after_header next
after AtFails next = after_fails next
after (InSymbols number) next = after_symbols number next
after InRules next = after_rules next
after AtEnd next = after_equation next
after Finished next = None

-- the order of the lines of rule texts
abbrev pub rule_order : Order RuleLine Place
rule_order = record { format = lines; after = after; start = AtHeader; end = Finished }

-- A rule set that isn't coverable: a point without rules.
use Rattle.std.specs.Prelude.{true, false, [], ◌∷◌}
use Rattle.rx_term.specs.declared.rule_set.RuleParts.{RuleParts}

abbrev pub bare : RuleParts
bare = record {
  symbols = record { arity = 1; frame = false; entry = true; head = false } ∷ [];
  domains = [];
  rules = [];
  fails = 0;
}

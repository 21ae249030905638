-- What is left of the rules decides.
use Rattle.std.proofs.Common.{◌≡◌, drop}
use Rattle.std.specs.List.{flat_map}
use Rattle.rx_find_domains.specs.Candidates.{rows_of_rule, taken}
use Rattle.rx_find_domains.proofs.candidates.take_rules.Given as goal

abbrev pub invariant-loop-rule : goal.invariant-loop-rule
invariant-loop-rule l =
    taken l.arity l.rows
    (flat_map (rows_of_rule l.names l.sym) (drop l.rule-index l.rules))
    ≡ taken l.arity l.fn.rows (flat_map (rows_of_rule l.names l.sym) l.rules)

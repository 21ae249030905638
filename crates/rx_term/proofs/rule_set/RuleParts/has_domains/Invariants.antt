use Rattle.std.proofs.Common.{◌≡◌, drop}
use Rattle.rx_term.specs.Domains.{are_domains}
use Rattle.rx_term.proofs.rule_set.RuleParts.has_domains.Given as goal

abbrev pub invariant-loop-rows : goal.invariant-loop-rows
invariant-loop-rows l =
    are_domains l.infos (drop l.rows-index l.rows-items) ≡
    are_domains l.self.symbols l.rows-items

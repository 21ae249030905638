use Rattle.std.proofs.Common.{◌≡◌, take}
use Rattle.rx_term.proofs.rule_set.copied_domains.Given as goal

abbrev pub invariant-loop-rows : goal.invariant-loop-rows
invariant-loop-rows l = l.made ≡ take l.rows-index l.domains

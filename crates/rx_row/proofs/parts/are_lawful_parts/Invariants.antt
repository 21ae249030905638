use Rattle.std.proofs.Common.{◌≡◌, drop}
use Rattle.rx_row.specs.Parts.{are_lawful, lawful_from}
use Rattle.rx_row.proofs.parts.are_lawful_parts.Given as goal

abbrev pub invariant-loop-at : goal.invariant-loop-at
invariant-loop-at l =
    lawful_from l.from l.rows (drop l.at-index l.parts) ≡ are_lawful l.rows l.parts

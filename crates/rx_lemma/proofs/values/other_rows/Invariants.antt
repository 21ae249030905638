-- Those so far, and then those of the rows that are left, are all.
use Rattle.std.proofs.Common.{◌≡◌, ◌++◌, drop}
use Rattle.rx_lemma.specs.Values.{other_rows}
use Rattle.rx_lemma.proofs.values.other_rows.Given as goal

abbrev pub invariant-loop-row : goal.invariant-loop-row
invariant-loop-row l = l.others.items ++ other_rows (drop l.row-index l.rows) ≡ other_rows l.rows

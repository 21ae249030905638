-- What is left decides.
use Rattle.std.proofs.Common.{◌≡◌, drop}
use Rattle.std.specs.List.{list_any}
use Rattle.rx_lemma.specs.Values.{gives_value}
use Rattle.rx_lemma.proofs.values.any_value.Given as goal

abbrev pub invariant-loop-row : goal.invariant-loop-row
invariant-loop-row l = list_any gives_value (drop l.row-index l.rows) ≡ list_any gives_value l.rows

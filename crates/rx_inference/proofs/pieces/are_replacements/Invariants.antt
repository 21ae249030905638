use Rattle.std.proofs.Common.{◌≡◌, drop}
use Rattle.std.specs.List.{list_all}
use Rattle.rx_inference.specs.Pieces.{is_replacement}
use Rattle.rx_inference.proofs.pieces.are_replacements.Given as goal

abbrev pub invariant-loop-variable : goal.invariant-loop-variable
invariant-loop-variable l =
    list_all is_replacement (drop l.variable-index l.with) ≡ list_all is_replacement l.with

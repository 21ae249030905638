-- What is left decides.
use Rattle.std.proofs.Common.{◌≡◌, drop}
use Rattle.std.specs.List.{list_all}
use Rattle.rx_poly.specs.Normal.{is_poly}
use Rattle.rx_row.specs.Parts.{poly_of}
use Rattle.rx_row.specs.declared.row.Row.{Row}
use Rattle.rx_lemma.proofs.premises.see_rows.Given as goal

abbrev pub invariant-loop-row : goal.invariant-loop-row
invariant-loop-row l =
    list_all (λ (row : Row). is_poly (poly_of row)) (drop l.row-index l.rows) ≡
    list_all (λ (row : Row). is_poly (poly_of row)) l.rows

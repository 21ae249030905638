-- The ratios of a row come after the others; at the end no row is left.
use Rattle.std.proofs.Common.{[]}
use Rattle.rx_poly.proofs.VariableLaws.{listed_end}
use Rattle.rx_row.specs.Parts.{poly_of}
use Rattle.rx_row.specs.declared.row.Row.{Row}
use Rattle.rx_solve.specs.Divisions.{has_polynomial, ratios, rows_ratios}
use Rattle.rx_solve.proofs.Walks.{all_added, listed_next}
use Rattle.rx_solve.proofs.divisions.rows_ratios.Goals as goal

pub loop-row-preserved : goal.loop-row-preserved
loop-row-preserved c =
    let rows = c.args.rows.now in
    let at = c.loop-row in
    let row = c.row-item.result in
    let next = c.push_row.new.found.items in
    record {
      found =
          listed_next rows at.row-index row c.loop-row-test.true c.row-item.is
          (λ (r : Row). ratios (poly_of r)) at.found.items next (rows_ratios rows)
          at.invariant.found c.in_ok-push_row.ensures.found;
      polynomials =
          all_added has_polynomial at.found.items (ratios (poly_of row)) next
          c.in_ok-push_row.ensures.found at.invariant.polynomials
          c.in_ok-push_row.ensures.polynomials;
    }

pub returns : goal.returns
returns c = record {
  found =
      listed_end (λ (r : Row). ratios (poly_of r)) c.args.rows.now c.loop-row.row-index
      c.loop-row.found.items [] c.loop-row-test.false c.loop-row.invariant.found;
  polynomials = c.loop-row.invariant.polynomials;
}

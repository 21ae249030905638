-- Both terms and the rows are packed, one after the other.
use Rattle.std.proofs.Common.{subst, List}
use Rattle.rx_row.specs.declared.row.Row.{Row}
use Rattle.rx_bank.proofs.Growing.{RowsStand, equation_packed}
use Rattle.rx_bank.proofs.packing.pack_equation.Goals as goal

pub returns-clause-equation : goal.returns-clause-equation
returns-clause-equation c =
    let equation = c.args.equation.now in
    let three = c.pack_rows.new.bank in
    let rows = subst (λ (rs : List Row). RowsStand three c.in_ok-pack_rows.field-0 rs)
    c.rows.ensures c.in_ok-pack_rows.ensures.rows in
    equation_packed c.pack_term.new.bank c.pack_term-2.new.bank three c.pack_term-2.ensures.stay
    c.pack_rows.ensures.stay _ equation.left equation.right equation.rows
    c.in_ok-pack_term.ensures.term c.in_ok-pack_term-2.ensures.term rows

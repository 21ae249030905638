-- The first ratios of the rows are theirs.
use Rattle.std.proofs.Common.{◌≡◌, List, subst, sym, take, true, rules}
use Rattle.std.specs.List.{list_all}
use Rattle.rx_solve.specs.Bounds.{most_ratios}
use Rattle.rx_solve.specs.Divisions.{AreRatiosOf, all_ratios, has_polynomial, rows_ratios}
use Rattle.rx_solve.specs.declared.divisions.Ratio.{Ratio}
use Rattle.rx_solve.proofs.RatioLaws.{first_ratios_of}
use Rattle.rx_solve.proofs.divisions.first_ratios.Goals as goal

pub returns-clause-own : goal.returns-clause-own
returns-clause-own c =
    let polynomials : list_all has_polynomial (rows_ratios c.args.rows.now) ≡ true =
    subst (λ (rs : List Ratio). list_all has_polynomial rs ≡ true) c.in_ok-all.ensures.found
    c.in_ok-all.ensures.polynomials in
    let first : c.truncate.new.self.items ≡ take most_ratios (all_ratios c.args.rows.now) =
    search rules in
    subst (λ (rs : List Ratio). AreRatiosOf rs c.args.rows.now) (sym first)
    (first_ratios_of most_ratios c.args.rows.now polynomials)

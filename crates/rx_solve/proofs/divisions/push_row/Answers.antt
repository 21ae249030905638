-- The dividends in a polynomial are polynomials.
use Rattle.std.proofs.Common.{◌≡◌, subst, true}
use Rattle.rx_poly.specs.Normal.{is_poly}
use Rattle.rx_solve.proofs.RatioLaws.{ratios_poly}
use Rattle.rx_solve.proofs.divisions.push_row.Goals as goal

pub returns-clause-polynomials : goal.returns-clause-polynomials
returns-clause-polynomials c =
    ratios_poly _ (subst (λ p. is_poly p ≡ true) c.poly.ensures c.body.ensures.normal)

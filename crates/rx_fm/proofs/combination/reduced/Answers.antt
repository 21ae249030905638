-- The common divisor divides each coefficient.
use Rattle.std.proofs.Common.{rules, ◌≡◌, ◌∙◌, ap, sym, pos, arith, FitsSigned, to_z, of_z, unsigned_abs}
use Rattle.std.specs.Int.{w128}
use Rattle.std.proofs.lemmas.Int.{ints, to_z-of_z}
use Rattle.rx_fm.specs.Elimination.{coefficients, common_divisor}
use Rattle.rx_fm.specs.Numbers.{divides_all}
use Rattle.rx_fm.proofs.Dividing.{common_divides, reduced_one}
use Rattle.rx_fm.proofs.combination.reduced.Goals as goal

pub divided_poly-requires-clause-divides : goal.divided_poly-requires-clause-divides
divided_poly-requires-clause-divides c =
    let fits : FitsSigned w128 c.in-Some.by = search rules in
    let by : unsigned_abs (to_z w128 (of_z w128 c.in-Some.by)) ≡ common_divisor c.args.combination =
    ap unsigned_abs (to_z-of_z w128 c.in-Some.by fits ∙ c.in-Some.ensures.1) in
    ap (λ d. divides_all d (coefficients c.args.combination.poly)) by ∙
    (common_divides c.args.combination).0

pub returns-then-by-eq1-clause-same : goal.returns-then-by-eq1-clause-same
returns-then-by-eq1-clause-same c =
    let one : c.in-Some.by ≡ pos 1 = omega (arith, ints) in
    let same = c.in-Some.ensures.1 in
    sym (reduced_one c.args.combination (omega (arith, ints)))

use Rattle.std.proofs.Common.{ap, refl, subst, Err}
use Rattle.c_refute.specs.Points.{IsComparison, finding_at}
use Rattle.rx_cli.specs.Refutations.{arity_in, points_in}
use Rattle.rx_cli.proofs.Comparisons.{on_found, on_many}
use Rattle.rx_cli.proofs.refuting.on_points.Goals as goal

pub returns-in-Ok-clause-answer : goal.returns-in-Ok-clause-answer
returns-in-Ok-clause-answer c =
    let compared = c.args.compared.now in
    let side = c.args.extent.side in
    on_found compared c.args.extent c.in-Ok.found
    (subst (λ pre. IsComparison (finding_at compared.two.program compared.two.first
    compared.two.second pre c.args.extent.rounds) (points_in compared side) c.in-Ok.found)
    c.as_ref-pre.ensures.value c.in-Ok.ensures.compared)
    (λ many. let no = (c.in-Ok.ensures.too_many (arity_in compared)).1 (refl, many) in cc)

pub returns-in-Err-TooManyPoints-clause-answer : goal.returns-in-Err-TooManyPoints-clause-answer
returns-in-Err-TooManyPoints-clause-answer c =
    let many = (c.in-Err-TooManyPoints.ensures.too_many c.in-Err-TooManyPoints.params).0
    (ap Err c.in-Err-TooManyPoints.field-0-is) in
    on_many c.args.compared.now c.args.extent c.in-Err-TooManyPoints.params many.0 many.1

-- What is read from the terms is the variable that the polynomial is.
use Rattle.std.proofs.Common.{◌∙◌, ap}
use Rattle.rx_poly.specs.Reading.{variable_of}
use Rattle.rx_poly.specs.declared.body.Body.{Body, out-Body}
use Rattle.rx_poly.proofs.ReadingLaws.{is_variable}
use Rattle.rx_poly.proofs.poly.Poly.as_variable.Goals as goal

pub returns-clause-exact : goal.returns-clause-exact
returns-clause-exact c =
    λ n. is_variable c.args.self.now n (c.variable_in.ensures ∙
    ap (λ (b : Body). variable_of (out-Body b).terms) c.body.ensures.body)

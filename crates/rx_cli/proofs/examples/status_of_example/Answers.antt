use Rattle.std.proofs.Common.{◌∙◌, subst}
use Rattle.rx_cli.specs.Examples.{example_effort, example_functions}
use Rattle.rx_cli.specs.Proofs.{IsProved}
use Rattle.rx_cli.proofs.examples.status_of_example.Goals as goal

pub returns : goal.returns
returns c = (
  c.in_ok-prove.field-0,
  subst (λ text. IsProved example_functions example_effort text c.in_ok-prove.field-0)
      (c.deref.ensures.value ∙ c.in_ok-source.ensures) c.in_ok-prove.ensures.answer,
  c.status.ensures,
)

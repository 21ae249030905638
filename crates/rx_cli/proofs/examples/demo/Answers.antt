use Rattle.rx_cli.specs.Examples.{IsShown}
use Rattle.rx_cli.proofs.ExampleLaws.{shown_agree}
use Rattle.rx_cli.proofs.examples.demo.Goals as goal

pub returns-clause-shown : goal.returns-clause-shown
returns-clause-shown c = (c.in_ok-tally.tally, c.in_ok-tally.ensures, c.verdict_on.ensures.value)

pub returns-clause-sound : goal.returns-clause-sound
returns-clause-sound c =
    let shown : IsShown c.args.pairs c.verdict_on.result =
    (c.in_ok-tally.tally, c.in_ok-tally.ensures, c.verdict_on.ensures.value) in
    shown_agree c.args.pairs c.verdict_on.result shown

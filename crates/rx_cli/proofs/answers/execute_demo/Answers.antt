use Rattle.rx_cli.proofs.AnswerLemmas.{answers_shown}
use Rattle.rx_cli.proofs.answers.execute_demo.Goals as goal

pub returns-clause-answer : goal.returns-clause-answer
returns-clause-answer c =
    λ held. answers_shown held c.args.pairs c.in_ok-demo.field-0
    c.in_ok-demo.ensures.shown

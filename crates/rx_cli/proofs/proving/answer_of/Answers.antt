-- The text of the log or the verdict on the end is the answer.
use Rattle.rx_cli.proofs.Searching.{said_of_end, said_of_log}
use Rattle.rx_cli.proofs.proving.answer_of.Goals as goal

pub returns-in_ok-text-in-Ok-clause-answer : goal.returns-in_ok-text-in-Ok-clause-answer
returns-in_ok-text-in-Ok-clause-answer c = λ problem effort s is.
    said_of_log problem effort s c.args.found c.in-Ok.log c.in_ok-text-in-Ok.text c.in-Ok.is is
    c.in_ok-text-in-Ok.ensures

pub returns-in_ok-verdict-in-Err-clause-answer : goal.returns-in_ok-verdict-in-Err-clause-answer
returns-in_ok-verdict-in-Err-clause-answer c = λ problem effort s is.
    said_of_end problem effort s c.args.found c.in-Err.end c.in_ok-verdict-in-Err.verdict c.in-Err.is
    is c.in_ok-verdict-in-Err.ensures.says

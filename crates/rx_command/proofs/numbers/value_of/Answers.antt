use Rattle.rx_command.proofs.Digits.{read_digits}
use Rattle.rx_command.proofs.numbers.value_of.Goals as goal

pub returns-in-Err : goal.returns-in-Err
returns-in-Err c =
    let read = read_digits c.args.text.now c.parse.result c.parse.ensures.value.0 c.requires in
    rw c.in-Err.is at read

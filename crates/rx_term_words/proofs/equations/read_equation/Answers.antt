use Rattle.rx_term_words.proofs.EquationLaws.{no_right, no_space_after}
use Rattle.rx_term_words.proofs.equations.read_equation.Goals as goal

pub returns-in_default-skip_word : goal.returns-in_default-skip_word
returns-in_default-skip_word c =
    let left = rw c.in-Some.is at c.in_ok-left.ensures in
    no_space_after c.args.bytes.now c.args.at left c.in_default-skip_word.ensures

pub returns-in-None : goal.returns-in-None
returns-in-None c =
    let left = rw c.in-Some.is at c.in_ok-left.ensures in
    let none = rw c.in-None.is at c.in_ok-right.ensures in
    no_right c.args.bytes.now c.args.at left c.in-Some-skip_word.ensures none

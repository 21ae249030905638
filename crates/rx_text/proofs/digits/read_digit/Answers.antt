-- A digit with no other after it is the text of its number.
use Rattle.std.proofs.Common.{◌∙◌, sym}
use Rattle.rx_text.proofs.Decimals.{one_digit}
use Rattle.rx_text.proofs.digits.read_digit.Goals as goal

pub returns-then-ends_number : goal.returns-then-ends_number
returns-then-ends_number c =
    let there = c.in_ok-digit.ensures.lookup in
    one_digit c.args.bytes.now c.args.at there.3.0 there.1
    (sym c.is_digit.ensures ∙ c.if-is_digit.true)
    (sym c.ends_number.ensures ∙ c.if-ends_number.true)

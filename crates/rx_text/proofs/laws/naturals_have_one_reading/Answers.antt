-- Numbers of u128 have few enough digits.
use Rattle.std.proofs.Common.{arith}
use Rattle.rx_text.proofs.Decimals.{naturals_unambiguous}
use Rattle.rx_text.proofs.laws.naturals_have_one_reading.Goals as goal

pub returns : goal.returns
returns c = λ most h. naturals_unambiguous most (omega arith)

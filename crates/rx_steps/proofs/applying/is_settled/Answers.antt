use Rattle.std.proofs.Common.{sym}
use Rattle.rx_steps.proofs.applying.is_settled.Goals as goal

pub returns-in-Some : goal.returns-in-Some
returns-in-Some c = λ told. record {
  goal = c.in-Some.goal.now;
  first = sym c.in-Some.ensures;
  alike = c.returns_one_value.ensures told;
}

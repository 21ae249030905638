use Rattle.rx_row.proofs.Membership.{all_hold_pushed}
use Rattle.rx_row.proofs.laws.a_pushed_row_is_to_hold_too.Goals as goal

pub returns : goal.returns
returns c = all_hold_pushed

-- Nothing is known.
use Rattle.rx_settle.proofs.KnownLaws.{none_known}
use Rattle.rx_settle.proofs.settle_memo.SettleMemo.new.Goals as goal

pub returns : goal.returns
returns c = λ parts. none_known parts c.in_ok-new.field-0 c.in_ok-new.ensures

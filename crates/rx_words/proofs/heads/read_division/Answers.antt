use Rattle.rx_words.proofs.HeadLaws.{no_division}
use Rattle.rx_words.proofs.Once.{polynomials_once}
use Rattle.rx_words.proofs.heads.read_division.Goals as goal

pub read_pair-requires : goal.read_pair-requires
read_pair-requires c = record { once = polynomials_once }

pub returns-in-None : goal.returns-in-None
returns-in-None c = no_division c.args.bytes.now c.args.at (rw c.in-None.is at c.in_ok-num.ensures)

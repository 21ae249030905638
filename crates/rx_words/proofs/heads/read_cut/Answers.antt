use Rattle.rx_words.proofs.HeadLaws.{no_cut}
use Rattle.rx_words.proofs.Once.{part_lists_once}
use Rattle.rx_words.proofs.heads.read_cut.Goals as goal

pub read_pair-requires : goal.read_pair-requires
read_pair-requires c = record { once = part_lists_once }

pub returns-in-None : goal.returns-in-None
returns-in-None c = no_cut c.args.bytes.now c.args.at (rw c.in-None.is at c.in_ok-parts.ensures)

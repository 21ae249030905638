use Rattle.rx_words.proofs.HeadLaws.{reads_solution}
use Rattle.rx_words.proofs.Once.{numbers_once}
use Rattle.rx_words.proofs.heads.read_solve.Goals as goal

pub read_pair-requires : goal.read_pair-requires
read_pair-requires c = record { once = numbers_once }

pub returns : goal.returns
returns c =
    rw c.solution.ensures (reads_solution c.args.bytes.now c.args.at c.in_ok-found.found
    c.in_ok-found.ensures)

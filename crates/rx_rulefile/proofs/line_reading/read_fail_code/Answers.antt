use Rattle.rx_rulefile.proofs.KindWords.{fail_code_reads}
use Rattle.rx_rulefile.proofs.line_reading.read_fail_code.Goals as goal

pub returns : goal.returns
returns c =
    rw c.ending_word.ensures (fail_code_reads c.args.bytes.now c.args.at c.read_natural.result
    c.read_natural.ensures)

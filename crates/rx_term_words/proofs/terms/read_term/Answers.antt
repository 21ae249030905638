use Rattle.rx_term_words.proofs.TermLaws.{term_reads}
use Rattle.rx_term_words.proofs.terms.read_term.Goals as goal

pub returns : goal.returns
returns c =
    let bytes = c.args.bytes.now in
    rw c.ending_word.ensures (term_reads bytes c.args.at _ c.in_ok-found.ensures)

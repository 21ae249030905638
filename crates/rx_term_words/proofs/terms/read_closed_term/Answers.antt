-- What was read up to the innermost call or result is closed after it.
use Rattle.std.proofs.Common.{refl}
use Rattle.std.proofs.lemmas.Result.{IfOk-weaker}
use Rattle.rx_term_words.proofs.TermLaws.{no_open, reads_closed}
use Rattle.rx_term_words.proofs.terms.read_closed_term.Goals as goal

pub returns-in-Some : goal.returns-in-Some
returns-in-Some c =
    let open_term = rw c.in-Some.is at c.in_ok-open.ensures in
    IfOk-weaker c.close_over.result _ _
    (λ r h. reads_closed c.args.bytes.now c.args.at open_term refl r h)
    c.close_over.ensures

pub returns-in-None : goal.returns-in-None
returns-in-None c =
    let never = rw c.in-None.is at c.in_ok-open.ensures in
    no_open c.args.bytes.now c.args.at never

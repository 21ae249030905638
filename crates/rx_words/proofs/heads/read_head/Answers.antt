-- After the word of a kind come its fields; where no word is there, no certificate begins.
use Rattle.std.proofs.lemmas.Result.{IfOk-weaker}
use Rattle.rx_words.proofs.HeadLaws.{no_kind, reads_head}
use Rattle.rx_words.proofs.heads.read_head.Goals as goal

pub returns-in-Some : goal.returns-in-Some
returns-in-Some c =
    IfOk-weaker c.read_fields.result _ _ (λ r h.
    reads_head c.args.bytes.now c.args.at c.in-Some.next c.in-Some.kind r c.in-Some.ensures h)
    c.read_fields.ensures

pub returns-in-None : goal.returns-in-None
returns-in-None c = no_kind c.args.bytes.now c.args.at c.in-None.ensures

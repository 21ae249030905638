-- A list is where its number is with that many things after it.
use Rattle.std.proofs.lemmas.Result.{IfOk-weaker}
use Rattle.rx_words.proofs.Joined.{reads_list, no_number}
use Rattle.rx_words.proofs.Once.{numbers_once}
use Rattle.rx_words.proofs.lists.read_list.Goals as goal

pub returns-in-Some : goal.returns-in-Some
returns-in-Some g c =
    let t = g.T.Text in
    let bytes = c.args.bytes.now in
    IfOk-weaker c.read_spaced.result _ _
    (λ r h. reads_list t.text t.in_range numbers_once c.in-Some.ensures r h)
    c.read_spaced.ensures

pub returns-in-None : goal.returns-in-None
returns-in-None g c =
    let t = g.T.Text in no_number t.text t.in_range c.args.bytes.now c.args.at c.in-None.ensures

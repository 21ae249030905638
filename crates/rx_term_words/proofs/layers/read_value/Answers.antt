use Rattle.std.proofs.Common.{refl, codes}
use Rattle.rx_text.specs.Polynomials.{polynomials}
use Rattle.rx_text.proofs.Readable.{polynomials_unambiguous}
use Rattle.rx_term_words.proofs.Bracketed.{no_after}
use Rattle.rx_term_words.proofs.layers.read_value.Goals as goal

pub returns-in-None : goal.returns-in-None
returns-in-None c =
    let value = rw c.in-Some-2.is at c.in_ok-value.ensures in
    no_after (codes "ret(") polynomials (codes ")") (λ left. refl) c.args.bytes.now c.args.at
    polynomials_unambiguous c.in-Some.ensures value c.in-None.ensures

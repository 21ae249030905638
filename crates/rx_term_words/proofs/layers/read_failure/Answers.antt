use Rattle.std.proofs.Common.{refl, codes}
use Rattle.rx_text.specs.Numbers.{naturals}
use Rattle.rx_term_words.proofs.Bracketed.{no_after}
use Rattle.rx_term_words.proofs.LayerLaws.{codes_once}
use Rattle.rx_term_words.proofs.layers.read_failure.Goals as goal

pub returns-in-None : goal.returns-in-None
returns-in-None c =
    no_after (codes "fail(") (naturals 255) (codes ")") (λ left. refl) c.args.bytes.now c.args.at
    codes_once c.in-Some.ensures c.in-Some-read_natural.ensures c.in-None.ensures

use Rattle.rx_term_words.proofs.TermLaws.{terms_once}
use Rattle.rx_term_words.proofs.laws.terms_have_one_reading.Goals as goal

pub returns : goal.returns
returns c = terms_once

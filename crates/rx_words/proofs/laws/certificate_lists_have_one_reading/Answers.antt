use Rattle.rx_words.proofs.CertLaws.{certificate_lists_once}
use Rattle.rx_words.proofs.laws.certificate_lists_have_one_reading.Goals as goal

pub returns : goal.returns
returns c = certificate_lists_once

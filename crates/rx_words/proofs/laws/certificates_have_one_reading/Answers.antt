use Rattle.rx_words.proofs.CertLaws.{certificates_once}
use Rattle.rx_words.proofs.laws.certificates_have_one_reading.Goals as goal

pub returns : goal.returns
returns c = certificates_once 200

use Rattle.rx_words.proofs.CertLaws.{certificates_once}
use Rattle.rx_words.proofs.certificates.read_certs.Goals as goal

pub read_list-requires : goal.read_list-requires
read_list-requires c = record { once = certificates_once 200 }

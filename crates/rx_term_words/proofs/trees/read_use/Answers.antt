-- Where the number, the space or the certificates are missing, they aren't there.
use Rattle.rx_words.specs.Certificates.{certificate_lists}
use Rattle.rx_words.specs.Words.{numbers}
use Rattle.rx_words.proofs.Joined.{no_middle, no_second}
use Rattle.rx_words.proofs.Once.{numbers_once}
use Rattle.rx_term_words.proofs.trees.read_use.Goals as goal

pub returns-in_default-skip_word : goal.returns-in_default-skip_word
returns-in_default-skip_word c =
    let first = rw c.in-Some.is at c.read_number.ensures in
    no_middle numbers.text numbers.in_range certificate_lists.text certificate_lists.in_range
    numbers_once first c.in_default-skip_word.ensures

pub returns-in_default-2 : goal.returns-in_default-2
returns-in_default-2 c =
    let first = rw c.in-Some.is at c.read_number.ensures in
    let none = rw c.in_default-2.is at c.in_ok-certs.ensures in
    no_second numbers.text numbers.in_range certificate_lists.text certificate_lists.in_range
    numbers_once first c.in-Some-skip_word.ensures none

use Rattle.rx_words.specs.Substitutions.{row_lists}
use Rattle.rx_term_words.specs.Terms.{terms}
use Rattle.rx_words.proofs.Joined.{no_middle, no_second}
use Rattle.rx_term_words.proofs.TermLaws.{terms_once}
use Rattle.rx_term_words.proofs.equations.read_right.Goals as goal

pub returns-in_default-skip_word : goal.returns-in_default-skip_word
returns-in_default-skip_word c =
    let right = rw c.in-Some.is at c.in_ok-right.ensures in
    no_middle terms.text terms.in_range row_lists.text row_lists.in_range terms_once right
    c.in_default-skip_word.ensures

pub returns-in-None : goal.returns-in-None
returns-in-None c =
    let right = rw c.in-Some.is at c.in_ok-right.ensures in
    let none = rw c.in-None.is at c.in_ok-rows.ensures in
    no_second terms.text terms.in_range row_lists.text row_lists.in_range terms_once right
    c.in-Some-skip_word.ensures none

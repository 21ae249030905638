-- Where one of the two or the space between them is missing, they aren't there.
use Rattle.rx_words.proofs.Joined.{no_middle, no_second}
use Rattle.rx_words.proofs.pairs.read_pair.Goals as goal

pub returns-in_default-skip_word : goal.returns-in_default-skip_word
returns-in_default-skip_word g c =
    let a = g.A.Text in let b = g.B.Text in
    let first = rw c.in-Some.is at c.in_ok-first.ensures in
    no_middle a.text a.in_range b.text b.in_range c.requires.once first
    c.in_default-skip_word.ensures

pub returns-in_default-2 : goal.returns-in_default-2
returns-in_default-2 g c =
    let a = g.A.Text in let b = g.B.Text in
    let first = rw c.in-Some.is at c.in_ok-first.ensures in
    let none = rw c.in_default-2.is at c.in_ok-second.ensures in
    no_second a.text a.in_range b.text b.in_range c.requires.once first c.in-Some-skip_word.ensures
    none

use Rattle.rx_words.proofs.Joined.{no_middle, no_second}
use Rattle.rx_rulefile.specs.RuleLines.{arities}
use Rattle.rx_rulefile.specs.SymbolParts.{kinds}
use Rattle.rx_rulefile.proofs.KindWords.{arities_once}
use Rattle.rx_rulefile.proofs.line_reading.read_shape.Goals as goal

pub returns-in_default-skip_word : goal.returns-in_default-skip_word
returns-in_default-skip_word c =
    no_middle arities.text arities.in_range kinds.text kinds.in_range arities_once c.in-Some.ensures
    c.in_default-skip_word.ensures

pub returns-in-None : goal.returns-in-None
returns-in-None c =
    no_second arities.text arities.in_range kinds.text kinds.in_range arities_once c.in-Some.ensures
    c.in-Some-skip_word.ensures c.in-None.ensures

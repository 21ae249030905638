use Rattle.rx_words.proofs.Joined.{no_middle, no_second}
use Rattle.rx_rulefile.specs.RuleLines.{symbol_numbers}
use Rattle.rx_rulefile.specs.SymbolParts.{shapes}
use Rattle.rx_rulefile.proofs.KindWords.{symbol_numbers_once}
use Rattle.rx_rulefile.proofs.line_reading.read_numbered.Goals as goal

pub returns-in_default-skip_word : goal.returns-in_default-skip_word
returns-in_default-skip_word c =
    no_middle symbol_numbers.text symbol_numbers.in_range shapes.text shapes.in_range symbol_numbers_once c.in-Some.ensures
    c.in_default-skip_word.ensures

pub returns-in-None : goal.returns-in-None
returns-in-None c =
    no_second symbol_numbers.text symbol_numbers.in_range shapes.text shapes.in_range symbol_numbers_once c.in-Some.ensures
    c.in-Some-skip_word.ensures c.in-None.ensures

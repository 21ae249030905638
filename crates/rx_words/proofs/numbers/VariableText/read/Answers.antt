use Rattle.std.proofs.Common.{ℕ, Option, subst}
use Rattle.rx_text.specs.Formats.{Reads}
use Rattle.rx_words.specs.Words.{variables}
use Rattle.rx_words.proofs.Once.{variable_reads}
use Rattle.rx_words.proofs.numbers.VariableText.read.Goals as goal

pub returns-in-None : goal.returns-in-None
returns-in-None c =
    let bytes = c.args.bytes.now in
    let read : Reads variables bytes c.args.at c.ending_word.result =
    rw c.ending_word.ensures (variable_reads bytes c.args.at c.read_natural.result
    c.read_natural.ensures) in
    subst (λ (r : Option (ℕ × ℕ)). Reads variables bytes c.args.at r) c.in-None.is read

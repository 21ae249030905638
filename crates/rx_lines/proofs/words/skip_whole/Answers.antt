use Rattle.std.proofs.Common.{◌≡◌, ◌∙◌, sym, ap, true, false, drop}
use Rattle.std.proofs.lemmas.List.{append_cancel_left}
use Rattle.rx_text.specs.Formats.{is_over}
use Rattle.rx_words.specs.Words.{in_word}
use Rattle.rx_lines.proofs.words.skip_whole.Goals as goal

pub returns-else-ends_word : goal.returns-else-ends_word
returns-else-ends_word c = λ left over e.
    let same : drop c.in-Some.end c.args.bytes.now ≡ left =
    append_cancel_left c.args.word.now (drop c.in-Some.end c.args.bytes.now) left
    (sym c.in-Some.ensures.1.1 ∙ e) in
    let never : false ≡ true = c.if-ends_word.ensures ∙ ap (is_over in_word) same ∙ over in
    cc

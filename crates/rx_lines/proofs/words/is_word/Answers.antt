use Rattle.std.proofs.Common.{◌∙◌, sym, []}
use Rattle.std.proofs.lemmas.List.{append-nil}
use Rattle.rx_lines.proofs.words.is_word.Goals as goal

pub returns-in-None : goal.returns-in-None
returns-in-None c = (
  (λ h. absurd (let f = h in cc)),
  (λ e. absurd
      (c.in-None.ensures [] (e ∙ sym (append-nil c.args.word.now)))),
)

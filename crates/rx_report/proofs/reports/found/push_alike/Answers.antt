-- The parts one after the other are the line.
use Rattle.std.proofs.Common.{◌∙◌, ◌++◌, ap, append_assoc}
use Rattle.std.proofs.lemmas.Result.{on_ok_weaker}
use Rattle.std.specs.Prelude.{codes}
use Rattle.rx_text.specs.Numbers.{natural_text}
use Rattle.rx_report.specs.Texts.{last_text}
use Rattle.rx_report.proofs.reports.found.push_alike.Goals as goal

pub returns : goal.returns
returns c =
    let before = c.args.out.now.items in
    let points = natural_text c.args.points in
    let last = last_text (codes " undecided ") (natural_text c.args.undecided) in
    let both = c.in_ok-push_natural.ensures ∙
    ap (λ text. text ++ points) c.in_ok-push_word.ensures in
    on_ok_weaker c.push_undecided.result
    (λ h. h ∙ ap (λ text. text ++ last) both ∙
    append_assoc (before ++ codes "ALIKE points ") points last ∙
    append_assoc before (codes "ALIKE points ") (points ++ last))
    c.push_undecided.ensures

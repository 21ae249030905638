-- Both rows are shown, by both lists of certificates.
use Rattle.std.proofs.Common.{subst, [], ◌∷◌}
use Rattle.rx_row.specs.declared.row.Row.TheVariants.{Ge}
use Rattle.rx_solve.specs.Shown.{IsAllShown}
use Rattle.rx_rank.proofs.PairLaws.{falls_known}
use Rattle.rx_rank.proofs.pair_tests.try_falls.Goals as goal

pub returns-in-Ok-Shown-clause-answer : goal.returns-in-Ok-Shown-clause-answer
returns-in-Ok-Shown-clause-answer g c =
    let pair = c.args.pair.now in
    let here = c.in_ok-here.ensures in
    let told = subst (IsAllShown pair.phi (Ge c.in_ok-here.here ∷ [])) c.in-Ok-Shown.field-0-is
    c.in-Ok-Shown.ensures.answer in
    falls_known pair c.args.left.now c.args.right.now c.in_ok-here.here c.in-Ok-Shown.certs
    c.in_ok-later-in-Ok-Shown.later c.join.result here.0 here.1 told
    c.in_ok-later-in-Ok-Shown.ensures.answer c.join.ensures.made

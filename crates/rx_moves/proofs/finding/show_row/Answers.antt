-- The row is the only one of its list.
use Rattle.rx_moves.proofs.SuffixLaws.{row_answer}
use Rattle.rx_moves.proofs.finding.show_row.Goals as goal
use Rattle.rx_moves.proofs.finding.show_row.Goals.{in-Shown, in-NotShown, in-TooLarge}

pub returns-clause-answer : goal.returns-clause-answer
returns-clause-answer g c =
    let says = row_answer c.args.given.now c.args.row.now c.from_ref.result.now
    c.in_ok-show_all.field-0 in
    elim c.match-branch-2.branch [
      | in-Shown w ↦ says _ c.match-branch-2.result c.from_ref.ensures.value
          c.in_ok-show_all.ensures.answer w.in-Shown.is w.result-is
      | in-NotShown w ↦ says _ c.match-branch-2.result c.from_ref.ensures.value
          c.in_ok-show_all.ensures.answer w.in-NotShown.is w.result-is
      | in-TooLarge w ↦ says _ c.match-branch-2.result c.from_ref.ensures.value
          c.in_ok-show_all.ensures.answer w.in-TooLarge.is w.result-is
    ]

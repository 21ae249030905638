use Rattle.std.proofs.Common.{ap, sym, subst, ◌∙◌, List, ℕ}
use Rattle.rx_code.specs.Reached.{AreReached}
use Rattle.rx_translate.specs.Marks.{marked_from}
use Rattle.rx_translate.proofs.Walks.{listed}
use Rattle.rx_translate.proofs.reached.reached_functions.Goals as goal

pub returns : goal.returns
returns c =
    subst (λ (fs : List ℕ). AreReached c.args.program.now c.args.first c.args.second fs)
    (sym (c.in_ok-marked.ensures ∙ ap (marked_from 0) c.as_slice.ensures.value))
    (listed c.args.program.now c.args.first c.args.second c.in_ok-marks.marks.items
    c.in_ok-marks.ensures)

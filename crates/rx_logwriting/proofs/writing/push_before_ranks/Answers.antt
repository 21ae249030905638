-- The parts one after the other are the text of what comes before the ranks.
use Rattle.std.proofs.lemmas.Result.{on_ok_weaker}
use Rattle.rx_logwriting.proofs.Written.{front_joined}
use Rattle.rx_logwriting.proofs.writing.push_before_ranks.Goals as goal

pub returns : goal.returns
returns c =
    on_ok_weaker c.push_steps.result
    (front_joined c.args.out.now.items c.args.log.now c.in_ok-push_before_covers.ensures c.as_slice.ensures
    c.in_ok-push_covers.ensures c.version.ensures c.as_slice-2.ensures)
    c.push_steps.ensures

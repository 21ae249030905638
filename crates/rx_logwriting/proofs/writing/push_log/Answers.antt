-- The parts one after the other are the text of the log.
use Rattle.std.proofs.Common.{◌∙◌, ◌++◌, ap}
use Rattle.std.proofs.lemmas.Result.{on_ok_weaker}
use Rattle.std.specs.Prelude.{codes}
use Rattle.rx_log.specs.Lines.{behind_steps}
use Rattle.rx_logwriting.specs.Frames.{frame_texts}
use Rattle.rx_logwriting.proofs.Written.{log_written}
use Rattle.rx_logwriting.proofs.writing.push_log.Goals as goal

pub returns : goal.returns
returns c =
    let log = c.args.log.now in
    let both = c.in_ok-push_after_steps.ensures
    ∙ ap (λ text. text ++ frame_texts (behind_steps log)) c.in_ok-push_before_ranks.ensures
    in
    on_ok_weaker c.push_word.result
    (λ h. h ∙ ap (λ text. text ++ codes "EQUIVALENT\n") both ∙ log_written c.args.out.now.items log)
    c.push_word.ensures

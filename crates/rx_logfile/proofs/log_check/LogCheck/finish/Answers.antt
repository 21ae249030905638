use Rattle.std.proofs.Common.{◌≡◌, ◌≢◌, Result, Ok, Err, ap, subst}
use Rattle.rx_check.specs.declared.check_end.CheckEnd.{CheckEnd}
use Rattle.rx_check.specs.declared.check_end.CheckEnd.TheVariants.{NoMemory}
use Rattle.rx_logtext.specs.Readers.{Finishes}
use Rattle.rx_logtext.specs.declared.log_end.LogEnd.{LogEnd}
use Rattle.rx_logfile.proofs.LogFileLemmas.{bad_checked, log_checked, log_decided}
use Rattle.rx_logfile.proofs.log_check.LogCheck.finish.Goals as goal

pub returns-in-Ok-finish-clause-said : goal.returns-in-Ok-finish-clause-said
returns-in-Ok-finish-clause-said c = λ target bytes h.
    log_checked (Ok tt) h (c.in-Ok.ensures.finishes h.log h.front h.reader)
    (λ its s. c.in-Ok-finish.ensures.exact target its s)

pub returns-in-Ok-clause-said : goal.returns-in-Ok-clause-said
returns-in-Ok-clause-said c = λ target bytes h.
    log_checked (Err c.in-Err.end) h (c.in-Ok.ensures.finishes h.log h.front h.reader)
    (λ its s. c.in-Err.ensures.exact target its s)

pub returns-in-Err-BadLine-clause-said : goal.returns-in-Err-BadLine-clause-said
returns-in-Err-BadLine-clause-said c = λ target bytes h.
    bad_checked c.in-Err-BadLine.line h
    (subst (λ (e : LogEnd). Finishes h.log h.front (Err e)) c.in-Err-BadLine.field-0-is
    (c.in-Err-BadLine.ensures.finishes h.log h.front h.reader))

pub returns-in-Ok-clause-decided : goal.returns-in-Ok-clause-decided
returns-in-Ok-clause-decided c = λ target bytes h same.
    let failed : CheckEnd → Result (Unit {0}) CheckEnd = λ end. Err end in
    let is : c.in-Err.end ≡ NoMemory = cc in
    log_decided (failed c.in-Err.end ≢ failed NoMemory) h
    (c.in-Ok.ensures.finishes h.log h.front h.reader)
    (λ its s. c.in-Err.ensures.decided target its s) (ap failed is)

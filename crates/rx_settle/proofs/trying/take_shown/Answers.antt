-- The step is taken where the state has it.
use Rattle.rx_settle.proofs.DoneLaws.{done_err, done_ok, done_value}
use Rattle.rx_settle.proofs.trying.take_shown.Goals as goal

pub returns-clause-ok : goal.returns-clause-ok
returns-clause-ok c =
    done_ok c.of.result _ c.take.result c.where_done.result c.where_done.ensures c.take.ensures.ok

pub returns-clause-err : goal.returns-clause-err
returns-clause-err c =
    done_err c.of.result _ c.take.result c.where_done.result c.where_done.ensures c.take.ensures.err

pub returns-clause-trial : goal.returns-clause-trial
returns-clause-trial c =
    done_value c.of.result c.take.result c.where_done.result c.where_done.ensures _ c.of.ensures

use Rattle.std.proofs.Common.{◌≡◌}
use Rattle.rx_io.specs.Outside.{Rose}
use Rattle.rx_report.specs.declared.ends.Status.TheVariants as Ends
use Rattle.rx_cli.proofs.OneReport.{report_without_faults}
use Rattle.rx_cli.proofs.Written.{proofs_accepted}
use Rattle.rx_cli.proofs.laws.written_logs_are_accepted.Goals as goal

pub returns-clause-accepted : goal.returns-clause-accepted
returns-clause-accepted c = proofs_accepted

no_read_fault : Ends.Equivalent ≡ Ends.ReadFault → ⊥
no_read_fault e = cc

pub returns-clause-any : goal.returns-clause-any
returns-clause-any c = λ before after f effort name text searching checking a b asks asked report.
    proofs_accepted before after f effort name text searching checking asks asked
    (report_without_faults before (Rose a b) searching Ends.Equivalent text no_read_fault report)

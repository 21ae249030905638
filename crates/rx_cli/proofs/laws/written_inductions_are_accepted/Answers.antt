use Rattle.std.proofs.Common.{◌≡◌}
use Rattle.rx_io.specs.Outside.{Rose}
use Rattle.rx_report.specs.declared.ends.Status.TheVariants as Ends
use Rattle.rx_cli.proofs.OneReport.{report_without_faults}
use Rattle.rx_cli.proofs.Written.{inductions_accepted}
use Rattle.rx_cli.proofs.laws.written_inductions_are_accepted.Goals as goal

pub returns-clause-accepted : goal.returns-clause-accepted
returns-clause-accepted c = inductions_accepted

no_read_fault : Ends.Equivalent ≡ Ends.ReadFault → ⊥
no_read_fault e = cc

pub returns-clause-any : goal.returns-clause-any
returns-clause-any c = λ before after file effort name text searching replaying a b asks asked
    report. inductions_accepted before after file effort name text searching replaying asks asked
    (report_without_faults before (Rose a b) searching Ends.Equivalent text no_read_fault report)

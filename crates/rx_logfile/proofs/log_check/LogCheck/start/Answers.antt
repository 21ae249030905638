use Rattle.std.proofs.Common.{[]}
use Rattle.rx_term.specs.declared.rule_set.RuleParts.{RuleParts}
use Rattle.rx_logfile.specs.declared.log_check.LogCheck.{LogCheck}
use Rattle.rx_logfile.proofs.LogFileLemmas.{stands_first, starts}
use Rattle.rx_logfile.proofs.log_check.LogCheck.start.Goals as goal

pub returns-clause-stands : goal.returns-clause-stands
returns-clause-stands c =
    λ parts. stands_first parts c.args.goal c.new.ensures (c.in_ok-replayer.ensures.stands parts)

pub returns-clause-step : goal.returns-clause-step
returns-clause-step c =
    let check : LogCheck = record { reader = c.new.result; replayer = c.in_ok-replayer.replayer } in
    let parts : RuleParts = record { symbols = []; domains = []; rules = []; fails = 0 } in
    record {
      place =
          starts {check = check} parts c.args.goal c.new.ensures
          (c.in_ok-replayer.ensures.stands parts);
      roots = c.in_ok-replayer.ensures.roots;
    }

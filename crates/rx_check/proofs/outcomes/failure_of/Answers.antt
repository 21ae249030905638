use Rattle.std.proofs.Common.{Some, refl, subst, sym}
use Rattle.rx_check.specs.LineByLine.{IsFailureOf}
use Rattle.rx_check.proofs.LineFaults.{names_fault}
use Rattle.rx_check.proofs.outcomes.failure_of.Goals as goal

pub returns-in_default : goal.returns-in_default
returns-in_default c = record {
  ok =
      subst (λ outcome. IsFailureOf outcome (Some c.in-Err.end)) (sym c.in-Err.is)
      (refl, names_fault c.in-Err.end c.in_default.not-NoMemory);
  err = tt;
}

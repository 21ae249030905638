use Rattle.std.proofs.Common.{sym, length}
use Rattle.std.specs.List.{enumerate_from}
use Rattle.rx_poly.specs.Substitution.{updated_assignment}
use Rattle.rx_poly_laws.proofs.Locality.{same_value_below}
use Rattle.rx_term.specs.Assigned.{assigned}
use Rattle.rx_term.specs.Meaning.{values}
use Rattle.rx_term.proofs.AssignedLaws.{values-assigned, updated_assignment-arguments}
use Rattle.rx_term.proofs.Locality.{hold_too}
use Rattle.rx_term.proofs.laws.arguments_are_assignments.Goals as goal

pub returns-clause-variables : goal.returns-clause-variables
returns-clause-variables c = values-assigned

pub returns-clause-value : goal.returns-clause-value
returns-clause-value c =
    λ a ps p below. same_value_below (updated_assignment a (enumerate_from 0 ps))
    (assigned (values a ps))
    (length ps) p (updated_assignment-arguments a ps) below

pub returns-clause-rows : goal.returns-clause-rows
returns-clause-rows c = λ a ps rows below.
    let here = updated_assignment a (enumerate_from 0 ps) in
    let there = assigned (values a ps) in (
      hold_too here there (length ps) (updated_assignment-arguments a ps) rows below,
      hold_too there here (length ps) (λ v h. sym (updated_assignment-arguments a ps v h)) rows
          below,
    )

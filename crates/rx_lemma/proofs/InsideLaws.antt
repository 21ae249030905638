-- Without domains each equation stays inside, and no rows are required.
use Rattle.std.proofs.Common.{◌≡◌, ◌∙◌, ap, refl, Option, Some, None, List, []}
use Rattle.std.specs.Prelude.{option_and_then}
use Rattle.std.specs.Option.{option_map}
use Rattle.rx_plain.specs.Formed.{Formed, pure}
use Rattle.rx_row.specs.declared.row.Row.{Row}
use Rattle.rx_cert.specs.Showing.{all_shown}
use Rattle.rx_solve.specs.Refuter.{refuted}
use Rattle.rx_term.specs.declared.rule.Equation.{Equation}
use Rattle.rx_term.specs.declared.rule_set.RuleParts.{RuleParts}
use Rattle.rx_inference.proofs.InsideLaws.{nothing_inside}
use Rattle.rx_lemma.specs.Generalising.{kept_rows, new_rows}
use Rattle.rx_lemma.specs.InsideRows.{formed_required}
use Rattle.rx_lemma.specs.Lawful.{StaysInside}
use Rattle.rx_lemma.specs.LawfulGeneralisations.{NoDomainsRequireNothing}

pub stays_inside : (parts : RuleParts) (goal : Equation) → parts.domains ≡ [] →
    StaysInside parts goal
stays_inside parts goal none = record {
  within = ap (λ (f : Formed (List Row)). f.within) (nothing_inside parts none goal);
  follows = ap (λ (f : Formed (List Row)). all_shown refuted goal.rows f.form)
      (nothing_inside parts none goal);
}

pub nothing_required : NoDomainsRequireNothing
unfolding new_rows
nothing_required parts goal new ws none =
    ap (λ (f : Formed (List Row)).
    option_and_then (formed_required ws goal.rows f) (kept_rows parts goal new ws))
    (nothing_inside parts none new) ∙ same (kept_rows parts goal new ws)
  where
    same : (o : Option (List Row)) →
        option_and_then (formed_required ws goal.rows (pure [])) o ≡ option_map Some o
    same None = refl
    same (Some rows) = refl

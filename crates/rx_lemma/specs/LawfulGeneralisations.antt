-- The two generalisations of a goal are lawful steps; and what domains change of them.
use Rattle.std.specs.Prelude.{◌≡◌, ℕ, true, IfSome, All, Some, List, []}
use Rattle.std.specs.Option.{option_map}
use Rattle.rx_poly.specs.declared.body.Body.{Body}
use Rattle.rx_term.specs.Domains.{are_domains}
use Rattle.rx_term.specs.WellMade.{IsWellMade}
use Rattle.rx_term.specs.declared.rule.Equation.{Equation}
use Rattle.rx_term.specs.declared.rule_set.RuleParts.{RuleParts}
use Rattle.rx_lemma.specs.Generalising.{generalisations, kept_rows, new_rows}
use Rattle.rx_lemma.specs.Lawful.{IsGoal, IsLawful}

-- each that is found at a goal over well made rules, whose domains are over the arguments of their
-- symbols
abbrev pub GeneralisationsAreLawful : Type 0
GeneralisationsAreLawful =
    (parts : RuleParts) (goal : Equation) → IsWellMade parts →
    are_domains parts.symbols parts.domains ≡ true → IsGoal parts goal →
    IfSome (generalisations parts goal) (All (IsLawful parts goal))

-- without domains a new equation has just the rows that are kept
abbrev pub NoDomainsRequireNothing : Type 0
NoDomainsRequireNothing =
    (parts : RuleParts) (goal new : Equation) (ws : List (ℕ × Body)) → parts.domains ≡ [] →
    new_rows parts goal new ws ≡ option_map Some (kept_rows parts goal new ws)

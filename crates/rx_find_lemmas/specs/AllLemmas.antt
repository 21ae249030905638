-- The lemmas of an equation are all of its generalisations.
use Rattle.std.specs.Prelude.{◌≡◌, true}
use Rattle.rx_term.specs.Domains.{are_domains}
use Rattle.rx_term.specs.WellMade.{IsWellMade}
use Rattle.rx_term.specs.declared.rule.Equation.{Equation}
use Rattle.rx_term.specs.declared.rule_set.RuleParts.{RuleParts}
use Rattle.rx_lemma.specs.Generalising.{generalisations}
use Rattle.rx_lemma.specs.Lawful.{IsGoal}
use Rattle.rx_find_lemmas.specs.Finding.{lemmas_at}

-- at a goal over well made rules, whose domains are over the arguments of their symbols
abbrev pub GeneralisationsAreLemmas : Type 0
GeneralisationsAreLemmas =
    (parts : RuleParts) (goal : Equation) → IsWellMade parts →
    are_domains parts.symbols parts.domains ≡ true → IsGoal parts goal →
    lemmas_at parts goal ≡ generalisations parts goal

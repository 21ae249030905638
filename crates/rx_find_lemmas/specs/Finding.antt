-- The lemmas of a goal: of its generalisations, those whose step applies where the goal is alone.
use Rattle.std.specs.Prelude.{if◌then◌else◌, Option, Some, None, List, map, option_and_then}
use Rattle.std.specs.Option.{option_map}
use Rattle.rx_solve.specs.Attempts.{Tried, applying, is_noted}
use Rattle.rx_term.specs.declared.rule.Equation.{Equation}
use Rattle.rx_term.specs.declared.rule_set.RuleParts.{RuleParts}
use Rattle.rx_steps.specs.Alone.{alone}
use Rattle.rx_lemma.specs.Generalising.{generalisations}
use Rattle.rx_lemma.specs.Lemmas.{Generalisation}
use Rattle.rx_moves.specs.Moves.{Generalise}
use Rattle.rx_moves.specs.Trying.{Next, attempt}

-- the generalisation, where the step to it applies
abbrev pub where_applies : Generalisation → Tried Next → Tried Generalisation
where_applies g t = record { made = option_map (λ (next : Next). g) t.made; noted = t.noted }

-- those that apply; there is no list where something is noted
abbrev pub unless_noted : List (Tried Generalisation) → Option (List Generalisation)
unless_noted ts = if is_noted ts then None else Some (applying ts)

module _ (parts : RuleParts) (goal : Equation) where
  -- what comes of the step to a generalisation
  abbrev pub attempted : Generalisation → Tried Next
  attempted g = attempt parts (alone goal) (Generalise g.goal g.subst)

  abbrev pub tried : Generalisation → Tried Generalisation
  tried g = where_applies g (attempted g)

  abbrev pub lemmas_among : List Generalisation → Option (List Generalisation)
  lemmas_among gs = unless_noted (map tried gs)

-- the lemmas in order, or that something that is tried for them passes the limits
unfoldable pub lemmas_at : RuleParts → Equation → Option (List Generalisation)
lemmas_at parts goal = option_and_then (lemmas_among parts goal) (generalisations parts goal)

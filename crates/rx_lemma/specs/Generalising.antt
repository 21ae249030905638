-- Two generalisations of a goal. Both drop the rows that only give a variable its value, add the
-- rows of the rules at the calls of the new goal that the old rows show, and then those that put the
-- new goal inside the domains: where the old rows don't show one of these, there is no such lemma.
-- The second replaces polynomials that occur repeatedly with new variables.
use Rattle.std.specs.Prelude.{ℕ, ◌+◌, nat_le, if◌then◌else◌, Option, Some, None, List, [], ◌∷◌, ◌++◌, length, option_and_then}
use Rattle.std.specs.List.{list_any}
use Rattle.std.specs.Option.{option_map}
use Rattle.rx_poly.specs.declared.body.Body.{Body}
use Rattle.rx_row.specs.declared.row.Row.{Row}
use Rattle.rx_term.specs.Bounds.{equation_bound}
use Rattle.rx_term.specs.Domains.{inside_of}
use Rattle.rx_term.specs.declared.rule.Equation.{Equation}
use Rattle.rx_term.specs.declared.rule_set.RuleParts.{RuleParts}
use Rattle.rx_lemma.specs.InsideRows.{formed_required}
use Rattle.rx_lemma.specs.Lemmas.{variables_end}
use Rattle.rx_lemma.specs.Repeated.{new_variables, repeated, replaced_in}
use Rattle.rx_lemma.specs.RuleRows.{formed_added, rule_rows}
use Rattle.rx_lemma.specs.Values.{gives_value, other_rows}
use Rattle.rx_lemma.specs.Lemmas.{Generalisation}
use Rattle.rx_lemma.specs.declared.lemma.LemmaKind.{LemmaKind}
use Rattle.rx_lemma.specs.declared.lemma.LemmaKind.TheVariants.{DropValues, ReplaceRepeated}

-- a lemma, or none, or that something passes the limits
abbrev pub Found : Type 0
Found = Option (Option Generalisation)

-- the equation with those rows
abbrev pub over_rows : LemmaKind → Equation → List (ℕ × Body) → List Row → Generalisation
over_rows kind new ws rows =
    record {
      kind = kind;
      goal = record { left = new.left; right = new.right; rows = rows };
      subst =
          ws;
    }

-- the goal with the variables in place of their polynomials
abbrev pub replacing : Equation → List (ℕ × Body) → Equation
replacing goal ws =
    record { left = replaced_in ws goal.left; right = replaced_in ws goal.right; rows = goal.rows }

module _ (parts : RuleParts) (goal : Equation) where
  -- the goal's rows that don't give a value, and those of rules that are shown
  abbrev pub kept_rows : Equation → List (ℕ × Body) → Option (List Row)
  kept_rows new ws =
      formed_added ws goal.rows (rule_rows parts.rules new) (other_rows goal.rows)

  -- the rows of the new equation: these, and those that put it inside the domains
  unfoldable pub new_rows : Equation → List (ℕ × Body) → Option (Option (List Row))
  new_rows new ws =
      option_and_then (formed_required ws goal.rows (inside_of parts new)) (kept_rows new ws)

  -- the new equation with its rows
  unfoldable pub generalised : LemmaKind → Equation → List (ℕ × Body) → Found
  generalised kind new ws = option_map (option_map (over_rows kind new ws)) (new_rows new ws)

  -- ---- the first generalisation

  -- where a row gives a variable its value
  unfoldable pub without_values : Found
  without_values =
      if list_any gives_value goal.rows then generalised DropValues goal [] else Some None

  -- ---- the second

  unfoldable pub replacing_by : List (ℕ × Body) → Found
  replacing_by ws = generalised ReplaceRepeated (replacing goal ws) ws

  -- where there are such polynomials, and enough variables
  unfoldable pub replacing_all : List Body → Found
  replacing_all [] = Some None
  replacing_all (p ∷ ps) =
      if nat_le (equation_bound goal + length (p ∷ ps)) variables_end
      then replacing_by (new_variables (equation_bound goal) (p ∷ ps))
      else Some None

  abbrev pub replacing_repeated : Found
  replacing_repeated = replacing_all (repeated goal)

-- ---- both

-- that alone, if there is one
abbrev pub as_list : {A : Type 0} → Option A → List A
as_list None = []
as_list (Some found) = found ∷ []

abbrev pub both_found : Found → Found → Option (List Generalisation)
both_found None second = None
both_found (Some first) None = None
both_found (Some first) (Some second) = Some (as_list first ++ as_list second)

-- the lemmas in order, or that something that is tried for them passes the limits
unfoldable pub generalisations : RuleParts → Equation → Option (List Generalisation)
generalisations parts goal =
    both_found (without_values parts goal) (replacing_repeated parts goal)

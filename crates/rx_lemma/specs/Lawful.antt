-- Lemmas as lawful steps: a step of kind Generalise on to the lemma is formed, and the refuter
-- shows what it asks. It asks of the lemma alone that it stays inside the domains; without domains
-- that is nothing.
use Rattle.std.specs.Prelude.{◌≡◌, true, Ok, List}
use Rattle.std.specs.List.{list_all}
use Rattle.rx_poly.specs.Normal.{is_poly}
use Rattle.rx_row.specs.Parts.{poly_of}
use Rattle.rx_row.specs.declared.row.Row.{Row}
use Rattle.rx_cert.specs.Findings.{Yes}
use Rattle.rx_cert.specs.Showing.{all_shown}
use Rattle.rx_solve.specs.Refuter.{refuted}
use Rattle.rx_term.specs.Domains.{inside_of}
use Rattle.rx_term.specs.Variables.{arguments_of}
use Rattle.rx_term.specs.declared.rule.Equation.{Equation}
use Rattle.rx_term.specs.declared.rule_set.RuleParts.{RuleParts}
use Rattle.rx_inference.specs.Kinds.{generalised}
use Rattle.rx_inference.specs.Making.{asking_inside}
use Rattle.rx_inference.specs.Pieces.{is_equation}
use Rattle.rx_lemma.specs.Lemmas.{Generalisation}

-- the rows that put an equation inside the domains keep the limits, and the refuter shows them
-- under its rows
pub record StaysInside (parts : RuleParts) (goal : Equation) : Type 0 where
  pub within : (inside_of parts goal).within ≡ true
  pub follows : all_shown refuted goal.rows (inside_of parts goal).form ≡ Yes

-- the step on to the lemma is formed, and the refuter shows the rows that it asks under those of
-- the goal, and those that it asks under those of the lemma
pub record IsLawful (parts : RuleParts) (goal : Equation) (lemma : Generalisation) : Type 0 where
  pub rows : List Row
  pub inside : List Row
  pub formed : generalised parts goal lemma.goal lemma.subst ≡
      Ok (asking_inside rows inside lemma.goal)
  pub follows : all_shown refuted goal.rows rows ≡ Yes
  pub stays : all_shown refuted lemma.goal.rows inside ≡ Yes

-- so it is where the lemma stays inside the domains
abbrev pub IsLawfulInside : RuleParts → Equation → Generalisation → Type 0
IsLawfulInside parts goal lemma = StaysInside parts lemma.goal → IsLawful parts goal lemma

-- what each goal of the program is: an equation over the rules, whose polynomials are normal forms
-- within the limits
pub record IsGoal (parts : RuleParts) (goal : Equation) : Type 0 where
  pub equation : is_equation parts goal ≡ true
  pub left : list_all is_poly (arguments_of goal.left) ≡ true
  pub right : list_all is_poly (arguments_of goal.right) ≡ true
  pub rows : list_all (λ row. is_poly (poly_of row)) goal.rows ≡ true

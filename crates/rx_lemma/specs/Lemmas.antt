-- Lemmas without what shows them.
use Rattle.std.specs.Prelude.{ℕ, List}
use Rattle.rx_poly.specs.declared.body.Body.{Body}
use Rattle.rx_term.specs.declared.rule.Equation.{Equation}
use Rattle.rx_lemma.specs.declared.generalised.Generalised.{Generalised}
use Rattle.rx_lemma.specs.declared.lemma.LemmaKind.{LemmaKind}

-- no new variable has this number or one above
abbrev pub variables_end : ℕ
variables_end = 1000000

-- an equation that is more general than a goal, and what makes it into the goal
pub record Generalisation : Type 0 where
  pub kind : LemmaKind
  pub goal : Equation
  pub subst : List (ℕ × Body)

-- what is found as plain data
abbrev pub found_as : Generalised → Generalisation
found_as found = record { kind = found.kind; goal = found.goal; subst = found.subst }

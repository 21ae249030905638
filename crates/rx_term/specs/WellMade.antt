-- Rule sets that are well made.
use Rattle.std.specs.Prelude.{◌≡◌, ℕ, zero, suc, ◌+◌, ◌^◌, ◌≤◌, true, List, [], ◌∷◌, All, length}
use Rattle.rx_poly.specs.Constants.{variable}
use Rattle.rx_poly.specs.declared.body.Body.{Body}
use Rattle.rx_term.specs.Fitting.{term_fits}
use Rattle.rx_row.specs.Variables.{rows_use_below}
use Rattle.rx_term.specs.Variables.{arguments_of, term_uses_below}
use Rattle.rx_term.specs.declared.rule.Rule.{Rule}
use Rattle.rx_term.specs.declared.rule_set.RuleParts.{RuleParts}
use Rattle.rx_term.specs.declared.term.Sym.{Sym}
use Rattle.rx_term.specs.declared.term.Term.{Term}
use Rattle.rx_term.specs.declared.term.Term.TheVariants.{Return, Fail, Call, Frame}

-- n variables in order, from that number on
abbrev pub variables_from : ℕ → ℕ → List Body
variables_from from zero = []
variables_from from (suc n) = variable from ∷ variables_from (from + 1) n

-- a left side: a point over v0, v1, .., or a frame over these and over the next variable or a
-- failure code
pub data IsLeft : Term → Type 0 where
  OfPoint : (f : Sym) (n : ℕ) → IsLeft (Call f (variables_from 0 n))
  OverReturn : (f : Sym) (n : ℕ) → IsLeft (Frame f (variables_from 0 n) (Return (variable n)))
  OverFail : (f : Sym) (n c : ℕ) → IsLeft (Frame f (variables_from 0 n) (Fail c))

-- how many variables a left side has
abbrev pub width : Term → ℕ
width left = length (arguments_of left)

-- a rule that is well made: its left side is one, its terms fit, and no variable occurs in it but
-- those of the left side, of which there are at most as many as there are variables
pub record IsMade (parts : RuleParts) (rule : Rule) : Type 0 where
  pub form : IsLeft rule.left
  pub few : width rule.left ≤ 2 ^ 31
  pub left_fits : term_fits parts rule.left ≡ true
  pub right_fits : term_fits parts rule.right ≡ true
  pub right_variables : term_uses_below (width rule.left) rule.right ≡ true
  pub row_variables : rows_use_below (width rule.left) rule.rows ≡ true

-- each rule is
abbrev pub IsWellMade : RuleParts → Type 0
IsWellMade parts = All (IsMade parts) parts.rules

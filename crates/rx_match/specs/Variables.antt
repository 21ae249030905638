-- Tests that all variables of terms, rules, equations and substitutions pass, at every level.
use Rattle.std.specs.Prelude.{ℕ, Bool, ◌&&◌, List}
use Rattle.std.specs.List.{list_all}
use Rattle.rx_poly.specs.declared.body.Body.{Body}
use Rattle.rx_poly_laws.specs.Tests.{passes}
use Rattle.rx_cert.specs.Variables.{rows_pass}
use Rattle.rx_term.specs.Variables.{arguments_of}
use Rattle.rx_term.specs.declared.rule.Equation.{Equation}
use Rattle.rx_term.specs.declared.rule.Rule.{Rule}
use Rattle.rx_term.specs.declared.term.Term.{Term}

-- those of polynomials pass the test
abbrev pub polys_pass : (ℕ → Bool) → List Body → Bool
polys_pass test ps = list_all (passes test) ps

-- those of a term
abbrev pub term_passes : (ℕ → Bool) → Term → Bool
term_passes test t = polys_pass test (arguments_of t)

-- those of both sides and the rows of an equation
abbrev pub equation_passes : (ℕ → Bool) → Equation → Bool
equation_passes test e =
    term_passes test e.left && (term_passes test e.right && rows_pass test e.rows)

-- of a rule
abbrev pub rule_passes : (ℕ → Bool) → Rule → Bool
rule_passes test r = term_passes test r.left && (term_passes test r.right && rows_pass test r.rows)

-- the variables that are replaced, and those of the polynomials that replace them
abbrev pub replacement_passes : (ℕ → Bool) → ℕ × Body → Bool
replacement_passes test w = test w.0 && passes test w.1

abbrev pub substitution_passes : (ℕ → Bool) → List (ℕ × Body) → Bool
substitution_passes test ws = list_all (replacement_passes test) ws

-- Two proofs. The first keeps a hypothesis and uses it: two points that both fail.
--
--   0  s0() -> fail(1)
--   1  s1() -> fail(1)
--
-- The second is inside a domain, outside of which its rule doesn't apply: v0 >= 0 at s0.
--
--   0  s0(v0) -> ret(v0)   [v0 >= 0]
use Rattle.std.specs.Prelude.{true, false, [], ◌∷◌, pos}
use Rattle.rx_poly.specs.Constants.{number, variable}
use Rattle.rx_row.specs.declared.row.Row.{Row}
use Rattle.rx_row.specs.declared.row.Row.TheVariants.{Ge}
use Rattle.rx_term.specs.declared.rule.Equation.{Equation}
use Rattle.rx_term.specs.declared.rule.Rule.{Rule}
use Rattle.rx_term.specs.declared.rule_set.RuleParts.{RuleParts}
use Rattle.rx_term.specs.declared.rule_set.SymInfo.{SymInfo}
use Rattle.rx_term.specs.declared.term.Sym.{Sym}
use Rattle.rx_term.specs.declared.term.Term.{Term}
use Rattle.rx_term.specs.declared.term.Term.TheVariants.{Call, Fail, Return}
use Rattle.rx_inference.specs.States.{State}
use Rattle.rx_inference.specs.declared.step.Side.TheVariants.{Left}
use Rattle.rx_inference.specs.declared.step.Step.{Step}
use Rattle.rx_inference.specs.declared.step.Step.TheVariants.{Hyp}
use Rattle.rx_pairs.specs.declared.table.RankTable.{RankTable}

-- the two points
abbrev pub f : Sym
f = record { 0 = 0 }

abbrev pub g : Sym
g = record { 0 = 1 }

-- a point without arguments
abbrev pub point : SymInfo
point = record { arity = 0; frame = false; entry = true; head = false }

-- it fails
abbrev pub fails : Sym → Rule
fails s = record { left = Call s []; right = Fail 1; rows = [] }

abbrev pub example : RuleParts
example = record { symbols = point ∷ point ∷ []; domains = []; rules = fails f ∷ fails g ∷ []; fails = 1 }

-- two terms are equal everywhere
abbrev pub equal : Term → Term → Equation
equal s t = record { left = s; right = t; rows = [] }

-- both points are
abbrev pub alike : Equation
alike = equal (Call f []) (Call g [])

-- the hypothesis that is kept, from left to right
abbrev pub hypothesis : Rule
hypothesis = record { left = Call f []; right = Call g []; rows = [] }

-- it is used on the left side
abbrev pub by_hypothesis : Step
by_hypothesis = Hyp Left 0 0 [] []

-- a goal, where the hypothesis is known
abbrev pub knowing : Equation → State
knowing goal = record { goals = goal ∷ []; hypotheses = hypothesis ∷ [] }

-- one column: 1 for the first point, 0 for the second
abbrev pub table : RankTable
table = record { columns = 1; ranks = (number (pos 1) ∷ []) ∷ (number (pos 0) ∷ []) ∷ [] }

-- ---- inside a domain

-- the integer is at least 0
abbrev pub at_least_zero : Row
at_least_zero = Ge (variable 0)

-- a point with one argument
abbrev pub with_argument : SymInfo
with_argument = record { arity = 1; frame = false; entry = true; head = false }

-- its call
abbrev pub at_variable : Term
at_variable = Call f (variable 0 ∷ [])

-- it gives its argument where that is at least 0
abbrev pub gives : Rule
gives = record { left = at_variable; right = Return (variable 0); rows = at_least_zero ∷ [] }

abbrev pub bounded : RuleParts
bounded = record {
  symbols = with_argument ∷ [];
  domains = (at_least_zero ∷ []) ∷ [];
  rules = gives ∷ [];
  fails = 1;
}

-- and so the call is equal to the argument there
abbrev pub given_back : Equation
given_back = record {
  left = at_variable;
  right = Return (variable 0);
  rows = at_least_zero ∷ [];
}

-- no column
abbrev pub no_columns : RankTable
no_columns = record { columns = 0; ranks = [] ∷ [] }

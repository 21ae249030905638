-- The parts of which steps are formed: sides, equal polynomials, rules over other polynomials,
-- substitutions.
use Rattle.std.specs.Prelude.{ℕ, ◌+◌, ◌^◌, nat_le, nat_lt, Bool, true, ◌&&◌, Option, Some, None, List, [], ◌∷◌, map}
use Rattle.std.specs.List.{list_all}
use Rattle.rx_plain.specs.Formed.{Formed, ◌>>=◌, ◌<$>◌}
use Rattle.rx_poly.specs.Variables.{variable_bound}
use Rattle.rx_poly.specs.declared.body.Body.{Body}
use Rattle.rx_row.specs.Membership.{pushed}
use Rattle.rx_row.specs.Substitution.{rows_with}
use Rattle.rx_row.specs.declared.row.Row.{Row}
use Rattle.rx_row.specs.declared.row.Row.TheVariants as row
use Rattle.rx_term.specs.Bounds.{equation_bound}
use Rattle.rx_term.specs.Differences.{differences, term_differences}
use Rattle.rx_term.specs.Fitting.{term_fits}
use Rattle.rx_term.specs.Shapes.{same_shape, shape_of}
use Rattle.rx_term.specs.Substitution.{term_with}
use Rattle.rx_term.specs.declared.rule.Equation.{Equation}
use Rattle.rx_term.specs.declared.rule.Rule.{Rule}
use Rattle.rx_term.specs.declared.rule_set.RuleParts.{RuleParts}
use Rattle.rx_term.specs.declared.term.Term.{Term, Term-F, out-Term}
use Rattle.rx_inference.specs.declared.formed_step.Asked.TheVariants as asked
use Rattle.rx_inference.specs.declared.formed_step.FormedStep.{FormedStep}
use Rattle.rx_inference.specs.declared.formed_step.Under.TheVariants as under
use Rattle.rx_inference.specs.declared.pieces.RuleInstance.{RuleInstance}
use Rattle.rx_inference.specs.declared.step.Side.{Side}
use Rattle.rx_inference.specs.declared.step.Side.TheVariants.{Left, Right}

-- ---- terms

-- the two terms have one shape
abbrev pub have_one_shape : Term → Term → Bool
have_one_shape s t = same_shape (shape_of s) (shape_of t)

-- ---- sides

-- the left side, or the right one
abbrev pub side_of : Side → Equation → Term
side_of Left goal = goal.left
side_of Right goal = goal.right

-- the right side, or the left one
abbrev pub other_side : Side → Equation → Term
other_side Left goal = goal.right
other_side Right goal = goal.left

-- the goal with another term as that side
abbrev pub with_side : Side → Equation → Term → Equation
with_side Left goal t = record { left = t; right = goal.right; rows = goal.rows }
with_side Right goal t = record { left = goal.left; right = t; rows = goal.rows }

-- ---- rows

-- the rows with more after them, each added unless it is one of them
abbrev pub all_pushed : List Row → List Row → List Row
all_pushed rows [] = rows
all_pushed rows (r ∷ rs) = all_pushed (pushed rows r) rs

-- so of a goal
abbrev pub with_rows : Equation → List Row → Equation
with_rows goal rows =
    record { left = goal.left; right = goal.right; rows = all_pushed goal.rows rows }

-- each polynomial is 0
abbrev pub all_zero : List Body → List Row
all_zero ps = map row.Eq ps

-- the polynomials of two lists are equal, one by one
abbrev pub equal_lists : List Body → List Body → Formed (List Row)
equal_lists ps qs = all_zero <$> differences ps qs

-- the polynomials of two terms of one shape are equal, one by one
abbrev pub equal_arguments : Term → Term → Formed (List Row)
equal_arguments s t = all_zero <$> term_differences s t

-- ---- rules and substitutions

-- a rule with polynomials in place of its variables: its rows, and its right side
abbrev pub rule_with : List (ℕ × Body) → Rule → Formed RuleInstance
rule_with ws rule = do
  rows ← rows_with ws rule.rows
  (λ right. record { rows = rows; right = right }) <$> term_with ws rule.right

-- the outermost frame of a term: its symbol, its polynomials, and what it is over
pub record TopFrame : Type 0 where
  pub symbol : ℕ
  pub arguments : List Body
  pub inner : Term

-- there is none where the term is a call or a result
abbrev pub top_frame_level : Term-F Term → Option TopFrame
top_frame_level (Term-F.Return p) = None
top_frame_level (Term-F.Fail c) = None
top_frame_level (Term-F.Call f ps) = None
top_frame_level (Term-F.Frame f ps inner) =
    Some (record { symbol = f.0; arguments = ps; inner = inner })

-- so of a term
abbrev pub top_frame : Term → Option TopFrame
top_frame t = top_frame_level (out-Term t)

-- the numbers of variables are below this
abbrev pub variable_limit : ℕ
variable_limit = 2 ^ 31

-- the numbers of the variables rise, the first being at least `from`
abbrev pub rises : ℕ → List (ℕ × Body) → Bool
rises from [] = true
rises from (w ∷ ws) = nat_le from w.0 && rises (w.0 + 1) ws

-- the number of the variable, and the variables of what replaces it, are below the limit
abbrev pub is_replacement : ℕ × Body → Bool
is_replacement w = nat_lt w.0 variable_limit && nat_le (variable_bound w.1) variable_limit

-- both are so of the whole list
abbrev pub is_substitution : List (ℕ × Body) → Bool
is_substitution ws = rises 0 ws && list_all is_replacement ws

-- both sides fit the rules, and all variables of them and of the rows are below the limit
abbrev pub is_equation : RuleParts → Equation → Bool
is_equation parts e =
    (term_fits parts e.left && term_fits parts e.right) && nat_le (equation_bound e) variable_limit

-- ---- what is formed

-- rows asked under those of the goal, new goals, and no hypothesis
abbrev pub asking : List Row → List Equation → FormedStep
asking rows goals =
    record {
      asked = asked.Rows (record { under = under.Goal; rows = rows } ∷ []);
      goals = goals;
      kept = [];
    }

-- new goals and hypotheses; nothing is asked
abbrev pub asking_nothing : List Equation → List Rule → FormedStep
asking_nothing goals kept = record { asked = asked.Rows []; goals = goals; kept = kept }

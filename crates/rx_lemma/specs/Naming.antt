-- Naming: each constant in a call of a loop's head becomes a variable, which a row gives that
-- value. It is the variable that is alone at the same place of the other side's call, where that is
-- of the same symbol and has the value by a row; else it is a new one, with such a row.
use Rattle.std.specs.Prelude.{◌≡◌, ℕ, zero, suc, ◌+◌, nat_lt, Bool, ◌||◌, if◌then◌else◌, Option, Some, None, Result, Ok, Err, List, [], ◌∷◌, ◌++◌, length, ℤ}
use Rattle.std.specs.List.{list_any}
use Rattle.std.specs.Option.{is_some, option_map_or}
use Rattle.rx_plain.specs.Formed.{Formed, ◌<$>◌}
use Rattle.rx_poly.specs.Constants.{number}
use Rattle.rx_poly.specs.declared.body.Body.{Body}
use Rattle.rx_poly.specs.declared.poly_end.PolyEnd.{PolyEnd}
use Rattle.rx_poly.specs.declared.poly_end.PolyEnd.TheVariants.{Large}
use Rattle.rx_row.specs.Membership.{pushed, stands_among}
use Rattle.rx_row.specs.Naming.{named}
use Rattle.rx_row.specs.declared.row.Row.{Row}
use Rattle.rx_solve.specs.Attempts.{Tried, applies, beyond, fails}
use Rattle.rx_term.specs.Bounds.{equation_bound}
use Rattle.rx_term.specs.declared.rule.Equation.{Equation}
use Rattle.rx_term.specs.declared.rule_set.RuleParts.{RuleParts}
use Rattle.rx_inference.specs.Pieces.{other_side, side_of, with_side}
use Rattle.rx_inference.specs.declared.step.Side.{Side}
use Rattle.rx_inference.specs.declared.step.Side.TheVariants.{Left, Right}
use Rattle.rx_lemma.specs.Calls.{Applied, call_of, constant}
use Rattle.rx_lemma.specs.NamingCalls.{constant_at, is_loop_head, variable_at, with_variable}
use Rattle.rx_lemma.specs.declared.constants.Naming.{Naming}
use Rattle.rx_lemma.specs.Lemmas.{Generalisation, variables_end}
use Rattle.rx_lemma.specs.declared.lemma.LemmaKind.TheVariants.{NameConstants}

-- ---- what is tried

-- what is tried with something that is formed
abbrev pub where_formed : {A B : Type 0} → Formed A → (A → Tried B) → Tried B
where_formed f next = if f.within then next f.form else beyond

-- first something is made, and then what is tried with it
abbrev pub and_then : {A B : Type 0} → Tried A → (A → Tried B) → Tried B
and_then {A} {B} first next =
    option_map_or next first.made (record { made = None; noted = first.noted })

-- an answer that says what comes of trying something; that memory runs out is free
abbrev pub Answers : {A : Type 0} → Tried A → Result (Option A) PolyEnd → Type 0
Answers tried (Ok None) = tried ≡ fails
Answers tried (Ok (Some x)) = tried ≡ applies x
Answers tried (Err e) = e ≡ Large → tried ≡ beyond

-- ---- one constant

-- the goal with one more row
abbrev pub with_row : Row → Equation → Equation
with_row r goal = record { left = goal.left; right = goal.right; rows = pushed goal.rows r }

-- whether one of the rows gives the variable the value
abbrev pub gives : ℕ → ℤ → List Row → Formed Bool
gives v c rows = (λ r. stands_among rows r) <$> named v c

module _ (side : Side) (place : ℕ) where
  -- the goal with the variable at that place of the side's call
  abbrev pub goal_with : ℕ → Equation → Equation
  goal_with v goal = with_side side goal (with_variable place v (side_of side goal))

  -- a variable that has the value by a row
  abbrev pub named_as : ℕ → Naming → Naming
  named_as v n = record { goal = goal_with v n.goal; subst = n.subst; fresh = n.fresh }

  -- a new variable, with its row
  abbrev pub named_new : ℤ → Row → Naming → Naming
  named_new c r n = record {
    goal = with_row r (goal_with n.fresh n.goal);
    subst = n.subst ++ (n.fresh, number c) ∷ [];
    fresh = n.fresh + 1;
  }

  -- it doesn't apply where there are no more variables
  unfoldable pub naming_new : ℤ → Naming → Tried Naming
  naming_new c n =
      if nat_lt n.fresh variables_end then where_formed (named n.fresh c)
      (λ r. applies (named_new c r n)) else fails

  -- the variable where a row gives it the value, or a new one
  abbrev pub naming_by : ℤ → Naming → Option ℕ → Tried Naming
  naming_by c n None = naming_new c n
  naming_by c n (Some v) =
      where_formed (gives v c n.goal.rows) (λ yes. if yes then applies (named_as v n) else
      naming_new c n)

  -- the other side's call is as it is by then
  unfoldable pub naming_constant : ℤ → Naming → Tried Naming
  naming_constant c n =
      naming_by c n (variable_at place (side_of side n.goal) (other_side side n.goal))

  -- where there is no constant at the place the goal stays as it is
  abbrev pub naming_if : Naming → Option ℤ → Tried Naming
  naming_if n None = applies n
  naming_if n (Some c) = naming_constant c n

  unfoldable pub naming_at : Naming → Tried Naming
  naming_at n = naming_if n (constant_at place (side_of side n.goal))

-- ---- all constants

-- n places of a side, from one on
unfoldable pub naming_from : Side → ℕ → ℕ → Naming → Tried Naming
naming_from side place zero n = applies n
naming_from side place (suc count) n =
    and_then (naming_at side place n) (naming_from side (place + 1) count)

module _ (parts : RuleParts) where
  -- the arguments of a call, where it is one of a loop's head
  abbrev pub head_arguments : Option Applied → List Body
  head_arguments None = []
  head_arguments (Some call) = if is_loop_head parts call.symbol.0 then call.arguments else []

  -- those of the call of a side
  abbrev pub named_arguments : Side → Equation → List Body
  named_arguments side goal = head_arguments (call_of (side_of side goal))

  -- one of them is a constant
  abbrev pub has_constant : Side → Equation → Bool
  has_constant side goal = list_any (λ p. is_some (constant p)) (named_arguments side goal)

  -- the left side first
  abbrev pub naming_both : Equation → Tried Naming
  naming_both goal =
      and_then
      (naming_from Left 0 (length (named_arguments Left goal))
      (record { goal = goal; subst = []; fresh = equation_bound goal }))
      (naming_from Right 0 (length (named_arguments Right goal)))

  -- what is found
  abbrev pub named_goal : Naming → Generalisation
  named_goal n = record { kind = NameConstants; goal = n.goal; subst = n.subst }

  -- the goal with its constants named; it doesn't apply where there are none
  unfoldable pub naming_of : Equation → Tried Generalisation
  naming_of goal =
      if has_constant Left goal || has_constant Right goal
      then and_then (naming_both goal) (λ (n : Naming). applies (named_goal n))
      else fails

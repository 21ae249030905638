-- Variables that are set by equations, one after the other.
use Rattle.std.specs.Prelude.{ℕ, zero, suc, ◌==◌, not, if◌then◌else◌, Option, Some, None, List, [], ◌∷◌, filter}
use Rattle.std.specs.List.{list_all}
use Rattle.rx_plain.specs.Formed.{Formed, fold_formed, pure, ◌>>=◌, ◌<$>◌}
use Rattle.rx_poly.specs.Substitution.{subst_body}
use Rattle.rx_poly.specs.Variables.{variables}
use Rattle.rx_poly.specs.declared.body.Body.{Body}
use Rattle.rx_row.specs.declared.row.Row.{Row}
use Rattle.rx_row.specs.declared.row.Row.TheVariants.{Ge, Eq, Ne}
use Rattle.rx_cert.specs.Elimination.{solution_formed}
use Rattle.rx_match.specs.Settings.{is_set, set_to}

-- the variables of the polynomial that aren't set
abbrev pub unset_in : List (ℕ × Body) → Body → List ℕ
unset_in ws p = filter (λ x. not (is_set ws x)) (variables p)

-- the variable that all of these are
abbrev pub only_one : List ℕ → Option ℕ
only_one [] = None
only_one (x ∷ xs) = if list_all (λ y. y == x) xs then Some x else None

-- the variable is set to the instance of its value, where it has one
abbrev pub set_to_value : List (ℕ × Body) → ℕ → Option Body → Formed (List (ℕ × Body))
set_to_value ws x None = pure ws
set_to_value ws x (Some p) = (λ q. set_to x q ws) <$> subst_body ws p

-- its value is the one that p = 0 gives it: there it occurs once, alone, with coefficient 1 or -1
abbrev pub set_by_equation : List (ℕ × Body) → Body → Option ℕ → Formed (List (ℕ × Body))
set_by_equation ws p None = pure ws
set_by_equation ws p (Some x) = do
  value ← solution_formed x p
  set_to_value ws x value

-- an equation sets the only variable in it that isn't set
abbrev pub set_by_row : List (ℕ × Body) → Row → Formed (List (ℕ × Body))
set_by_row ws (Ge p) = pure ws
set_by_row ws (Eq p) = set_by_equation ws p (only_one (unset_in ws p))
set_by_row ws (Ne p) = pure ws

-- all rows in order
abbrev pub pass : List Row → List (ℕ × Body) → Formed (List (ℕ × Body))
pass rows ws = fold_formed set_by_row ws rows

-- n passes
abbrev pub pass_times : ℕ → List Row → List (ℕ × Body) → Formed (List (ℕ × Body))
pass_times zero rows ws = pure ws
pass_times (suc n) rows ws = do
  next ← pass rows ws
  pass_times n rows next

-- A variable that rows say the value of: p = 0, where it occurs in p once, alone, with coefficient
-- 1 or -1. It is replaced in all rows.
use Rattle.std.specs.Prelude.{ℕ, Bool, true, false, ◌&&◌, ◌||◌, ◌==◌, if◌then◌else◌, Option, Some, None, List, [], ◌∷◌, slice_get, ℤ, pos, negsuc, ◌+ℤ◌}
use Rattle.std.specs.Ordering.{int_eq, is_eq}
use Rattle.rx_plain.specs.Formed.{Formed}
use Rattle.rx_poly.specs.Constants.{variable}
use Rattle.rx_poly.specs.Limits.{body_sum, is_within, of_atoms, scaled_by, body_difference}
use Rattle.rx_poly.specs.Order.{mono_cmp}
use Rattle.rx_poly.specs.Reading.{coefficient}
use Rattle.rx_poly.specs.Terms.{is_zero}
use Rattle.rx_poly.specs.Variables.{uses}
use Rattle.rx_poly.specs.declared.body.Atom.TheVariants.{Var}
use Rattle.rx_poly.specs.declared.body.Mono.{Mono}
use Rattle.rx_poly.specs.declared.body.Body.{Body, out-Body}
use Rattle.rx_row.specs.Substitution.{subst_rows, rows_within}
use Rattle.rx_row.specs.declared.row.Row.{Row}
use Rattle.rx_row.specs.declared.row.Row.TheVariants.{Ge, Eq, Ne}
use Rattle.rx_cert.specs.Findings.{Said, No, guard}

-- ---- which polynomial is 0

-- the same monomials with opposite coefficients; nothing is formed
abbrev pub are_opposite : List (Mono × ℤ) → List (Mono × ℤ) → Bool
are_opposite [] [] = true
are_opposite [] (u ∷ us) = false
are_opposite (t ∷ ts) [] = false
are_opposite (t ∷ ts) (u ∷ us) =
    (is_eq (mono_cmp t.0 u.0) && is_zero (t.1 +ℤ u.1)) && are_opposite ts us

-- p = 0, named twice
abbrev pub of_equation : Bool → Body → Option Body
of_equation same p = if same then Some p else None

-- p >= 0 and -p >= 0
abbrev pub of_opposites : Body → Option Row → Option Body
of_opposites p None = None
of_opposites p (Some (Ge q)) =
    if are_opposite (out-Body p).terms (out-Body q).terms then Some p else None
of_opposites p (Some (Eq q)) = None
of_opposites p (Some (Ne q)) = None

-- the polynomial that the first and the second row say to be 0, where they do, and whether their
-- numbers are the same
abbrev pub zero_of : Bool → Option Row → Option Row → Option Body
zero_of same None second = None
zero_of same (Some (Ge p)) second = of_opposites p second
zero_of same (Some (Eq p)) second = of_equation same p
zero_of same (Some (Ne p)) second = None

abbrev pub zero_polynomial : List Row → ℕ → ℕ → Option Body
zero_polynomial rows first second =
    zero_of (first == second) (slice_get rows first) (slice_get rows second)

-- ---- what the variable is

-- the coefficient of the variable alone
abbrev pub coefficient_of : ℕ → Body → ℤ
coefficient_of x p = coefficient (of_atoms (Var x ∷ [])) (out-Body p).terms

-- p has the variable with coefficient 1: the rest is p without it, and the variable is -rest,
-- unless it occurs there too
abbrev pub solution_plus : ℕ → Body → Option Body
solution_plus x rest = if uses x rest then None else Some (scaled_by (negsuc 0) rest)

abbrev pub solution_plus_within : ℕ → Body → Bool
solution_plus_within x rest =
    is_within rest && (uses x rest || is_within (scaled_by (negsuc 0) rest))

-- both at once
abbrev pub solution_plus_formed : ℕ → Body → Formed (Option Body)
solution_plus_formed x rest =
    record { form = solution_plus x rest; within = solution_plus_within x rest }

-- p has it with coefficient -1: the variable is the rest
abbrev pub solution_minus : ℕ → Body → Option Body
solution_minus x rest = if uses x rest then None else Some rest

-- with whether the rest keeps the limits
abbrev pub solution_minus_formed : ℕ → Body → Formed (Option Body)
solution_minus_formed x rest = record { form = solution_minus x rest; within = is_within rest }

-- what the variable is where p = 0; none where it doesn't occur in p once, alone, with coefficient
-- 1 or -1
abbrev pub solution : ℕ → Body → Option Body
solution x p =
    if int_eq (coefficient_of x p) (pos 1) then solution_plus x (body_difference p (variable x))
    else (if int_eq (coefficient_of x p) (negsuc 0) then
    solution_minus x (body_sum p (variable x)) else None)

-- the rest, which is no larger than p, and its multiple by -1 keep the limits
abbrev pub solution_within : ℕ → Body → Bool
solution_within x p =
    if int_eq (coefficient_of x p) (pos 1) then
    solution_plus_within x (body_difference p (variable x))
    else (if int_eq (coefficient_of x p) (negsuc 0) then is_within (body_sum p (variable x)) else
    true)

-- both at once
abbrev pub solution_formed : ℕ → Body → Formed (Option Body)
solution_formed x p = record { form = solution x p; within = solution_within x p }

-- ---- the rows after it

-- what is found of the rows with the value in place of the variable
abbrev pub replaced_finding : ℕ → Option Body → List Row → (List Row → Said) → Said
replaced_finding x None rows rest = No
replaced_finding x (Some e) rows rest =
    guard (rows_within ((x, e) ∷ []) rows) (rest (subst_rows ((x, e) ∷ []) rows))

-- what is found, by the polynomial that the rows say to be 0, where they do
abbrev pub solve_finding : ℕ → Option Body → List Row → (List Row → Said) → Said
solve_finding x None rows rest = No
solve_finding x (Some p) rows rest =
    guard (solution_within x p) (replaced_finding x (solution x p) rows rest)

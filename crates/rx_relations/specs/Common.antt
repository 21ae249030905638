-- The combinations of a basis that are 0 at a goal, and those that are 0 at each of several goals.
use Rattle.std.specs.Prelude.{Bool, not, List, ◌++◌, filter, map, pos}
use Rattle.rx_plain.specs.Formed.{Formed, ◌>>=◌, ◌<$>◌, fold_formed, map_formed}
use Rattle.rx_poly.specs.Constants.{number}
use Rattle.rx_poly.specs.Normal.{is_empty}
use Rattle.rx_poly.specs.Substitution.{numbered, subst_body}
use Rattle.rx_poly.specs.declared.body.Body.{Body, out-Body}
use Rattle.rx_relations.specs.Cancelling.{vanishing}
use Rattle.rx_relations.specs.Content.{primitive}
use Rattle.rx_relations.specs.declared.combination.Combination.{Combination}
use Rattle.rx_relations.specs.declared.instance.Instance.{Instance}

-- an equation of the goal is 0 there, whatever the basis is
abbrev pub of_equation : Body → Combination
of_equation e = record { value = e; relation = number (pos 0) }

-- a polynomial of the basis, with the goal's values in place of x_0, x_1, and so on
abbrev pub valued : List Body → Body → Formed Combination
valued values p = (λ v. record { value = v; relation = p }) <$> subst_body (numbered values) p

-- the equations of the goal, then the basis
abbrev pub combinations : Instance → List Body → Formed (List Combination)
combinations goal basis =
    (λ cs. map of_equation goal.equations ++ cs) <$> map_formed (valued goal.values) basis

-- the polynomial is not 0
abbrev pub is_nonzero : Body → Bool
is_nonzero p = not (is_empty (out-Body p).terms)

-- the combinations of the basis that are 0 at the goal, without 0 itself
abbrev pub vanishing_at : List Body → Instance → Formed (List Body)
vanishing_at basis goal = do
  cs ← combinations goal basis
  (λ rs. filter is_nonzero rs) <$> vanishing cs

-- those that are 0 at each of the goals, each divided by the greatest common divisor of its
-- coefficients
abbrev pub common : List Body → List Instance → Formed (List Body)
common basis goals = (λ rs. map primitive rs) <$> fold_formed vanishing_at basis goals

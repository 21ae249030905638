-- Whether goals are left.
use Rattle.std.proofs.Common.{◌≡◌, ℕ, suc, Bool, true, false, List, [], ◌∷◌, length, refl, arith}
use Rattle.std.specs.Prelude.{◌==◌}
use Rattle.std.proofs.lemmas.Bool.{eqb-true}
use Rattle.rx_term.specs.declared.rule.Equation.{Equation}
use Rattle.rx_search.specs.NodeNodes.{is_closed}

never : (n : ℕ) (b : Bool) → (suc n == 0) ≡ b → b ≡ false
never n true e = absurd (let h = eqb-true (suc n) 0 e in omega (arith, h))
never n false e = refl

-- no goal is left where they are none
pub none_left : (goals : List Equation) → (length goals == 0) ≡ is_closed goals
none_left [] = refl
none_left (goal ∷ goals) = never (length goals) (suc (length goals) == 0) refl

pub no_goal : (goals : List Equation) → is_closed goals ≡ true → goals ≡ []
no_goal [] e = refl
no_goal (goal ∷ goals) e = absurd cc

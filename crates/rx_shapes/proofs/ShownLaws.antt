-- A row that is formed at the places of a goal, and whether the goal shows it.
use Rattle.std.proofs.Common.{◌≡◌, ◌∙◌, ap, Bool, true, false, Result, Ok, Err, Some, None, IfOk, List}
use Rattle.rx_poly.specs.Substitution.{numbered}
use Rattle.rx_poly.specs.declared.body.Body.{Body}
use Rattle.rx_row.specs.Substitution.{row_with}
use Rattle.rx_row.specs.declared.row.Row.{Row}
use Rattle.rx_relations.specs.Applying.{form_where, form_within}
use Rattle.rx_shapes.specs.Shown.{is_formed_shown, is_shown, shows}
use Rattle.rx_shapes.specs.declared.followed.PlacedGoal.{PlacedGoal}
use Rattle.std.specs.Prelude.{◌&&◌}

formed_shown : (given : List Row) (b : Bool) (x y : Row) → Some x ≡ form_where b y →
    is_shown given x ≡ (b && is_shown given y)
formed_shown given true x y e = let same : x ≡ y = cc in ap (is_shown given) same
formed_shown given false x y e = cc

-- what is shown of the row once it is formed is what the goal shows
pub shown_answer : {E : Type 0} (r : Result Bool E) (goal : PlacedGoal) (places : List Body)
    (row x : Row) → places ≡ goal.places →
    Some x ≡ form_within (row_with (numbered places) row) →
    IfOk r (λ b. b ≡ is_shown goal.equation.rows x) → IfOk r (λ b. b ≡ shows goal row)
shown_answer (Err e) goal places row x here is h = tt
shown_answer (Ok b) goal places row x here is h =
    h ∙ formed_shown goal.equation.rows (row_with (numbered places) row).within x
    (row_with (numbered places) row).form is ∙
    ap (λ ps. is_formed_shown goal.equation.rows (row_with (numbered ps) row)) here

none_shown : (given : List Row) (b : Bool) (y : Row) → None ≡ form_where b y →
    false ≡ (b && is_shown given y)
none_shown given true y e = cc
none_shown given false y e = cc

-- a row that isn't formed isn't shown
pub not_formed : (goal : PlacedGoal) (places : List Body) (row : Row) → places ≡ goal.places →
    None ≡ form_within (row_with (numbered places) row) → false ≡ shows goal row
not_formed goal places row here is =
    none_shown goal.equation.rows (row_with (numbered places) row).within
    (row_with (numbered places) row).form is ∙
    ap (λ ps. is_formed_shown goal.equation.rows (row_with (numbered ps) row)) here

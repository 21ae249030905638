-- Rows with their signs: behind an equation and behind a disequality of p stand p >= 0 and -p >= 0.
use Rattle.std.specs.Prelude.{List, [], ◌∷◌}
use Rattle.rx_plain.specs.Formed.{Formed, pure, kept, ◌<$>◌}
use Rattle.rx_poly.specs.Limits.{is_within}
use Rattle.rx_poly.specs.declared.body.Body.{Body}
use Rattle.rx_row.specs.Negation.{opposite}
use Rattle.rx_row.specs.declared.row.Row.{Row}
use Rattle.rx_row.specs.declared.row.Row.TheVariants.{Ge, Eq, Ne}

-- -p >= 0
abbrev pub opposite_row : Body → Formed Row
opposite_row p = Ge <$> kept is_within (opposite p)

-- p >= 0, and -p >= 0
abbrev pub both_signs : Body → List (Formed Row)
both_signs p = pure (Ge p) ∷ opposite_row p ∷ []

abbrev pub signs : Row → List (Formed Row)
signs (Ge p) = pure (Ge p) ∷ []
signs (Eq p) = pure (Eq p) ∷ both_signs p
signs (Ne p) = pure (Ne p) ∷ both_signs p

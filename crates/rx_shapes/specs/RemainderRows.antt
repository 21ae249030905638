-- Rows that may hold of what a division by c leaves, since that is smaller in size than c, on either
-- side of 0.
use Rattle.std.specs.Prelude.{ℕ, suc, List, [], ◌∷◌, ℤ, negsuc}
use Rattle.rx_plain.specs.Formed.{Formed, pure, kept, ◌>>=◌, ◌<$>◌}
use Rattle.rx_poly.specs.Constants.{variable}
use Rattle.rx_poly.specs.Limits.{body_sum, is_within, scaled_by}
use Rattle.rx_poly.specs.declared.body.Body.{Body}
use Rattle.rx_row.specs.declared.row.Row.{Row}
use Rattle.rx_row.specs.declared.row.Row.TheVariants.{Ge}
use Rattle.rx_cert.specs.DivisionFacts.{greatest_remainder}
use Rattle.rx_inference.specs.Pieces.{all_pushed}
use Rattle.rx_relations.specs.declared.divisions.Division.{Division}

-- x >= 0, x + |c| - 1 >= 0, -x >= 0 and -x + |c| - 1 >= 0
abbrev pub remainder_rows : Body → ℤ → Formed (List Row)
remainder_rows x c = do
  above ← kept is_within (body_sum x (greatest_remainder c))
  opposite ← kept is_within (scaled_by (negsuc 0) x)
  (λ below. Ge x ∷ Ge above ∷ Ge opposite ∷ Ge below ∷ []) <$>
      kept is_within (body_sum opposite (greatest_remainder c))

-- the rows, and those of what is left by c at place i, each once
abbrev pub with_remainder : ℕ → List Row → ℤ → Formed (List Row)
with_remainder i rows c = (λ more. all_pushed rows more) <$> remainder_rows (variable i) c

-- so for divisions, whose remainders stand at places numbered on from i
abbrev pub with_remainders : ℕ → List Row → List Division → Formed (List Row)
with_remainders i rows [] = pure rows
with_remainders i rows (d ∷ ds) = do
  more ← with_remainder i rows d.divisor
  with_remainders (suc i) more ds

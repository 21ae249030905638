-- The rows that a column asks for at a pair: that it doesn't rise there, or that it falls.
use Rattle.std.specs.Prelude.{Bool, false, if◌then◌else◌, Option, Some, None, List, [], ◌∷◌, ℤ, pos, int_lt}
use Rattle.rx_plain.specs.Formed.{Formed, pure, kept, ◌>>=◌, ◌<$>◌}
use Rattle.rx_poly.specs.Constants.{number}
use Rattle.rx_poly.specs.Limits.{is_within, body_difference}
use Rattle.rx_poly.specs.Reading.{constant_of}
use Rattle.rx_poly.specs.Substitution.{subst_body, numbered}
use Rattle.rx_poly.specs.declared.body.Body.{Body, out-Body}
use Rattle.rx_row.specs.declared.row.Row.{Row}
use Rattle.rx_row.specs.declared.row.Row.TheVariants.{Ge}
use Rattle.rx_pairs.specs.declared.pair.Pair.{Pair}

-- a column's polynomial at the arguments on the left, and on the right
abbrev pub at_left : Pair → Body → Formed Body
at_left pair p = subst_body (numbered pair.left_args) p

abbrev pub at_right : Pair → Body → Formed Body
at_right pair q = subst_body (numbered pair.right_args) q

-- the polynomial is a number below 0
abbrev pub is_below : Option ℤ → Bool
is_below None = false
is_below (Some k) = int_lt k (pos 0)

abbrev pub is_below_zero : Body → Bool
is_below_zero p = is_below (constant_of (out-Body p).terms)

-- l - r >= 0, for the column's instance l on the left and an instance r on the right
abbrev pub not_greater : Pair → Body → Body → Formed (List Row)
not_greater pair p r = do
  l ← at_left pair p
  (λ d. Ge d ∷ []) <$> kept is_within (body_difference l r)

-- the one or the other
abbrev pub choose : {A : Type 0} → Bool → Formed A → Formed A → Formed A
choose test f g =
    record { form = if test then f.form else g.form; within = if test then f.within else g.within }

-- a column holds: its value on the right is at most that on the left. The right instance is formed
-- first, and where it is a number below 0 nothing is asked and nothing else is formed.
abbrev pub holds_rows : Pair → Body → Body → Formed (List Row)
holds_rows pair p q = do
  r ← at_right pair q
  choose (is_below_zero r) (pure []) (not_greater pair p r)

-- l - r - 1
abbrev pub one_less : Body → Body → Formed Body
one_less l r = do
  d ← kept is_within (body_difference l r)
  kept is_within (body_difference d (number (pos 1)))

-- a column falls: l >= 0 and l - r - 1 >= 0, for its instances
abbrev pub falls_rows : Pair → Body → Body → Formed (List Row)
falls_rows pair p q = do
  l ← at_left pair p
  r ← at_right pair q
  (λ e. Ge l ∷ Ge e ∷ []) <$> one_less l r

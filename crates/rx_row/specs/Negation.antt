-- The negation of a row, and what must keep the limits on the way to it.
use Rattle.std.specs.Prelude.{Bool, true, ◌&&◌, pos, negsuc}
use Rattle.rx_plain.specs.Formed.{Formed}
use Rattle.rx_poly.specs.Limits.{is_within, scaled_by, body_difference}
use Rattle.rx_poly.specs.Constants.{number}
use Rattle.rx_poly.specs.declared.body.Body.{Body}
use Rattle.rx_row.specs.declared.row.Row.{Row}
use Rattle.rx_row.specs.declared.row.Row.TheVariants.{Ge, Eq, Ne}

-- p scaled by -1
abbrev pub opposite : Body → Body
opposite p = scaled_by (negsuc 0) p

-- -p - 1
abbrev pub minus_one_more : Body → Body
minus_one_more p = body_difference (opposite p) (number (pos 1))

-- -p, and then -p - 1, keep the limits
abbrev pub minus_one_more_within : Body → Bool
minus_one_more_within p = is_within (opposite p) && is_within (minus_one_more p)

-- p < 0 is -p - 1 >= 0; an equation and a disequality change places
abbrev pub negation : Row → Row
negation (Ge p) = Ge (minus_one_more p)
negation (Eq p) = Ne p
negation (Ne p) = Eq p

-- all that is formed of an inequality keeps the limits; otherwise nothing is formed
abbrev pub negation_within : Row → Bool
negation_within (Ge p) = minus_one_more_within p
negation_within (Eq p) = true
negation_within (Ne p) = true

-- both at once: of -p - 1
abbrev pub less_one_more : Body → Formed Body
less_one_more p = record { form = minus_one_more p; within = minus_one_more_within p }

-- and of the negation
abbrev pub negated : Row → Formed Row
negated row = record { form = negation row; within = negation_within row }

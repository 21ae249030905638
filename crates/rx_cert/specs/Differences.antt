-- What is not 0 is at least 1 or at most -1.
use Rattle.std.specs.Prelude.{Option, Some, None, List, [], ◌∷◌, ◌++◌, pos}
use Rattle.rx_plain.specs.Formed.{Formed, kept, ◌<$>◌}
use Rattle.rx_poly.specs.Constants.{number}
use Rattle.rx_poly.specs.Limits.{is_within, body_difference}
use Rattle.rx_poly.specs.declared.body.Body.{Body}
use Rattle.rx_row.specs.Negation.{negated, negation, negation_within}
use Rattle.rx_row.specs.declared.row.Row.{Row}
use Rattle.rx_row.specs.declared.row.Row.TheVariants.{Ge, Eq, Ne}
use Rattle.rx_cert.specs.Findings.{Said, No, and_also, guard}

-- the polynomial of a row p != 0
abbrev pub disequal : Option Row → Option Body
disequal None = None
disequal (Some (Ge p)) = None
disequal (Some (Eq p)) = None
disequal (Some (Ne p)) = Some p

-- p - 1
abbrev pub one_less : Body → Body
one_less p = body_difference p (number (pos 1))

-- p - 1 >= 0, and whether what is formed keeps the limits
abbrev pub above : Body → Formed Row
above p = Ge <$> kept is_within (one_less p)

-- -p - 1 >= 0
abbrev pub below : Body → Formed Row
below p = negated (Ge p)

-- with p - 1 >= 0 after the others, and with -p - 1 >= 0, the negation of p >= 0
abbrev pub differ_finding : Option Body → List Row → (List Row → Said) → (List Row → Said) → Said
differ_finding None rows above below = No
differ_finding (Some p) rows above below = and_also
    (guard (is_within (one_less p)) (above (rows ++ Ge (one_less p) ∷ [])))
    (guard (negation_within (Ge p)) (below (rows ++ negation (Ge p) ∷ [])))

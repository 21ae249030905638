-- Worked cases of what looks at the form of rows alone, computed.
use Rattle.std.proofs.Common.{◌≡◌, refl, ℕ, true, false, Some, None, [], ◌∷◌, take, pos, negsuc}
use Rattle.rx_poly.specs.declared.body.Body.{Body}
use Rattle.rx_row.specs.declared.row.Row.TheVariants.{Ge, Eq, Ne}
use Rattle.rx_cert.specs.Findings.{No}
use Rattle.rx_solve.specs.Attempts.{applies, beyond, fails, first_applying, where_shown}
use Rattle.rx_solve.specs.Disequalities.{disequalities_from}
use Rattle.rx_solve.specs.Roundings.{roundings_with}
use Rattle.rx_solve.specs.Sums.{all_nonnegative, parts_from}
use Rattle.rx_row.specs.Negation.{opposite}

-- seven disequalities: the first six are looked at
six_of_seven : (p : Body) → take 6 (disequalities_from 0
    (Ge p ∷ Ne p ∷ Ne p ∷ Eq p ∷ Ne p ∷ Ne p ∷ Ne p ∷ Ne p ∷ Ne p ∷ [])) ≡ 1 ∷ 2 ∷ 4 ∷ 5 ∷ 6 ∷ 7 ∷
    []
six_of_seven p = refl

-- an equation is rounded once with each sign, an inequality once, a disequality not
both_signs : (p : Body) → roundings_with (pos 3) 5 (Eq p) ≡
    record { at = 5; by = pos 1; divisor = pos 3 } ∷
    record { at = 5; by = negsuc 0; divisor = pos 3 } ∷ []
both_signs p = refl

-- the elimination gets an equation with its opposite
eliminated : (p q r : Body) → all_nonnegative (Ge p ∷ Ne q ∷ Eq r ∷ []) ≡ p ∷ r ∷ opposite r ∷ []
eliminated p q r = refl

-- so it has the difference of two multipliers; a part with multiplier 0 is left out
parts_of_multipliers : (p : Body) → parts_from 0 (Ge p ∷ Ne p ∷ Eq p ∷ Ge p ∷ Eq p ∷ [])
    (pos 2 ∷ pos 1 ∷ pos 4 ∷ pos 0 ∷ pos 5 ∷ pos 5 ∷ []) ≡ (0, pos 2) ∷ (2, negsuc 2) ∷ []
parts_of_multipliers p = refl

-- what passes the limits before the first that applies is noted, and nothing after it
noted_before : first_applying {A = ℕ} (fails ∷ beyond ∷ applies 7 ∷ beyond ∷ []) ≡
    record { made = Some 7; noted = true }
noted_before = refl

not_noted_after : first_applying {A = ℕ} (fails ∷ applies 7 ∷ beyond ∷ []) ≡
    record { made = Some 7; noted = false }
not_noted_after = refl

none_applies : first_applying {A = ℕ} (where_shown No 3 ∷ fails ∷ []) ≡
    record { made = None; noted = false }
none_applies = refl

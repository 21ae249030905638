-- What `==` says of two rows, or of two lists of rows, is that they are one.
use Rattle.std.proofs.Common.{◌≡◌, ap, Bool, true, refl, List, [], ◌∷◌}
use Rattle.std.proofs.lemmas.Bool.{and_parts, and_from}
use Rattle.std.specs.Cmp.Lexicographic.{pointwise}
use Rattle.rx_poly.proofs.Same.{body_eq-sound, body_eq-refl}
use Rattle.rx_row.specs.contracts.row.RowPartialEq.TheImpl as row_equal
use Rattle.rx_row.specs.declared.row.Row.{Row}
use Rattle.rx_row.specs.declared.row.Row.TheVariants.{Ge, Eq, Ne}

-- what `==` of two rows computes
abbrev pub row_eq : Row → Row → Bool
row_eq = (row_equal.ghosts).eq

pub known_same_row : (r s : Row) → row_eq r s ≡ true → r ≡ s
known_same_row (Ge p) (Ge q) e = ap Ge (body_eq-sound p q e)
known_same_row (Ge p) (Eq q) e = cc
known_same_row (Ge p) (Ne q) e = cc
known_same_row (Eq p) (Ge q) e = cc
known_same_row (Eq p) (Eq q) e = ap Eq (body_eq-sound p q e)
known_same_row (Eq p) (Ne q) e = cc
known_same_row (Ne p) (Ge q) e = cc
known_same_row (Ne p) (Eq q) e = cc
known_same_row (Ne p) (Ne q) e = ap Ne (body_eq-sound p q e)

pub known_itself_row : (r : Row) → row_eq r r ≡ true
known_itself_row (Ge p) = body_eq-refl p p refl
known_itself_row (Eq p) = body_eq-refl p p refl
known_itself_row (Ne p) = body_eq-refl p p refl

pub known_same_rows : (rs ss : List Row) → pointwise row_eq rs ss ≡ true → rs ≡ ss
known_same_rows [] [] e = refl
known_same_rows [] (s ∷ ss) e = cc
known_same_rows (r ∷ rs) [] e = cc
known_same_rows (r ∷ rs) (s ∷ ss) e =
    let b = and_parts (row_eq r s) (pointwise row_eq rs ss) e in
    λ i. known_same_row r s b.0 i ∷ known_same_rows rs ss b.1 i

pub known_themselves : (rs : List Row) → pointwise row_eq rs rs ≡ true
known_themselves [] = refl
known_themselves (r ∷ rs) =
    and_from (row_eq r r) (pointwise row_eq rs rs) (known_itself_row r) (known_themselves rs)

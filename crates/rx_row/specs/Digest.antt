-- What rows feed a hash function: one number, made of each row's polynomial and of what is said of
-- that. Equal rows feed the same.
use Rattle.std.specs.Prelude.{◌≡◌, true, ℕ, ◌+◌, ◌%◌, ◌^◌, List, [], ◌∷◌}
use Rattle.std.specs.Cmp.Lexicographic.{pointwise}
use Rattle.std.specs.Hash as fed
use Rattle.std.specs.List.{fold}
use Rattle.std.proofs.Common.{◌∙◌, ap, refl}
use Rattle.std.proofs.lemmas.Bool.{and_parts}
use Rattle.rx_poly.proofs.Same.{body_eq-sound}
use Rattle.rx_poly.specs.Digest.{digest_of, then}
use Rattle.rx_poly.specs.declared.body.Body.{Body, out-Body}
use Rattle.rx_row.specs.contracts.row.RowPartialEq.TheImpl as row_equal
use Rattle.rx_row.specs.declared.row.Row.{Row}
use Rattle.rx_row.specs.declared.row.Row.TheVariants.{Ge, Eq, Ne}

-- the number of a polynomial, raised by that of what is said of it
abbrev pub raised : Body → ℕ → ℕ
raised p by = (digest_of (out-Body p).terms + by) % 2 ^ 128

abbrev pub row_digest : Row → ℕ
row_digest (Ge p) = raised p 0
row_digest (Eq p) = raised p 1
row_digest (Ne p) = raised p 2

abbrev pub with_row : ℕ → Row → ℕ
with_row before r = then before (row_digest r)

-- each row in turn
abbrev pub rows_digest : List Row → ℕ
rows_digest rs = fold with_row 0 rs

abbrev pub fed_of : Row → List (List ℕ)
fed_of r = fed.u128 (row_digest r)

abbrev pub fed_of_rows : List Row → List (List ℕ)
fed_of_rows rs = fed.u128 (rows_digest rs)

-- what a polynomial's `==` finds equal is raised alike
alike : (p q : Body) (by : ℕ) → (row_equal.ghosts).eq (Ge p) (Ge q) ≡ true →
    raised p by ≡ raised q by
alike p q by e = ap (λ b. raised b by) (body_eq-sound p q e)

row_alike : (r s : Row) → (row_equal.ghosts).eq r s ≡ true → row_digest r ≡ row_digest s
row_alike (Ge p) (Ge q) e = alike p q 0 e
row_alike (Ge p) (Eq q) e = cc
row_alike (Ge p) (Ne q) e = cc
row_alike (Eq p) (Ge q) e = cc
row_alike (Eq p) (Eq q) e = alike p q 1 e
row_alike (Eq p) (Ne q) e = cc
row_alike (Ne p) (Ge q) e = cc
row_alike (Ne p) (Eq q) e = cc
row_alike (Ne p) (Ne q) e = alike p q 2 e

pub fed_alike : (r s : Row) → (row_equal.ghosts).eq r s ≡ true → fed_of r ≡ fed_of s
fed_alike r s e = ap (λ n. fed.u128 n) (row_alike r s e)

-- rows that `==` finds equal one by one make one number
rows_alike : (before : ℕ) (rs ss : List Row) → pointwise (row_equal.ghosts).eq rs ss ≡ true →
    fold with_row before rs ≡ fold with_row before ss
rows_alike before [] [] e = refl
rows_alike before [] (s ∷ ss) e = cc
rows_alike before (r ∷ rs) [] e = cc
rows_alike before (r ∷ rs) (s ∷ ss) e =
    let both = and_parts ((row_equal.ghosts).eq r s) (pointwise (row_equal.ghosts).eq rs ss) e in
    ap (λ n. fold with_row (then before n) rs) (row_alike r s both.0)
    ∙ rows_alike (with_row before s) rs ss both.1

pub rows_fed_alike : (rs ss : List Row) → pointwise (row_equal.ghosts).eq rs ss ≡ true →
    fed_of_rows rs ≡ fed_of_rows ss
rows_fed_alike rs ss e = ap (λ n. fed.u128 n) (rows_alike 0 rs ss e)

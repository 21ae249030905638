-- Columns of a table as they are found, and ranks by them.
use Rattle.std.specs.Prelude.{ℕ, Option, Some, None, List, [], ◌∷◌, negsuc, pos, map, unwrap_or, slice_set}
use Rattle.rx_poly.specs.Constants.{number}
use Rattle.rx_poly.specs.declared.body.Body.{Body}
use Rattle.rx_anchors.specs.Values.{polynomial_of}
use Rattle.rx_find_ranks.specs.declared.column.FoundColumn.{FoundColumn}
use Rattle.rx_find_ranks.specs.declared.column.FoundColumn.TheVariants.{Heights, Polynomials}

-- a column: polynomials by symbol
abbrev pub Column : Type 0
Column = List (Option Body)

-- that of the symbol, -1 where it has none
abbrev pub value_at : ℕ → Column → Body
value_at f column = unwrap_or (polynomial_of column f) (number (negsuc 0))

-- the rank of a symbol by the columns so far
abbrev pub rank_at : List Column → ℕ → List Body
rank_at columns f = map (value_at f) columns

-- the column of heights by symbol
abbrev pub height_column : List ℕ → Column
height_column heights = map (λ height. Some (number (pos height))) heights

-- the columns as they are found
abbrev pub column_of : FoundColumn → Column
column_of (Heights heights) = height_column heights.items
column_of (Polynomials values) = values.items

abbrev pub columns_in : List FoundColumn → List Column
columns_in columns = map column_of columns

-- ---- polynomials over others

-- polynomials by symbol, and in its place one more where there is one
abbrev pub laid_at : List (Option Body) → ℕ → Option Body → List (Option Body)
laid_at values at None = values
laid_at values at (Some p) = slice_set values at (Some p)

-- polynomials by symbol, and others in their place where there are others
abbrev pub overlaid : List (Option Body) → List (Option Body) → List (Option Body)
overlaid [] others = []
overlaid (p ∷ ps) [] = p ∷ ps
overlaid (p ∷ ps) (None ∷ others) = p ∷ overlaid ps others
overlaid (p ∷ ps) (Some q ∷ others) = Some q ∷ overlaid ps others

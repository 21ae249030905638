-- Finite graphs: edges between the numbers below another, and the paths along them.
use Rattle.std.specs.Prelude.{◌≡◌, ◌<◌, ◌==◌, ◌&&◌, ◌||◌, ◌↔◌, ℕ, zero, suc, Bool, true, false, List, [], ◌∷◌, All, Contains, Vec, length, map, slice_index_or}
use Rattle.std.specs.declared.alloc.Global.{Global}
use Rattle.std.specs.List.{list_any}

-- there is an edge from the one number to the other
abbrev pub is_edge : ℕ → ℕ → ℕ × ℕ → Bool
is_edge a b e = e.0 == a && e.1 == b

abbrev pub leads : List (ℕ × ℕ) → ℕ → ℕ → Bool
leads edges a b = list_any (is_edge a b) edges

-- one edge or more, one after the other
pub data Path (edges : List (ℕ × ℕ)) : ℕ → ℕ → Type 0 where
  One : (a b : ℕ) → leads edges a b ≡ true → Path edges a b
  More : (a b c : ℕ) → leads edges a b ≡ true → Path edges b c → Path edges a c

-- there is a path whose inner vertices are among those
abbrev pub reaches : List (ℕ × ℕ) → List ℕ → ℕ → ℕ → Bool
reaches edges [] a b = leads edges a b
reaches edges (k ∷ ks) a b = reaches edges ks a b || (reaches edges ks a k && reaches edges ks k b)

-- two are in one component where they are one, or reach each other
abbrev pub together : List (ℕ × ℕ) → List ℕ → ℕ → ℕ → Bool
together edges ks a b = a == b || (reaches edges ks a b && reaches edges ks b a)

-- the numbers below another
abbrev pub below : ℕ → List ℕ
below zero = []
below (suc n) = n ∷ below n

-- all edges are between numbers below that
abbrev pub IsOver : ℕ → List (ℕ × ℕ) → Type 0
IsOver n edges = All (λ e. (e.0 < n) × (e.1 < n)) edges

-- the edges reversed
abbrev pub reversed_edges : List (ℕ × ℕ) → List (ℕ × ℕ)
reversed_edges edges = map (λ e. (e.1, e.0)) edges

-- for each number the numbers that edges lead to
pub record IsGraphOf (n : ℕ) (edges : List (ℕ × ℕ)) (rows : List (List ℕ)) : Type 0 where
  pub count : length rows ≡ n
  pub targets : (a b : ℕ) → Contains (slice_index_or rows a []) b ↔ (leads edges a b ≡ true)

-- all that the rows lead to are numbers of the graph
abbrev pub IsClosed : List (List ℕ) → Type 0
IsClosed rows = (a b : ℕ) → Contains (slice_index_or rows a []) b → b < length rows

-- the rows of a graph in memory
abbrev pub rows_of : List (Vec ℕ Global) → List (List ℕ)
rows_of rows = map (λ row. row.items) rows

-- the number is marked
abbrev pub IsMarked : List Bool → ℕ → Type 0
IsMarked marks b = slice_index_or marks b false ≡ true

-- exactly what is reached is marked
abbrev pub MarksReached : List (ℕ × ℕ) → ℕ → List Bool → Type 0
MarksReached edges start marks = (b : ℕ) → IsMarked marks b ↔ Path edges start b

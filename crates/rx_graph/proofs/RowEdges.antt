-- Rows are the graph of the edges that they hold.
use Rattle.std.proofs.Common.{◌≡◌, subst, refl, arith, ℕ, zero, suc, ◌+◌, ◌==◌, true, ◌&&◌, ◌⊎◌, inl, inr, List, [], ◌∷◌, ◌++◌, Contains, get_or, length, map}
use Rattle.std.proofs.lemmas.Bool.{and_from, and_parts, eq-eqb, eqb-true, false≢true}
use Rattle.std.proofs.lemmas.List.{get_or_past}
use Rattle.rx_plain.proofs.Kept.{first_or_other}
use Rattle.rx_graph.specs.Graph.{IsGraphOf, is_edge, leads}
use Rattle.rx_graph.proofs.Elements.{first_one, none_in_empty, other_one}
use Rattle.rx_graph.proofs.GraphLaws.{or_cases, or_left, or_right}

-- the edges of rows, the first of which is that of the number
abbrev pub row_edges : ℕ → List (List ℕ) → List (ℕ × ℕ)
row_edges a [] = []
row_edges a (row ∷ rows) = map (λ b. (a, b)) row ++ row_edges (suc a) rows

leads_apart : (es fs : List (ℕ × ℕ)) (a b : ℕ) → leads (es ++ fs) a b ≡ true →
    (leads es a b ≡ true) ⊎ (leads fs a b ≡ true)
leads_apart [] fs a b is = inr is
leads_apart (e ∷ es) fs a b is = elim (or_cases (is_edge a b e) (leads (es ++ fs) a b) is) [
  | inl first ↦ inl (or_left (is_edge a b e) (leads es a b) first)
  | inr other ↦ elim (leads_apart es fs a b other)
      [ inl left ↦ inl (or_right (is_edge a b e) (leads es a b) left) | inr right ↦ inr right ]
]

leads_left : (es fs : List (ℕ × ℕ)) (a b : ℕ) → leads es a b ≡ true → leads (es ++ fs) a b ≡ true
leads_left [] fs a b is = absurd (false≢true is)
leads_left (e ∷ es) fs a b is = elim (or_cases (is_edge a b e) (leads es a b) is) [
  | inl first ↦ or_left (is_edge a b e) (leads (es ++ fs) a b) first
  | inr other ↦ or_right (is_edge a b e) (leads (es ++ fs) a b) (leads_left es fs a b other)
]

leads_right : (es fs : List (ℕ × ℕ)) (a b : ℕ) → leads fs a b ≡ true → leads (es ++ fs) a b ≡ true
leads_right [] fs a b is = is
leads_right (e ∷ es) fs a b is =
    or_right (is_edge a b e) (leads (es ++ fs) a b) (leads_right es fs a b is)

row_leads : (x : ℕ) (row : List ℕ) (a b : ℕ) → leads (map (λ c. (x, c)) row) a b ≡ true → (x ≡ a) ×
    Contains row b
row_leads x [] a b is = absurd (false≢true is)
row_leads x (c ∷ row) a b is =
    elim (or_cases (x == a && c == b) (leads (map (λ d. (x, d)) row) a b) is) [
      | inl first ↦ let both =
          and_parts (x == a) (c == b) first in (
            eqb-true x a both.0,
            subst (Contains (c ∷ row)) (eqb-true c b both.1) (first_one c row),
          )
      | inr other ↦ let rest = row_leads x row a b other in (rest.0, other_one c row b rest.1)
    ]

leads_row : (x : ℕ) (row : List ℕ) (b : ℕ) → Contains row b → leads (map (λ c. (x, c)) row) x b ≡
    true
leads_row x [] b among = absurd (none_in_empty b among)
leads_row x (c ∷ row) b among = elim (first_or_other c row b among) [
  | inl same ↦ or_left (x == x && c == b) (leads (map (λ d. (x, d)) row) x b)
      (and_from (x == x) (c == b) (eq-eqb x x refl) (eq-eqb c b same))
  | inr other ↦ or_right (x == x && c == b) (leads (map (λ d. (x, d)) row) x b)
      (leads_row x row b other)
]

rows_lead : (x : ℕ) (rows : List (List ℕ)) (a b : ℕ) → leads (row_edges x rows) a b ≡ true →
    (i : ℕ) × (a ≡ x + i) × Contains (get_or rows i []) b
rows_lead x [] a b is = absurd (false≢true is)
rows_lead x (row ∷ rows) a b is =
    elim (leads_apart (map (λ c. (x, c)) row) (row_edges (suc x) rows) a b is) [
      | inl here ↦ let (same, among) = row_leads x row a b here in (0, omega (arith, same), among)
      | inr later ↦ let (i, at, among) =
          rows_lead (suc x) rows a b later in (suc i, omega (arith, at), among)
    ]

leads_rows : (x : ℕ) (rows : List (List ℕ)) (i b : ℕ) → Contains (get_or rows i []) b →
    leads (row_edges x rows) (x + i) b ≡ true
leads_rows x [] i b among =
    absurd (none_in_empty b (subst (λ r. Contains r b) (get_or_past [] i [] (omega arith)) among))
leads_rows x (row ∷ rows) zero b among =
    let same : x ≡ x + 0 = omega arith in
    subst (λ k. leads (row_edges x (row ∷ rows)) k b ≡ true) same
    (leads_left (map (λ c. (x, c)) row) (row_edges (suc x) rows) x b (leads_row x row b among))
leads_rows x (row ∷ rows) (suc i) b among =
    let same : suc x + i ≡ x + suc i = omega arith in
    subst (λ k. leads (row_edges x (row ∷ rows)) k b ≡ true) same
    (leads_right (map (λ c. (x, c)) row) (row_edges (suc x) rows) (suc x + i) b
    (leads_rows (suc x) rows i b among))

pub rows_graph : (rows : List (List ℕ)) → IsGraphOf (length rows) (row_edges 0 rows) rows
rows_graph rows = record {
  count = refl;
  targets = λ a b. (
    λ among. let same : 0 + a ≡ a =
        omega arith in subst (λ k. leads (row_edges 0 rows) k b ≡ true) same
        (leads_rows 0 rows a b among),
    λ is. let (i, at, among) =
        rows_lead 0 rows a b is in let same : i ≡ a = omega (arith, at) in
        subst (λ k. Contains (get_or rows k []) b) same among,
  );
}

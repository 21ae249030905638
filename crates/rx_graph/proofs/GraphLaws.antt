-- Paths in a graph.
use Rattle.std.proofs.Common.{◌≡◌, sym, subst, refl, arith, ℕ, zero, suc, ◌<◌, ◌==◌, nat_eq, Bool, true, false, ◌&&◌, ◌||◌, ◌⊎◌, inl, inr, ◌↔◌, List, [], ◌∷◌, Contains}
use Rattle.std.proofs.lemmas.Bool.{and_from, and_parts, cases_order, eqb-true}
use Rattle.std.proofs.lemmas.List.Elements.{All-head, All-tail}
use Rattle.rx_plain.proofs.Kept.{first_or_other}
use Rattle.rx_graph.proofs.Elements.{first_one, none_in_empty, other_one}
use Rattle.rx_graph.specs.Graph.{IsOver, More, One, Path, below, is_edge, leads, reaches}

pub or_cases : (x y : Bool) → x || y ≡ true → (x ≡ true) ⊎ (y ≡ true)
or_cases true y is = inl refl
or_cases false y is = inr is

pub or_left : (x y : Bool) → x ≡ true → x || y ≡ true
or_left true y is = refl
or_left false y is = cc

pub or_right : (x y : Bool) → y ≡ true → x || y ≡ true
or_right true y is = refl
or_right false y is = is

module _ (edges : List (ℕ × ℕ)) where
  -- a path whose inner vertices are in a list
  pub data Through (ks : List ℕ) : ℕ → ℕ → Type 0 where
    Edge : (a b : ℕ) → leads edges a b ≡ true → Through ks a b
    Over : (a b c : ℕ) → leads edges a b ≡ true → Contains ks b → Through ks b c → Through ks a c

  wider : (k : ℕ) (ks : List ℕ) (a b : ℕ) → Through ks a b → Through (k ∷ ks) a b
  wider k ks _ _ (Edge a b is) = Edge a b is
  wider k ks _ _ (Over a b c is among rest) =
      Over a b c is (other_one k ks b among) (wider k ks b c rest)

  -- one path after another, over the vertex between them
  joined : (ks : List ℕ) (a k b : ℕ) → Contains ks k → Through ks a k → Through ks k b →
      Through ks a b
  joined ks _ k c among (Edge a _ is) rest = Over a k c is among rest
  joined ks _ k d among (Over a b _ is inner first) rest =
      Over a b d is inner (joined ks b k d among first rest)

  -- a path goes through a vertex, or not
  parted : (k : ℕ) (ks : List ℕ) (a b : ℕ) → Through (k ∷ ks) a b → Through ks a b ⊎
      (Through ks a k × Through ks k b)
  parted k ks _ _ (Edge a b is) = inl (Edge a b is)
  parted k ks _ _ (Over a b c is among rest) =
      by_case (first_or_other k ks b among) (parted k ks b c rest) where
        by_case : (k ≡ b) ⊎ Contains ks b → Through ks b c ⊎ (Through ks b k × Through ks k c) →
            Through ks a c ⊎ (Through ks a k × Through ks k c)
        by_case (inl same) (inl direct) =
            inr (
              subst (Through ks a) (sym same) (Edge a b is),
              subst (λ v. Through ks v c) (sym same) direct,
            )
        by_case (inl same) (inr twice) =
            inr (subst (Through ks a) (sym same) (Edge a b is), twice.1)
        by_case (inr other) (inl direct) = inl (Over a b c is other direct)
        by_case (inr other) (inr twice) = inr (Over a b k is other twice.0, twice.1)

  reached : (ks : List ℕ) (a b : ℕ) → reaches edges ks a b ≡ true → Through ks a b
  reached [] a b is = Edge a b is
  reached (k ∷ ks) a b is =
      elim (or_cases (reaches edges ks a b) (reaches edges ks a k && reaches edges ks k b) is) [
        | inl direct ↦ wider k ks a b (reached ks a b direct)
        | inr twice ↦
            let both = and_parts (reaches edges ks a k) (reaches edges ks k b) twice in
            joined (k ∷ ks) a k b (first_one k ks) (wider k ks a k (reached ks a k both.0))
            (wider k ks k b (reached ks k b both.1))
      ]

  leads_through : (a b : ℕ) → Through [] a b → leads edges a b ≡ true
  leads_through _ _ (Edge a b is) = is
  leads_through _ _ (Over a b c is among rest) = absurd (none_in_empty b among)

  through : (ks : List ℕ) (a b : ℕ) → Through ks a b → reaches edges ks a b ≡ true
  through [] a b path = leads_through a b path
  through (k ∷ ks) a b path = elim (parted k ks a b path) [
    | inl direct ↦ or_left (reaches edges ks a b) (reaches edges ks a k && reaches edges ks k b)
        (through ks a b direct)
    | inr twice ↦
        or_right (reaches edges ks a b) (reaches edges ks a k && reaches edges ks k b)
        (and_from (reaches edges ks a k) (reaches edges ks k b) (through ks a k twice.0)
        (through ks k b twice.1))
  ]

  any_path : (ks : List ℕ) (a b : ℕ) → Through ks a b → Path edges a b
  any_path ks _ _ (Edge a b is) = One a b is
  any_path ks _ _ (Over a b c is among rest) = More a b c is (any_path ks b c rest)

  -- a path goes over vertices that edges lead to
  over_all : (ks : List ℕ) → ((a b : ℕ) → leads edges a b ≡ true → Contains ks b) → (a b : ℕ) →
      Path edges a b → Through ks a b
  over_all ks all _ _ (One a b is) = Edge a b is
  over_all ks all _ _ (More a b c is rest) = Over a b c is (all a b is) (over_all ks all b c rest)

  pub reaches_path : (ks : List ℕ) → ((a b : ℕ) → leads edges a b ≡ true → Contains ks b) →
      (a b : ℕ) → (reaches edges ks a b ≡ true) ↔ Path edges a b
  reaches_path ks all a b =
      (λ is. any_path ks a b (reached ks a b is), λ path. through ks a b (over_all ks all a b path))

-- the numbers below another are in its list
pub among_below : (n b : ℕ) → b < n → Contains (below n) b
among_below zero b there = absurd (omega (arith, there))
among_below (suc n) b there = elim (cases_order b n) [
  | inl same ↦ subst (Contains (n ∷ below n)) (sym same) (first_one n (below n))
  | inr apart ↦ other_one n (below n) b (among_below n b
      (elim apart [ inl less ↦ less | inr more ↦ omega (arith, there, more) ]))
]

edge_equal : (m n : ℕ) → nat_eq m n ≡ true → m ≡ n
edge_equal m n is = eqb-true m n is

-- an edge of edges over the numbers below another leads to one of them
pub lead_below : (n : ℕ) (edges : List (ℕ × ℕ)) → IsOver n edges → (a b : ℕ) → leads edges a b ≡
    true → (a < n) × (b < n)
lead_below n [] over a b is = cc
lead_below n (e ∷ edges) over a b is = elim (or_cases (is_edge a b e) (leads edges a b) is) [
  | inl first ↦
      let both = and_parts (e.0 == a) (e.1 == b) first in
      let here = All-head (λ (e : ℕ × ℕ). (e.0 < n) × (e.1 < n)) e edges over in (
        subst (λ v. v < n) (edge_equal e.0 a both.0) here.0,
        subst (λ v. v < n) (edge_equal e.1 b both.1) here.1,
      )
  | inr other ↦ lead_below n edges (All-tail (λ (e : ℕ × ℕ). (e.0 < n) × (e.1 < n)) e edges over) a
      b other
]

-- over all numbers below a bound, being reached is having a path
pub reaches_all : (n : ℕ) (edges : List (ℕ × ℕ)) → IsOver n edges → (a b : ℕ) →
    (reaches edges (below n) a b ≡ true) ↔ Path edges a b
reaches_all n edges over a b =
    reaches_path edges (below n) (λ c d is. among_below n d (lead_below n edges over c d is).1) a b

-- ---- paths, one after another and reversed

pub one_behind : (edges : List (ℕ × ℕ)) (a b c : ℕ) → Path edges a b → leads edges b c ≡ true →
    Path edges a c
one_behind edges _ _ c (One a b is) also = More a b c is (One b c also)
one_behind edges _ _ d (More a b c is rest) also = More a b d is (one_behind edges b c d rest also)

pub path_after : (edges : List (ℕ × ℕ)) (a b c : ℕ) → Path edges a b → Path edges b c →
    Path edges a c
path_after edges _ _ c (One a b is) also = More a b c is also
path_after edges _ _ d (More a b c is rest) also =
    More a b d is (path_after edges b c d rest also)

-- Components stay the same where the edges between them are left out.
use Rattle.std.proofs.Common.{◌≡◌, ◌∙◌, ap, sym, subst, refl, arith, cond, ℕ, zero, suc, ◌+◌, ◌<◌, ◌≤◌, ◌==◌, Bool, true, false, inl, inr, Some, List, [], ◌∷◌, map}
use Rattle.std.specs.List.{filter, find, range_with_len}
use Rattle.std.specs.Option.{option_map_or}
use Rattle.std.specs.Prelude.{unwrap_or}
use Rattle.std.proofs.lemmas.Bool.{and_parts, cases_order, eq-eqb, eqb-true, false≢true}
use Rattle.rx_graph.proofs.ComponentLaws.{Joined, joined_back, joined_on, joined_together, together_joined}
use Rattle.rx_graph.proofs.GraphLaws.{lead_below, one_behind, or_cases, or_left, or_right, path_after}
use Rattle.rx_graph.specs.Components.{component_of}
use Rattle.rx_graph.specs.Graph.{IsOver, More, One, Path, below, is_edge, leads, together}
use Rattle.rx_pairs.specs.Graph.{edges_of}
use Rattle.rx_pairs.specs.declared.pair.Pair.{Pair}
use Rattle.rx_anchors.specs.Members.{is_member, symbols_of}
use Rattle.rx_rank.specs.Components.{inside, is_inside, representatives_of}
use Rattle.rx_rank.proofs.NameLaws.{name_at}

-- two tests of which each passes where the other does
same_tests : (x y : Bool) → (x ≡ true → y ≡ true) → (y ≡ true → x ≡ true) → x ≡ y
same_tests true y from to = sym (from refl)
same_tests false true from to = to refl
same_tests false false from to = refl

-- the edges that are kept are some of them, and those to which a path leads back are kept
module _ (n : ℕ) (edges kept : List (ℕ × ℕ)) (within : (a b : ℕ) → leads edges a b ≡ true →
    (a < n) × (b < n))
    (fewer : (a b : ℕ) → leads kept a b ≡ true → leads edges a b ≡ true)
    (stays : (a b : ℕ) → leads edges a b ≡ true → Path edges b a → leads kept a b ≡ true) where
  path_there : (a b : ℕ) → Path kept a b → Path edges a b
  path_there _ _ (One a b is) = One a b (fewer a b is)
  path_there _ _ (More a b c is rest) = More a b c (fewer a b is) (path_there b c rest)

  path_kept : (a b : ℕ) → Path edges a b → Path edges b a → Path kept a b
  path_kept _ _ (One a b is) back = One a b (stays a b is back)
  path_kept _ _ (More a b c is rest) back =
      More a b c (stays a b is (path_after edges b c a rest back))
      (path_kept b c rest (one_behind edges c a b back is))

  joined_there : (a b : ℕ) → Joined kept a b → Joined edges a b
  joined_there a b (inl same) = inl same
  joined_there a b (inr paths) = inr (path_there a b paths.0, path_there b a paths.1)

  joined_kept : (a b : ℕ) → Joined edges a b → Joined kept a b
  joined_kept a b (inl same) = inl same
  joined_kept a b (inr paths) =
      inr (path_kept a b paths.0 paths.1, path_kept b a paths.1 paths.0)

  within_kept : (a b : ℕ) → leads kept a b ≡ true → (a < n) × (b < n)
  within_kept a b is = within a b (fewer a b is)

  together_same : (a b : ℕ) → together kept (below n) a b ≡ together edges (below n) a b
  together_same a b =
      same_tests (together kept (below n) a b) (together edges (below n) a b)
      (λ is. joined_together n edges within a b
      (joined_there a b (together_joined n kept within_kept a b is)))
      (λ is. joined_together n kept within_kept a b
      (joined_kept a b (together_joined n edges within a b is)))

  pub component_same : (a : ℕ) → component_of n kept a ≡ component_of n edges a
  component_same a = λ i. unwrap_or (find (λ b. together_same a b i) (range_with_len 0 n)) a

-- ---- joined vertices have one component

-- where something is found, nothing else matters
found_or : (p : ℕ → Bool) (x d e a n : ℕ) → p x ≡ true → a ≤ x → x < a + n →
    unwrap_or (find p (range_with_len a n)) d ≡ unwrap_or (find p (range_with_len a n)) e
found_or p x d e a zero is from to = absurd (omega (arith, from, to))
found_or p x d e a (suc n) is from to =
    by (p a) refl (λ later. found_or p x d e (a + 1) n is later (omega (arith, to))) where
      by : (b : Bool) → p a ≡ b → (a + 1 ≤ x → unwrap_or (find p (range_with_len (a + 1) n)) d
          ≡ unwrap_or (find p (range_with_len (a + 1) n)) e)
          → unwrap_or (cond b (Some a) (find p (range_with_len (a + 1) n))) d
          ≡ unwrap_or (cond b (Some a) (find p (range_with_len (a + 1) n))) e
      by true here further = refl
      by false here further = elim (cases_order a x) [
        | inl same ↦ absurd (false≢true (sym here ∙ ap p same ∙ is))
        | inr apart ↦ elim apart [
          | inl less ↦ further (omega (arith, less))
          | inr more ↦ absurd (omega (arith, from, more))
        ]
      ]

module _ (n : ℕ) (edges : List (ℕ × ℕ)) (within : (a b : ℕ) → leads edges a b ≡ true →
    (a < n) × (b < n)) (a b : ℕ) (joined : Joined edges a b) (there : b < n) where
  together_alike : (x : ℕ) → together edges (below n) a x ≡ together edges (below n) b x
  together_alike x =
      same_tests (together edges (below n) a x) (together edges (below n) b x)
      (λ is. joined_together n edges within b x
      (joined_on edges b a x (joined_back edges a b joined)
      (together_joined n edges within a x is)))
      (λ is. joined_together n edges within a x
      (joined_on edges a b x joined (together_joined n edges within b x is)))

  pub component_joined : component_of n edges a ≡ component_of n edges b
  component_joined =
      (λ i. unwrap_or (find (λ x. together_alike x i) (range_with_len 0 n)) a)
      ∙ found_or (together edges (below n) b) b a b 0 n
      (joined_together n edges within b b (inl refl)) (omega arith) (omega (arith, there))

-- ---- some of the pairs

abbrev edge_of : Pair → ℕ × ℕ
edge_of pair = (pair.left.0, pair.right.0)

module _ (test : Pair → Bool) (a b : ℕ) where
  fewer_lead : (pairs : List Pair) → leads (edges_of (filter test pairs)) a b ≡ true →
      leads (edges_of pairs) a b ≡ true
  fewer_lead [] is = is
  fewer_lead (pair ∷ pairs) is = by (test pair) is (fewer_lead pairs) where
    by : (c : Bool) → leads (edges_of (cond c (pair ∷ filter test pairs) (filter test pairs))) a b
        ≡ true
        → (leads (edges_of (filter test pairs)) a b ≡ true → leads (edges_of pairs) a b ≡ true)
        → leads (edges_of (pair ∷ pairs)) a b ≡ true
    by true here further = elim (or_cases (is_edge a b (edge_of pair))
        (leads (edges_of (filter test pairs)) a b) here) [
          | inl first ↦ or_left (is_edge a b (edge_of pair)) (leads (edges_of pairs) a b) first
          | inr other ↦ or_right (is_edge a b (edge_of pair)) (leads (edges_of pairs) a b)
              (further other)
        ]
    by false here further =
        or_right (is_edge a b (edge_of pair)) (leads (edges_of pairs) a b) (further here)

  passing_lead : ((pair : Pair) → is_edge a b (edge_of pair) ≡ true → test pair ≡ true) →
      (pairs : List Pair) → leads (edges_of pairs) a b ≡ true
      → leads (edges_of (filter test pairs)) a b ≡ true
  passing_lead passes [] is = is
  passing_lead passes (pair ∷ pairs) is = elim (or_cases (is_edge a b (edge_of pair))
      (leads (edges_of pairs) a b) is) [
        | inl first ↦
            subst (λ (c : Bool). leads (edges_of
            (cond c (pair ∷ filter test pairs) (filter test pairs))) a b ≡ true)
            (sym (passes pair first))
            (or_left (is_edge a b (edge_of pair)) (leads (edges_of (filter test pairs)) a b) first)
        | inr other ↦ by (test pair) (passing_lead passes pairs other)
      ] where
        by : (c : Bool) → leads (edges_of (filter test pairs)) a b ≡ true
            → leads (edges_of (cond c (pair ∷ filter test pairs) (filter test pairs))) a b ≡ true
        by true rest =
            or_right (is_edge a b (edge_of pair)) (leads (edges_of (filter test pairs)) a b) rest
        by false rest = rest

-- ---- the pairs inside components have the same components

module _ (n : ℕ) (pairs : List Pair) (over : IsOver n (edges_of pairs)) where
  abbrev edges : List (ℕ × ℕ)
  edges = edges_of pairs

  abbrev names : List ℕ
  names = representatives_of n pairs

  within : (a b : ℕ) → leads edges a b ≡ true → (a < n) × (b < n)
  within = lead_below n edges over

  abbrev component : ℕ → ℕ
  component = component_of n edges

  -- a pair to whose left symbol a path leads back is inside a component
  comes_back : (a b : ℕ) → leads edges a b ≡ true → Path edges b a → (pair : Pair) →
      is_edge a b (edge_of pair) ≡ true → is_inside names pair ≡ true
  comes_back a b is back pair here =
      let ends = within a b is in
      let both = and_parts (pair.left.0 == a) (pair.right.0 == b) here in
      let left = eqb-true pair.left.0 a both.0 in
      let right = eqb-true pair.right.0 b both.1 in
      ap (λ o. option_map_or (λ name. is_member names name pair.right.0) o false)
      (name_at n edges pair.left.0 (omega (arith, left, ends)))
      ∙ ap (λ o. option_map_or (λ name. name == component pair.left.0) o false)
      (name_at n edges pair.right.0 (omega (arith, right, ends)))
      ∙ eq-eqb (component pair.right.0) (component pair.left.0)
      (ap component right
      ∙ sym (component_joined n edges within a b (inr (One a b is, back)) ends.1)
      ∙ sym (ap component left))

  pub names_inside : representatives_of n (inside n pairs) ≡ names
  names_inside = λ i. map (λ a. component_same n edges (edges_of (inside n pairs)) within
      (λ a b is. fewer_lead (is_inside names) a b pairs is)
      (λ a b is back. passing_lead (is_inside names) a b (comes_back a b is back) pairs is) a i)
      (symbols_of n)

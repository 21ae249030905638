-- The entries of all groups: they are those that were grouped, and each number is among theirs.
use Rattle.std.proofs.Common.{◌≡◌, ◌∙◌, ap, subst, refl, arith, ℕ, zero, suc, ◌==◌, ◌+◌, ◌<◌, Bool, true, false, ◌||◌, Some, List, [], ◌∷◌, All, Contains, length, map, slice_get}
use Rattle.std.specs.List.{list_any, range_with_len}
use Rattle.std.specs.Option.{option_map_or}
use Rattle.std.proofs.lemmas.Bool.{eq-eqb, false≢true}
use Rattle.std.proofs.lemmas.List.Elements.{All-append, All-cons, All-contains, All-contains_itself, All-filter, All-head, All-nil, All-tail, Contains-append_left, Contains-append_right}
use Rattle.std.proofs.lemmas.List.Folds.{list_any_at}
use Rattle.std.proofs.lemmas.List.FromFn.{length-map-range_with_len}
use Rattle.rx_graph.specs.Components.{component_of}
use Rattle.rx_graph.specs.Graph.{IsOver}
use Rattle.rx_plain.proofs.Kept.{first_one, kept, other_one}
use Rattle.rx_pairs.specs.Graph.{edges_of}
use Rattle.rx_anchors.specs.Members.{is_member}
use Rattle.rx_rank.specs.Components.{representatives_of}
use Rattle.rx_rank.proofs.NameLaws.{component_below, name_at}
use Rattle.rx_find_ranks.specs.Groups.{by_component, entries_in, ungrouped}
use Rattle.rx_find_ranks.specs.Tables.{has_number, pairs_open}
use Rattle.rx_find_ranks.specs.declared.open_pair.OpenPair.{OpenPair}

module _ (names : List ℕ) (entries : List OpenPair) where
  all_among : (a n : ℕ) → All (Contains entries)
      (ungrouped (map (entries_in names entries) (range_with_len a n)))
  all_among a zero = All-nil (Contains entries)
  all_among a (suc n) =
      All-append (Contains entries) (entries_in names entries a)
      (ungrouped (map (entries_in names entries) (range_with_len (a + 1) n)))
      (All-filter (λ (o : OpenPair). is_member names a o.pair.left.0) (Contains entries) entries
      (All-contains_itself entries))
      (all_among (a + 1) n)

  -- they are entries that were grouped
  pub grouped_among : (o : OpenPair) → Contains (ungrouped (by_component names entries)) o →
      Contains entries o
  grouped_among o there =
      All-contains (Contains entries) (ungrouped (by_component names entries)) o
      (all_among 0 (length names)) there

one_passes : {A : Type 0} (test : A → Bool) (xs : List A) → list_any test xs ≡ true → (x : A) ×
    Contains xs x × (test x ≡ true)
one_passes test [] some = absurd (false≢true some)
one_passes {A} test (x ∷ xs) some = by (test x) refl some (one_passes test xs) where
  by : (b : Bool) → test x ≡ b → (b || list_any test xs) ≡ true →
      (list_any test xs ≡ true → (y : A) × Contains xs y × (test y ≡ true))
      → (y : A) × Contains (x ∷ xs) y × (test y ≡ true)
  by true here any later = (x, first_one x xs, here)
  by false here any later =
      let found = later any in (found.0, other_one x xs found.0 found.1, found.2)

in_groups : (group : ℕ → List OpenPair) (o : OpenPair) (a n k : ℕ) → k < n →
    Contains (group (a + k)) o → Contains (ungrouped (map group (range_with_len a n))) o
in_groups group o a zero k less there = absurd (omega (arith, less))
in_groups group o a (suc n) zero less there =
    let at : a + 0 ≡ a = omega arith in
    Contains-append_left (group a) (ungrouped (map group (range_with_len (a + 1) n))) o
    (subst (λ c. Contains (group c) o) at there)
in_groups group o a (suc n) (suc k) less there =
    let at : a + suc k ≡ (a + 1) + k = omega arith in
    Contains-append_right (group a) (ungrouped (map group (range_with_len (a + 1) n))) o
    (in_groups group o (a + 1) n k (omega (arith, less))
    (subst (λ c. Contains (group c) o) at there))

-- ---- each number is in a group

module _ (n : ℕ) (entries : List OpenPair) (over : IsOver n (edges_of (pairs_open entries))) where
  abbrev edges : List (ℕ × ℕ)
  edges = edges_of (pairs_open entries)

  abbrev EdgeWithin : ℕ × ℕ → Type 0
  EdgeWithin e = (e.0 < n) × (e.1 < n)

  lefts_below : (os : List OpenPair) → IsOver n (edges_of (pairs_open os)) →
      All (λ (o : OpenPair). o.pair.left.0 < n) os
  lefts_below [] within = All-nil (λ (o : OpenPair). o.pair.left.0 < n)
  lefts_below (o ∷ os) within =
      All-cons (λ (x : OpenPair). x.pair.left.0 < n) o os
      (All-head EdgeWithin (o.pair.left.0, o.pair.right.0) (edges_of (pairs_open os)) within).0
      (lefts_below os (All-tail EdgeWithin (o.pair.left.0, o.pair.right.0)
      (edges_of (pairs_open os)) within))

  -- each number of an entry is that of an entry in a group
  pub numbers_grouped : (names : List ℕ) → names ≡ representatives_of n (pairs_open entries) →
      (k : ℕ) →
      has_number k entries ≡ true
      → has_number k (ungrouped (by_component names entries)) ≡ true
  numbers_grouped names found k some =
      let one = one_passes (λ (o : OpenPair). o.number == k) entries some in
      let f = one.0.pair.left.0 in
      let less = All-contains (λ (o : OpenPair). o.pair.left.0 < n) entries one.0
      (lefts_below entries over) one.1 in
      let name = component_of n edges f in
      let there : slice_get names f ≡ Some name = ap (λ ns. slice_get ns f) found ∙
      name_at n edges f less in
      let low = component_below n edges f less in
      let size : length names ≡ n = ap (λ (ns : List ℕ). length ns) found ∙
      length-map-range_with_len (component_of n edges) 0 n in
      let member : is_member names name f ≡ true =
      ap (λ o. option_map_or (λ j. j == name) o false) there ∙ eq-eqb name name refl in
      let inner = kept (λ (o : OpenPair). is_member names name o.pair.left.0) entries one.0
      one.1 member in
      let at : name ≡ 0 + name = omega arith in
      let all = in_groups (entries_in names entries) one.0 0 (length names) name
      (omega (arith, size, low)) (subst (λ c. Contains (entries_in names entries c) one.0) at
      inner) in
      list_any_at (λ (o : OpenPair). o.number == k) (ungrouped (by_component names entries)) all.0
      one.0 all.1
      (ap (λ (o : OpenPair). o.number == k) all.2 ∙ one.2)

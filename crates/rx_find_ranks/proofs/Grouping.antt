-- Groups in memory, and one entry more in the group of its component.
use Rattle.std.proofs.Common.{◌≡◌, ◌∙◌, ap, sym, refl, arith, ℕ, zero, suc, ◌==◌, ◌+◌, ◌<◌, ◌≤◌, false, inl, inr, Some, None, Vec, List, [], ◌∷◌, ◌++◌, get_or, length, map, set, slice_get}
use Rattle.std.specs.List.{range_with_len}
use Rattle.std.specs.Option.{option_map_or}
use Rattle.std.specs.declared.alloc.Global.{Global}
use Rattle.std.proofs.lemmas.Bool.{cases_lt, eq-eqb, ne_eqb}
use Rattle.std.proofs.lemmas.List.{get_or-map, length-map, map-set, set_past}
use Rattle.std.proofs.lemmas.List.FromFn.{get_or-map-range_with_len, length-map-range_with_len}
use Rattle.rx_anchors.specs.Members.{is_member}
use Rattle.rx_find_ranks.proofs.ClosingLaws.{filter_one, filter_skip}
use Rattle.rx_find_ranks.specs.Groups.{by_component, entries_in, groups_in}
use Rattle.rx_find_ranks.specs.declared.open_pair.OpenPair.{OpenPair}

abbrev pub items_of : Vec OpenPair Global → List OpenPair
items_of v = v.items

-- there is a group for each name
pub group_count : (names : List ℕ) (past : List OpenPair) (groups : List (Vec OpenPair Global)) →
    groups_in groups ≡ by_component names past → length groups ≡ length names
group_count names past groups is =
    sym (length-map groups items_of) ∙ ap (λ (gs : List (List OpenPair)). length gs) is
    ∙ length-map-range_with_len (entries_in names past) 0 (length names)

-- there is no place there
pub past_end : (groups : List (Vec OpenPair Global)) (at : ℕ) (row : List OpenPair) →
    length groups ≤ at → set (groups_in groups) at row ≡ groups_in groups
past_end groups at row past =
    let size = length-map groups items_of in set_past (groups_in groups) at row
    (omega (arith, past, size))

-- ---- one entry more

module _ (names : List ℕ) (past : List OpenPair) (entry : OpenPair) where
  abbrev f : ℕ
  f = entry.pair.left.0

  abbrev more : List OpenPair
  more = past ++ entry ∷ []

  -- the groups of other components stay
  same_groups : (a n : ℕ) → ((c : ℕ) → a ≤ c → c < a + n → is_member names c f ≡ false)
      → map (entries_in names past) (range_with_len a n) ≡
      map (entries_in names more) (range_with_len a n)
  same_groups a zero other = refl
  same_groups a (suc n) other =
      let here = filter_skip (λ (o : OpenPair). is_member names a o.pair.left.0) past entry
      (other a (omega arith) (omega arith)) in
      let rest = same_groups (a + 1) n (λ c from to.
      other c (omega (arith, from)) (omega (arith, to))) in
      λ i. sym here i ∷ rest i

  not_named : (name c : ℕ) → slice_get names f ≡ Some name → (name ≡ c → ⊥) → is_member names c f ≡
      false
  not_named name c there other =
      ap (λ o. option_map_or (λ k. k == c) o false) there ∙ ne_eqb name c other

  -- its component has it last
  own_group : (name : ℕ) → slice_get names f ≡ Some name → entries_in names past name ++ entry ∷
      [] ≡ entries_in names more name
  own_group name there =
      sym (filter_one (λ (o : OpenPair). is_member names name o.pair.left.0) past entry
      (ap (λ o. option_map_or (λ k. k == name) o false) there ∙ eq-eqb name name refl))

  put_at : (a n k name : ℕ) → slice_get names f ≡ Some name → name ≡ a + k → k < n
      → set (map (entries_in names past) (range_with_len a n)) k
      (entries_in names past name ++ entry ∷ []) ≡
      map (entries_in names more) (range_with_len a n)
  put_at a zero k name there is less = absurd (omega (arith, less))
  put_at a (suc n) zero name there is less =
      let at : name ≡ a = omega (arith, is) in
      let here = own_group name there ∙ ap (entries_in names more) at in
      let rest = same_groups (a + 1) n (λ c from to.
      not_named name c there (λ same. omega (arith, from, same, at))) in
      λ i. here i ∷ rest i
  put_at a (suc n) (suc k) name there is less =
      let other : name ≡ a → ⊥ = λ same. omega (arith, same, is) in
      let here = filter_skip (λ (o : OpenPair). is_member names a o.pair.left.0) past entry
      (not_named name a there other) in
      let rest = put_at (a + 1) n k name there (omega (arith, is)) (omega (arith, less)) in
      λ i. sym here i ∷ rest i

  module _ (groups : List (Vec OpenPair Global)) (is : groups_in groups ≡ by_component names past)
    where
      -- it is added to the group of its component
      put_in_group : (name : ℕ) (after : List (List OpenPair)) → slice_get names f ≡ Some name →
          name < length groups
          → after ≡ set (groups_in groups) name (get_or (groups_in groups) name [] ++ entry ∷ []) →
          after ≡ by_component names more
      put_in_group name after there inner put =
          let h = group_count names past groups is in
          let less : name < length names = omega (arith, inner, h) in
          let old_is : get_or (groups_in groups) name [] ≡ entries_in names past name =
          ap (λ gs. get_or gs name []) is ∙ get_or-map-range_with_len (entries_in names past) 0
          (length names) name name [] less (omega arith) in
          put
          ∙ (λ i. set (is i) name (old_is i ++ entry ∷ []))
          ∙ put_at 0 (length names) name name there (omega arith) less

      -- it has no component that is named by a symbol
      put_nowhere : (name : ℕ) → slice_get names f ≡ Some name → length groups ≤ name →
          groups_in groups ≡ by_component names more
      put_nowhere name there past_all =
          let h = group_count names past groups is in
          is ∙ same_groups 0 (length names) (λ c from to.
          not_named name c there (λ same. omega (arith, same, to, past_all, h)))

      -- its symbol has no name
      pub put_unnamed : slice_get names f ≡ None → groups_in groups ≡ by_component names more
      put_unnamed none =
          is ∙ same_groups 0 (length names) (λ c from to.
          ap (λ o. option_map_or (λ k. k == c) o false) none)

      -- it is added where it belongs, if that is a place
      pub put_by_name : (name : ℕ) (after : List (List OpenPair)) → Some name ≡ slice_get names f
          → after ≡ set (groups_in groups) name (get_or (groups_in groups) name [] ++ entry ∷ []) →
          after ≡ by_component names more
      put_by_name name after there put = elim (cases_lt name (length groups)) [
        | inl less ↦ put_in_group name after (sym there) less put
        | inr past_all ↦ put ∙ past_end groups name
            (get_or (groups_in groups) name [] ++ entry ∷ [])
            past_all ∙ put_nowhere name (sym there) past_all
      ]

-- a row of a list that is longer by one
pub pushed_row : (groups : List (Vec OpenPair Global)) (entry : OpenPair) (at : ℕ)
    (old row : Vec OpenPair Global) → at < length groups → old ≡ get_or groups at old
    → row.items ≡ old.items ++ entry ∷ [] → groups_in (set groups at row) ≡
    set (groups_in groups) at (get_or (groups_in groups) at [] ++ entry ∷ [])
pushed_row groups entry at old row inner was pushed =
    let old_is : old.items ≡ get_or (groups_in groups) at [] = ap items_of was ∙
    sym (get_or-map items_of groups at old [] inner) in
    map-set items_of groups at row ∙ ap (set (groups_in groups) at)
    (pushed ∙ ap (λ os. os ++ entry ∷ []) old_is)

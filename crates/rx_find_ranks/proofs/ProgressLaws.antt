-- A column of heights in memory: one column more, over which the pairs are split anew.
use Rattle.std.proofs.Common.{◌≡◌, ◌∙◌, ap, sym, subst, refl, cond, ℕ, suc, ◌<◌, ◌≤◌, ◌^◌, Bool, true, false, Option, Some, None, List, [], ◌∷◌, ◌++◌, get_or, length, slice_get, pos}
use Rattle.std.specs.List.{filter}
use Rattle.std.specs.Option.{option_map}
use Rattle.std.specs.Prelude.{nat_lt, option_and_then}
use Rattle.std.proofs.lemmas.List.Elements.{All-cons, All-head, All-nil, All-tail}
use Rattle.std.proofs.lemmas.List.FromFn.{length-map-range_with_len}
use Rattle.std.proofs.lemmas.Option.{none-some, same_Some, slice_get-map}
use Rattle.rx_graph.specs.Components.{AreComponents, component_of}
use Rattle.rx_graph.specs.Graph.{IsOver}
use Rattle.rx_graph.specs.Heights.{AreHeights}
use Rattle.rx_poly.specs.Constants.{number}
use Rattle.rx_poly.specs.Variables.{uses_below}
use Rattle.rx_poly.specs.declared.body.Body.{Body}
use Rattle.rx_poly_laws.proofs.TestLaws.{passes-number}
use Rattle.rx_pairs.specs.Graph.{edges_of}
use Rattle.rx_pairs.specs.declared.pair.Pair.{Pair}
use Rattle.rx_find_ranks.proofs.GrowthLaws.{count_pushed, lawful_pushed, split_pushed}
use Rattle.rx_find_ranks.proofs.HeightColumns.{heights_split}
use Rattle.rx_anchors.specs.Members.{arity_of}
use Rattle.rx_find_ranks.specs.Closing.{close_all}
use Rattle.rx_find_ranks.specs.Between.{is_leaving, is_staying}
use Rattle.rx_rank.specs.Components.{inside, is_inside, representatives_of}
use Rattle.rx_find_ranks.specs.Rounds.{IsGrown, IsSplitBy}
use Rattle.rx_find_ranks.specs.Columns.{Column, column_of, columns_in, height_column}
use Rattle.rx_find_ranks.specs.Tables.{IsLawful, IsSplit, pairs_open}
use Rattle.rx_find_ranks.specs.declared.column.FoundColumn.{FoundColumn}
use Rattle.rx_find_ranks.specs.declared.open_pair.OpenPair.{OpenPair}
use Rattle.rx_find_ranks.specs.declared.progress.Progress.{Progress}
use Rattle.rx_term.specs.declared.rule_set.SymInfo.{SymInfo}

-- ---- the pairs that stay

pairs_one : (names : List ℕ) (o : OpenPair) (os : List OpenPair) (c : Bool) →
    pairs_open (filter (is_staying names) os) ≡ filter (is_inside names) (pairs_open os)
    → pairs_open (cond c (o ∷ filter (is_staying names) os) (filter (is_staying names) os))
    ≡ cond c (o.pair ∷ filter (is_inside names) (pairs_open os))
    (filter (is_inside names) (pairs_open os))
pairs_one names o os true rest = ap (λ ps. o.pair ∷ ps) rest
pairs_one names o os false rest = rest

pairs_stay : (names : List ℕ) (os : List OpenPair) → pairs_open (filter (is_staying names) os) ≡
    filter (is_inside names) (pairs_open os)
pairs_stay names [] = refl
pairs_stay names (o ∷ os) = pairs_one names o os (is_staying names o) (pairs_stay names os)

pub heights_pairs : (n : ℕ) (entries lent left : List OpenPair) (names lent_names : List ℕ) → lent ≡
    entries → lent_names ≡ names → names ≡ representatives_of n (pairs_open lent)
    → left ≡ filter (is_staying lent_names) entries → pairs_open left ≡
    inside n (pairs_open entries)
heights_pairs n entries lent left names lent_names same same_names found is =
    ap pairs_open is ∙ pairs_stay lent_names entries
    ∙ ap (λ ns. filter (is_inside ns) (pairs_open entries))
    (same_names ∙ found ∙ ap (λ es. representatives_of n (pairs_open es)) same)

abbrev EdgeWithin : ℕ → ℕ × ℕ → Type 0
EdgeWithin n e = (e.0 < n) × (e.1 < n)

over_one : (n : ℕ) (names : List ℕ) (o : OpenPair) (os : List OpenPair) (c : Bool) →
    EdgeWithin n (o.pair.left.0, o.pair.right.0)
    → IsOver n (edges_of (pairs_open (filter (is_staying names) os)))
    → IsOver n (edges_of (pairs_open (cond c (o ∷ filter (is_staying names) os)
    (filter (is_staying names) os))))
over_one n names o os true here rest =
    All-cons (EdgeWithin n) (o.pair.left.0, o.pair.right.0)
    (edges_of (pairs_open (filter (is_staying names) os))) here rest
over_one n names o os false here rest = rest

over_kept : (n : ℕ) (names : List ℕ) (os : List OpenPair) → IsOver n (edges_of (pairs_open os)) →
    IsOver n (edges_of (pairs_open (filter (is_staying names) os)))
over_kept n names [] over = All-nil (EdgeWithin n)
over_kept n names (o ∷ os) over =
    over_one n names o os (is_staying names o)
    (All-head (EdgeWithin n) (o.pair.left.0, o.pair.right.0) (edges_of (pairs_open os)) over)
    (over_kept n names os (All-tail (EdgeWithin n) (o.pair.left.0, o.pair.right.0)
    (edges_of (pairs_open os)) over))

-- ---- a column of numbers is lawful

number_of : (infos : List SymInfo) (f : ℕ) (p : Body) (o : Option ℕ)
    → option_and_then (λ value. value) (option_map (λ (h : ℕ). Some (number (pos h))) o) ≡ Some p →
    uses_below (arity_of infos f) p ≡ true
number_of infos f p None e = absurd (none-some p e)
number_of infos f p (Some h) e =
    subst (λ q. uses_below (arity_of infos f) q ≡ true) (same_Some (number (pos h)) p e)
    (passes-number (λ v. nat_lt v (arity_of infos f)) (pos h))

height_lawful : (infos : List SymInfo) (heights : List ℕ) → IsLawful infos (height_column heights)
height_lawful infos heights f p e =
    number_of infos f p (slice_get heights f)
    (ap (option_and_then (λ value. value)) (sym
    (slice_get-map (λ (h : ℕ). Some (number (pos h))) heights f)) ∙ e)

-- ---- one column more

pub record IsLeveled (n : ℕ) (entries : List OpenPair) (names heights : List ℕ) : Type 0 where
  pub found : names ≡ representatives_of n (pairs_open entries)
  pub components : AreComponents n (edges_of (pairs_open entries)) names
  pub high : AreHeights n (edges_of (pairs_open entries)) heights
  pub count : length heights ≡ n
  pub low : (a : ℕ) → a < n → get_or heights a 0 < n

module _ (n : ℕ) (infos : List SymInfo) (size : n ≡ length infos) (few : n ≤ 2 ^ 32)
    (before after : Progress) (names heights : List ℕ) (column : FoundColumn)
    (level : IsLeveled n before.entries.items names heights)
    (over : IsOver n (edges_of (pairs_open before.entries.items)))
    (made : column_of column ≡ height_column heights)
    (pushed : after.columns.items ≡ before.columns.items ++ column ∷ [])
    (staying : after.entries.items ≡ filter (is_staying names) before.entries.items)
    (leaving : after.closed.items ≡ close_all (length after.columns.items) before.closed.items
    (filter (is_leaving names) before.entries.items)) where
  names_size : length names ≡ n
  names_size =
      ap (λ (ns : List ℕ). length ns) level.found ∙
      length-map-range_with_len (component_of n (edges_of (pairs_open before.entries.items))) 0 n

  grown_split : (pairs : List Pair) → IsSplitBy pairs before → IsSplitBy pairs after
  grown_split pairs split =
      let cols = columns_in before.columns.items in
      let stay = filter (is_staying names) before.entries.items in
      let leave = filter (is_leaving names) before.entries.items in
      split_pushed before after column pushed pairs stay leave staying leaving
      (subst (λ (values : Column). IsSplit pairs (cols ++ values ∷ []) stay
      (close_all (suc (length cols)) before.closed.items leave)) (sym made)
      (heights_split n pairs cols before.entries.items before.closed.items names heights split over
      names_size level.count level.components level.high few level.low))

  pub heights_grown : IsGrown infos before after
  heights_grown = record {
    count = count_pushed before after column pushed;
    split = grown_split;
    lawful =
        lawful_pushed before after column pushed infos
        (subst (IsLawful infos) (sym made) (height_lawful infos heights));
    over =
        λ within. subst (λ es. IsOver (length infos) (edges_of (pairs_open es))) (sym staying)
        (over_kept (length infos) names before.entries.items within);
  }

-- The links of pairs are between symbols, and the labels of the graph's components are the names of
-- the groups.
use Rattle.std.proofs.Common.{◌≡◌, ◌∙◌, ap, sym, subst, ℕ, ◌+◌, ◌<◌, Bool, true, false, if◌then◌else◌, Vec, List, [], ◌∷◌, ◌++◌, append_assoc, get_or, length, take}
use Rattle.std.specs.List.{flat_map}
use Rattle.std.specs.declared.alloc.Global.{Global}
use Rattle.std.proofs.lemmas.List.{append-nil, flat_map_more, length-map, take_more}
use Rattle.std.proofs.lemmas.List.Elements.{All-append, All-cons, All-head, All-nil, All-tail}
use Rattle.rx_graph.specs.Components.{AreComponents, components_of}
use Rattle.rx_graph.specs.Graph.{IsGraphOf, IsOver, rows_of}
use Rattle.rx_graph.proofs.GraphLaws.{lead_below}
use Rattle.rx_graph.proofs.LabelLaws.{labels_computed}
use Rattle.rx_pairs.specs.Graph.{edges_of}
use Rattle.rx_pairs.specs.Listed.{pairs_by_all}
use Rattle.rx_pairs.specs.Pairs.{AreAllPairs}
use Rattle.rx_pairs.specs.declared.pair.Pair.{Pair}
use Rattle.rx_pairs.proofs.EdgeLaws.{edge_of}
use Rattle.rx_pairs.proofs.ListedLaws.{only_all_listed}
use Rattle.rx_pairs.proofs.LoopLaws.{rules_within}
use Rattle.rx_term.specs.WellMade.{IsWellMade}
use Rattle.rx_term.specs.declared.rule.Rule.{Rule}
use Rattle.rx_term.specs.declared.rule_set.RuleParts.{RuleParts}
use Rattle.rx_term.specs.declared.rule_set.SymInfo.{SymInfo}
use Rattle.rx_find_domains.specs.Groups.{groups, is_entry, links}

module _ (n : ℕ) (infos : List SymInfo) where
  abbrev Within : ℕ × ℕ → Type 0
  Within e = (e.0 < n) × (e.1 < n)

  links_over : (pair : Pair) → Within (edge_of pair) → IsOver n (links infos pair)
  links_over pair there = by (is_entry infos pair.right.0) where
    by : (b : Bool) → IsOver n
        (if b then [] else (pair.left.0, pair.right.0) ∷ (pair.right.0, pair.left.0) ∷ [])
    by true = All-nil Within
    by false =
        All-cons Within (pair.left.0, pair.right.0) ((pair.right.0, pair.left.0) ∷ []) there
        (All-cons Within (pair.right.0, pair.left.0) [] (there.1, there.0) (All-nil Within))

  -- the links of pairs of symbols are between symbols
  pub all_over : (pairs : List Pair) → IsOver n (edges_of pairs) →
      IsOver n (flat_map (links infos) pairs)
  all_over [] over = All-nil Within
  all_over (pair ∷ pairs) over =
      All-append Within (links infos pair) (flat_map (links infos) pairs)
      (links_over pair (All-head Within (edge_of pair) (edges_of pairs) over))
      (all_over pairs (All-tail Within (edge_of pair) (edges_of pairs) over))

  -- the links of one more pair
  pub links_more : (pairs : List Pair) (i : ℕ) (pair : Pair) → i < length pairs → pair ≡
      get_or pairs i pair → flat_map (links infos) (take i pairs) ++ links infos pair ≡
      flat_map (links infos) (take (i + 1) pairs)
  links_more pairs i pair there is =
      flat_map_more (links infos) [] (take i pairs) pair ∙
      sym (ap (flat_map (links infos)) (take_more pairs i pair there ∙
      ap (λ (p : Pair). take i pairs ++ p ∷ []) (sym is)))

-- the edges so far with the links of one more pair
module _ (infos : List SymInfo) (pair : Pair) (edges : List (ℕ × ℕ)) where
  pub entry_links : is_entry infos pair.right.0 ≡ true → edges ≡ edges ++ links infos pair
  entry_links is =
      sym (append-nil edges) ∙ sym (ap (λ (b : Bool). edges ++
      (if b then [] else (pair.left.0, pair.right.0) ∷ (pair.right.0, pair.left.0) ∷ [])) is)

  pub other_links : is_entry infos pair.right.0 ≡ false →
      (edges ++ (pair.left.0, pair.right.0) ∷ []) ++ (pair.right.0, pair.left.0) ∷ [] ≡
      edges ++ links infos pair
  other_links is =
      append_assoc edges ((pair.left.0, pair.right.0) ∷ []) ((pair.right.0, pair.left.0) ∷ []) ∙
      sym (ap (λ (b : Bool). edges ++
      (if b then [] else (pair.left.0, pair.right.0) ∷ (pair.right.0, pair.left.0) ∷ [])) is)

-- the pairs of rules without hypotheses
pub rule_pairs : (parts : RuleParts) (rules : List Rule) (pairs : List Pair) → rules ≡ parts.rules →
    AreAllPairs (rules ++ []) pairs → pairs ≡ pairs_by_all parts.rules
rule_pairs parts rules pairs same are =
    only_all_listed (rules ++ []) pairs are ∙ ap pairs_by_all (append-nil rules ∙ same)

module _ (n : ℕ) (edges : List (ℕ × ℕ)) (rows : List (Vec ℕ Global))
    (graph : IsGraphOf n edges (rows_of rows)) where
  pub rows_count : length rows ≡ n
  rows_count = sym (length-map rows (λ (r : Vec ℕ Global). r.items)) ∙ graph.count

  graph_there : IsGraphOf (length rows) edges (rows_of rows)
  graph_there = subst (λ k. IsGraphOf k edges (rows_of rows)) (sym rows_count) graph

  -- the labels of its components are what is computed
  pub labels_are : IsOver n edges → (labels : List ℕ) → length labels ≡ length rows
      → ((es : List (ℕ × ℕ)) → IsGraphOf (length rows) es (rows_of rows) →
      AreComponents (length rows) es labels) → labels ≡ components_of n edges
  labels_are over labels count least =
      labels_computed n edges (lead_below n edges over) labels (count ∙ rows_count)
      (subst (λ k. AreComponents k edges labels) rows_count (least edges graph_there))

-- of a well made set's symbols and pairs
module _ (parts : RuleParts) (made : IsWellMade parts) (infos : List SymInfo)
    (pairs : List Pair) (same : infos ≡ parts.symbols)
    (are : pairs ≡ pairs_by_all parts.rules) where
  pub over_here : IsOver (length infos) (edges_of pairs)
  over_here =
      subst (λ (ps : List Pair). IsOver (length infos) (edges_of ps)) (sym are)
      (subst (λ (is : List SymInfo). IsOver (length is) (edges_of (pairs_by_all parts.rules)))
      (sym same) (rules_within parts made))

  pub names_are : (rows : List (Vec ℕ Global)) →
      IsGraphOf (length infos) (flat_map (links infos) pairs) (rows_of rows)
      → (labels : List ℕ) → length labels ≡ length rows
      → ((es : List (ℕ × ℕ)) → IsGraphOf (length rows) es (rows_of rows) →
      AreComponents (length rows) es labels) → labels ≡ groups parts
  names_are rows graph labels count least =
      labels_are (length infos) (flat_map (links infos) pairs) rows graph
      (all_over (length infos) infos pairs over_here) labels count least ∙
      (λ i. components_of (length (same i)) (flat_map (links (same i)) (are i)))

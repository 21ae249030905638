-- The graph of pairs, and the names of its components.
use Rattle.std.proofs.Common.{◌≡◌, ◌∙◌, ap, sym, subst, refl, cond, arith, ℕ, zero, suc, ◌+◌, ◌<◌, Bool, true, false, Option, Some, None, Vec, List, length, slice_get, unwrap_or}
use Rattle.std.specs.List.{find, range_with_len}
use Rattle.std.specs.Option.{option_map}
use Rattle.std.specs.declared.alloc.Global.{Global}
use Rattle.std.proofs.lemmas.List.{length-map}
use Rattle.std.proofs.lemmas.List.FromFn.{get_or-range_with_len, length-range_with_len}
use Rattle.std.proofs.lemmas.Option.{slice_get-get_or, slice_get-map}
use Rattle.rx_graph.proofs.GraphLaws.{lead_below}
use Rattle.rx_graph.proofs.LabelLaws.{labels_computed}
use Rattle.rx_graph.specs.Components.{AreComponents, component_of, components_of}
use Rattle.rx_graph.specs.Graph.{IsGraphOf, IsOver, below, rows_of, together}
use Rattle.rx_pairs.specs.Graph.{edges_of}
use Rattle.rx_pairs.specs.declared.pair.Pair.{Pair}
use Rattle.rx_rank.specs.Components.{representatives_of}

-- the graph of pairs
module _ (symbols : ℕ) (pairs : List Pair) (rows : List (Vec ℕ Global))
    (graph : IsGraphOf symbols (edges_of pairs) (rows_of rows)) where
  pub rows_by : length rows ≡ symbols
  rows_by = sym (length-map rows (λ (r : Vec ℕ Global). r.items)) ∙ graph.count

  pub graph_at : IsGraphOf (length rows) (edges_of pairs) (rows_of rows)
  graph_at = subst (λ n. IsGraphOf n (edges_of pairs) (rows_of rows)) (sym rows_by) graph

  -- the labels of its components are the names
  pub names_at : IsOver symbols (edges_of pairs) → (labels : List ℕ) → length labels ≡ length rows
      → ((edges : List (ℕ × ℕ)) → IsGraphOf (length rows) edges (rows_of rows) →
      AreComponents (length rows) edges labels)
      → labels ≡ representatives_of symbols pairs
  names_at over labels count least =
      let edges = edges_of pairs in
      labels_computed symbols edges (lead_below symbols edges over) labels (count ∙ rows_by)
      (subst (λ n. AreComponents n edges labels) rows_by (least edges graph_at))

-- ---- names are symbols

found_below : (test : ℕ → Bool) (a n x : ℕ) → find test (range_with_len a n) ≡ Some x → x < a + n
found_below test a zero x found = cc
found_below test a (suc n) x found = by (test a) found (found_below test (a + 1) n x) where
  by : (b : Bool) → cond b (Some a) (find test (range_with_len (a + 1) n)) ≡ Some x →
      (find test (range_with_len (a + 1) n) ≡ Some x → x < (a + 1) + n) → x < a + suc n
  by true is later = let same : a ≡ x = cc in omega (arith, same)
  by false is later = let h = later is in omega (arith, h)

module _ (n : ℕ) (edges : List (ℕ × ℕ)) where
  pub component_below : (f : ℕ) → f < n → component_of n edges f < n
  component_below f less = by (find (together edges (below n) f) (range_with_len 0 n)) refl where
    by : (o : Option ℕ) → find (together edges (below n) f) (range_with_len 0 n) ≡ o → unwrap_or o f
        < n
    by None none = less
    by (Some x) some =
        let h = found_below (together edges (below n) f) 0 n x some in omega (arith, h)

  pub name_at : (f : ℕ) → f < n → slice_get (components_of n edges) f ≡
      Some (component_of n edges f)
  name_at f less =
      let count = length-range_with_len 0 n in
      slice_get-map (component_of n edges) (range_with_len 0 n) f
      ∙ ap (option_map (component_of n edges))
      (slice_get-get_or (range_with_len 0 n) f 0 (omega (arith, count, less)) ∙
      ap Some (get_or-range_with_len 0 n f 0 less ∙ (let e : 0 + f ≡ f = omega arith in e)))

-- The table of the columns is lawful, and where no pair is open all are lower by it.
use Rattle.std.proofs.Common.{◌≡◌, ◌∙◌, ap, sym, subst, refl, cond, arith, ℕ, zero, suc, ◌+◌, ◌==◌, ◌<◌, true, Option, Some, None, List, [], ◌∷◌, get_or, length, map, slice_get, unwrap_or, All}
use Rattle.std.specs.List.{list_all, range_with_len}
use Rattle.std.specs.Option.{option_map, option_map_or}
use Rattle.std.specs.Prelude.{nat_lt, negsuc}
use Rattle.std.proofs.lemmas.Bool.{and_from, eq-eqb, false≢true}
use Rattle.std.proofs.lemmas.List.Elements.{All-cons, All-head, All-nil, All-tail}
use Rattle.std.proofs.lemmas.List.FromFn.{get_or-range_with_len, length-range_with_len}
use Rattle.std.proofs.lemmas.Option.{none-some, same_Some, slice_get-get_or, slice_get-map, slice_get_within}
use Rattle.rx_poly.specs.Constants.{number}
use Rattle.rx_poly.specs.Variables.{uses_below}
use Rattle.rx_poly.specs.declared.body.Body.{Body}
use Rattle.rx_poly_laws.proofs.TestLaws.{passes-number}
use Rattle.rx_cert.specs.Findings.{Yes}
use Rattle.rx_graph.specs.Graph.{IsOver}
use Rattle.rx_term.specs.declared.rule_set.RuleParts.{RuleParts}
use Rattle.rx_term.specs.declared.rule_set.SymInfo.{SymInfo}
use Rattle.rx_pairs.specs.Graph.{edges_of}
use Rattle.rx_pairs.specs.Inside.{descent_in}
use Rattle.rx_pairs.specs.Lowering.{Descends, column_finding, goes_on, lower_finding}
use Rattle.rx_pairs.specs.Ranks.{bad_from, bad_rank, columns_of, is_rank}
use Rattle.rx_pairs.specs.declared.pair.Pair.{Pair}
use Rattle.rx_pairs.specs.declared.pair_cert.PairCert.{PairCert}
use Rattle.rx_pairs.specs.declared.table.RankTable.{RankTable}
use Rattle.rx_find_ranks.proofs.TableLaws.{rank_count}
use Rattle.rx_anchors.specs.Members.{arity_of, symbols_of}
use Rattle.rx_anchors.specs.Values.{polynomial_of}
use Rattle.rx_find_ranks.specs.Closing.{cert_of}
use Rattle.rx_find_ranks.specs.Columns.{Column, rank_at, value_at}
use Rattle.rx_find_ranks.specs.Tables.{IsDeepPair, IsLawful, IsLowerBy, IsSplit}

-- ---- lawful ranks

-- a polynomial of the column, or -1
value_over : (infos : List SymInfo) (column : Column) (f : ℕ) → IsLawful infos column →
    (o : Option Body) → polynomial_of column f ≡ o
    → uses_below (arity_of infos f) (unwrap_or o (number (negsuc 0))) ≡ true
value_over infos column f lawful None e =
    passes-number (λ v. nat_lt v (arity_of infos f)) (negsuc 0)
value_over infos column f lawful (Some p) e = lawful f p e

ranks_over : (infos : List SymInfo) (columns : List Column) (f : ℕ) → All (IsLawful infos) columns →
    list_all (uses_below (arity_of infos f)) (rank_at columns f) ≡ true
ranks_over infos [] f all = refl
ranks_over infos (column ∷ columns) f all =
    and_from (uses_below (arity_of infos f) (value_at f column))
    (list_all (uses_below (arity_of infos f)) (rank_at columns f))
    (value_over infos column f (All-head (IsLawful infos) column columns all)
    (polynomial_of column f) refl)
    (ranks_over infos columns f (All-tail (IsLawful infos) column columns all))

module _ (whole : List SymInfo) (columns : List Column) (all : All (IsLawful whole) columns) where
  one_rank : (f : ℕ) (info : SymInfo) → slice_get whole f ≡ Some info →
      is_rank (length columns) info.arity (rank_at columns f) ≡ true
  one_rank f info there =
      and_from (length (rank_at columns f) == length columns)
      (list_all (uses_below info.arity) (rank_at columns f))
      (eq-eqb (length (rank_at columns f)) (length columns) (rank_count columns f))
      (ap (λ n. list_all (uses_below n) (rank_at columns f))
      (sym (ap (λ o. option_map_or (λ (s : SymInfo). s.arity) o 0) there)) ∙
      ranks_over whole columns f all)

  ranks_from : (f n : ℕ) (infos : List SymInfo) → n ≡ length infos →
      ((k : ℕ) (info : SymInfo) → slice_get infos k ≡ Some info → slice_get whole (f + k) ≡
      Some info)
      → bad_from (length columns) f infos (map (rank_at columns) (range_with_len f n)) ≡ None
  ranks_from f zero [] count there = refl
  ranks_from f zero (info ∷ infos) count there = absurd (omega (arith, count))
  ranks_from f (suc n) [] count there = absurd (omega (arith, count))
  ranks_from f (suc n) (info ∷ infos) count there =
      let here : slice_get whole f ≡ Some info =
      ap (slice_get whole) (let e : f ≡ f + 0 = omega arith in e) ∙ there 0 info refl in
      ap (λ b. cond b (bad_from (length columns) (f + 1) infos
      (map (rank_at columns) (range_with_len (f + 1) n))) (Some f)) (one_rank f info here)
      ∙ ranks_from (f + 1) n infos (omega (arith, count))
      (λ k other e. ap (slice_get whole) (let e : (f + 1) + k ≡ f + suc k = omega arith in e) ∙
      there (suc k) other e)

pub table_lawful : (parts : RuleParts) (columns : List Column) (n : ℕ) (table : RankTable) → n ≡
    length parts.symbols → All (IsLawful parts.symbols) columns
    → table.columns ≡ length columns → table.ranks ≡ map (rank_at columns) (symbols_of n) →
    bad_rank parts table ≡ None
table_lawful parts columns n table count all width ranks =
    (λ i. bad_from (width i) 0 parts.symbols (ranks i))
    ∙ ranks_from parts.symbols columns all 0 n parts.symbols count
    (λ k info e. ap (slice_get parts.symbols) (let e : 0 + k ≡ k = omega arith in e) ∙ e)

-- ---- lower pairs

columns_are : (columns : List Column) (n : ℕ) (table : RankTable) → table.ranks ≡
    map (rank_at columns) (symbols_of n) → (f : ℕ) → f < n → columns_of table f ≡ rank_at columns f
columns_are columns n table ranks f less =
    let size = length-range_with_len 0 n in
    let at = get_or-range_with_len 0 n f 0 less in
    ap (λ rs. unwrap_or (slice_get rs f) []) ranks
    ∙ ap (λ o. unwrap_or o []) (slice_get-map (rank_at columns) (symbols_of n) f ∙
    ap (option_map (rank_at columns)) (slice_get-get_or (symbols_of n) f 0
    (omega (arith, size, less))))
    ∙ ap (rank_at columns) (at ∙ (let e : 0 + f ≡ f = omega arith in e))

module _ (columns : List Column) (n : ℕ) (table : RankTable)
    (ranks : table.ranks ≡ map (rank_at columns) (symbols_of n)) where
  abbrev EdgeWithin : ℕ × ℕ → Type 0
  EdgeWithin e = (e.0 < n) × (e.1 < n)

  -- each pair is closed, and lower
  abbrev AreLower : List Pair → List (Option PairCert) → Type 0
  AreLower pairs closed =
      (k : ℕ) (pair : Pair) → slice_get pairs k ≡ Some pair → (cert : PairCert) ×
      (slice_get closed k ≡ Some (Some cert)) × IsLowerBy columns pair cert

  lower_by_table : (pair : Pair) (cert : PairCert) → (pair.left.0 < n) × (pair.right.0 < n) →
      IsLowerBy columns pair cert → lower_finding pair table cert ≡ Yes
  lower_by_table pair cert ends lower =
      (λ i. column_finding pair cert.column (columns_are columns n table ranks pair.left.0 ends.0 i)
      (columns_are columns n table ranks pair.right.0 ends.1 i) cert.certs) ∙ lower.finds

  descends_from : (i : ℕ) (pairs : List Pair) (closed : List (Option PairCert)) → length closed ≡
      length pairs → IsOver n (edges_of pairs) → AreLower pairs closed
      → descent_in table true i pairs (map cert_of closed) ≡ Descends
  descends_from i [] [] count over all = refl
  descends_from i [] (cert ∷ closed) count over all = absurd (omega (arith, count))
  descends_from i (pair ∷ pairs) [] count over all = absurd (omega (arith, count))
  descends_from i (pair ∷ pairs) (found ∷ closed) count over all =
      let first = all 0 pair refl in
      let here : found ≡ Some first.0 = same_Some found (Some first.0) first.1 in
      ap (λ o. goes_on i (lower_finding pair table (cert_of o))
      (descent_in table true (i + 1) pairs (map cert_of closed))) here
      ∙ ap (λ s. goes_on i s (descent_in table true (i + 1) pairs (map cert_of closed)))
      (lower_by_table pair first.0 (All-head EdgeWithin (pair.left.0, pair.right.0) (edges_of pairs)
      over) first.2)
      ∙ descends_from (i + 1) pairs closed (omega (arith, count))
      (All-tail EdgeWithin (pair.left.0, pair.right.0) (edges_of pairs) over)
      (λ k other e. all (suc k) other e)

  deep_from : (pairs : List Pair) (closed : List (Option PairCert)) → length closed ≡ length pairs →
      AreLower pairs closed → All IsDeepPair (map cert_of closed)
  deep_from [] [] count all = All-nil IsDeepPair
  deep_from [] (cert ∷ closed) count all = absurd (omega (arith, count))
  deep_from (pair ∷ pairs) [] count all = absurd (omega (arith, count))
  deep_from (pair ∷ pairs) (found ∷ closed) count all =
      let first = all 0 pair refl in
      let here : found ≡ Some first.0 = same_Some found (Some first.0) first.1 in
      All-cons IsDeepPair (cert_of found) (map cert_of closed)
      (subst (λ o. IsDeepPair (cert_of o)) (sym here) first.2.deep)
      (deep_from pairs closed (omega (arith, count)) (λ k other e. all (suc k) other e))

  -- a pair is closed or open, and none is open
  lower_at : (pairs : List Pair) (closed : List (Option PairCert))
      (split : IsSplit pairs columns [] closed) (k : ℕ) (pair : Pair) → slice_get pairs k ≡
      Some pair
      → (o : Option (Option PairCert)) → slice_get closed k ≡ o → (cert : PairCert) ×
      (slice_get closed k ≡ Some (Some cert)) × IsLowerBy columns pair cert
  lower_at pairs closed split k pair there None e = absurd (past_end e) where
    past_end : slice_get closed k ≡ None → ⊥
    past_end past =
        let inner = slice_get_within pairs k pair there in
        let count = split.count in
        none-some (get_or closed k None) (sym past ∙
        slice_get-get_or closed k None (omega (arith, inner, count)))
  lower_at pairs closed split k pair there (Some None) e = absurd (false≢true (split.rest k e))
  lower_at pairs closed split k pair there (Some (Some cert)) e =
      (cert, e, split.lower k pair cert there e)

  pub table_descends : (pairs : List Pair) (closed : List (Option PairCert)) →
      IsSplit pairs columns [] closed → IsOver n (edges_of pairs)
      → descent_in table true 0 pairs (map cert_of closed) ≡ Descends
  table_descends pairs closed split over =
      descends_from 0 pairs closed split.count over
      (λ k pair there. lower_at pairs closed split k pair there (slice_get closed k) refl)

  pub table_deep : (pairs : List Pair) (closed : List (Option PairCert)) →
      IsSplit pairs columns [] closed → All IsDeepPair (map cert_of closed)
  table_deep pairs closed split =
      deep_from pairs closed split.count (λ k pair there.
      lower_at pairs closed split k pair there (slice_get closed k) refl)

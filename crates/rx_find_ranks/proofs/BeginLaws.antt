-- At first all pairs are open: there is no column, and no rows are asked for.
use Rattle.std.proofs.Common.{◌≡◌, ◌∙◌, ap, sym, subst, refl, arith, ℕ, zero, suc, ◌+◌, ◌==◌, ◌<◌, ◌≤◌, true, Option, Some, None, List, [], ◌∷◌, ◌++◌, length, map, slice_get, All}
use Rattle.std.specs.Option.{option_map}
use Rattle.std.proofs.lemmas.Bool.{eq-eqb, or_left, or_right}
use Rattle.std.proofs.lemmas.List.{length-map, map-append}
use Rattle.std.proofs.lemmas.List.Elements.{All-cons, All-nil}
use Rattle.std.proofs.lemmas.Option.{none-some, same_Some, slice_get-map, slice_get_within}
use Rattle.rx_row.specs.declared.row.Row.{Row}
use Rattle.rx_cert.specs.Depth.{cert_depth}
use Rattle.rx_cert.specs.Variables.{cert_passes}
use Rattle.rx_cert.specs.declared.cert.Cert.{Cert}
use Rattle.rx_cert.proofs.ShowingLaws.{begin, finished}
use Rattle.rx_solve.specs.Answers.{AreCertificates}
use Rattle.rx_solve.specs.Bounds.{most_deep}
use Rattle.rx_pairs.specs.declared.pair.Pair.{Pair}
use Rattle.rx_pairs.specs.declared.pair_cert.PairCert.{PairCert}
use Rattle.rx_find_ranks.specs.Rounds.{IsBegun}
use Rattle.rx_find_ranks.specs.Tables.{IsOpenBy, IsSplit, has_number, pairs_open}
use Rattle.rx_find_ranks.specs.Columns.{columns_in}
use Rattle.rx_find_ranks.specs.declared.open_pair.OpenPair.{OpenPair}
use Rattle.rx_find_ranks.specs.declared.progress.Progress.{Progress}

-- the pairs, numbered from that number on
abbrev pub opens_from : ℕ → List Pair → List OpenPair
opens_from k [] = []
opens_from k (p ∷ ps) = record { number = k; pair = p; certs = [] } ∷ opens_from (suc k) ps

-- none is closed
abbrev pub none_closed : List Pair → List (Option PairCert)
none_closed pairs = map (λ p. None) pairs

pub opens_more : (k n : ℕ) (ps : List Pair) (p : Pair) → n ≡ k + length ps
    → opens_from k (ps ++ p ∷ []) ≡ opens_from k ps ++ record { number = n; pair = p; certs = [] } ∷
    []
opens_more k n [] p e =
    let same : k ≡ n = omega (arith, e) in ap
    (λ i. record { number = i; pair = p; certs = [] } ∷ []) same
opens_more k n (q ∷ ps) p e =
    ap (λ os. record { number = k; pair = q; certs = [] } ∷ os)
    (opens_more (suc k) n ps p (omega (arith, e)))

pub opens_count : (k : ℕ) (ps : List Pair) → length (opens_from k ps) ≡ length ps
opens_count k [] = refl
opens_count k (p ∷ ps) = ap suc (opens_count (suc k) ps)

pub none_more : (ps : List Pair) (p : Pair) → none_closed (ps ++ p ∷ []) ≡ none_closed ps ++ None ∷
    []
none_more ps p = map-append (λ (q : Pair). None) ps (p ∷ [])

-- ---- the split at first

opens_pairs : (k : ℕ) (ps : List Pair) → pairs_open (opens_from k ps) ≡ ps
opens_pairs k [] = refl
opens_pairs k (p ∷ ps) = ap (λ qs. p ∷ qs) (opens_pairs (suc k) ps)

no_rows : (given : List Row) → AreCertificates most_deep given [] []
no_rows given = record {
  shows = finished given [] 0 [] (begin given []);
  deep = All-nil (λ (cert : Cert). cert_depth cert ≤ most_deep);
  own_variables = λ test h g. All-nil (λ (cert : Cert). cert_passes test cert ≡ true);
}

module _ (pairs : List Pair) where
  all_open : (k : ℕ) (ps : List Pair) → ((i : ℕ) (p : Pair) → slice_get ps i ≡ Some p →
      slice_get pairs (k + i) ≡ Some p) → All (IsOpenBy pairs []) (opens_from k ps)
  all_open k [] there = All-nil (IsOpenBy pairs [])
  all_open k (p ∷ ps) there =
      All-cons (IsOpenBy pairs []) (record { number = k; pair = p; certs = [] })
      (opens_from (suc k) ps)
      (record {
        there = ap (slice_get pairs) (let e : k ≡ k + 0 = omega arith in e) ∙ there 0 p refl;
        held = record { within = refl; certified = no_rows p.phi };
      })
      (all_open (suc k) ps (λ i q e. ap (slice_get pairs)
      (let s : suc k + i ≡ k + suc i = omega arith in s) ∙ there (suc i) q e))

  numbered_from : (k i : ℕ) (ps : List Pair) → i < length ps →
      has_number (k + i) (opens_from k ps) ≡ true
  numbered_from k i [] less = absurd (omega (arith, less))
  numbered_from k zero (p ∷ ps) less =
      or_left (k == (k + 0)) (has_number (k + 0) (opens_from (suc k) ps))
      (eq-eqb k (k + 0) (omega arith))
  numbered_from k (suc i) (p ∷ ps) less =
      or_right (k == (k + suc i)) (has_number (k + suc i) (opens_from (suc k) ps))
      (subst (λ n. has_number n (opens_from (suc k) ps) ≡ true)
      (let s : suc k + i ≡ k + suc i = omega arith in s)
      (numbered_from (suc k) i ps (omega (arith, less))))

  not_closed : (k : ℕ) (pair : Pair) (cert : PairCert) → slice_get pairs k ≡ Some pair →
      slice_get (none_closed pairs) k ≡ Some (Some cert) → ⊥
  not_closed k pair cert there e =
      none-some cert
      (same_Some None (Some cert) (sym (slice_get-map (λ (p : Pair). None) pairs k ∙
      ap (option_map (λ (p : Pair). None)) there) ∙ e))

  begun_split : IsSplit pairs [] (opens_from 0 pairs) (none_closed pairs)
  begun_split = record {
    count = length-map {B = Option PairCert} pairs (λ (p : Pair). None);
    opened =
        all_open 0 pairs (λ i p e. ap (slice_get pairs) (let s : 0 + i ≡ i = omega arith in s) ∙ e);
    lower = λ k pair cert there e. absurd (not_closed k pair cert there e);
    rest = λ k e.
        let inner = slice_get_within (none_closed pairs) k None e in
        let size = length-map {B = Option PairCert} pairs (λ (p : Pair). None) in
        subst (λ n. has_number n (opens_from 0 pairs) ≡ true) (let s : 0 + k ≡ k = omega arith in s)
        (numbered_from 0 k pairs (omega (arith, inner, size)));
  }

  pub all_begun : (progress : Progress) → progress.columns.items ≡ [] → progress.entries.items ≡
      opens_from 0 pairs → progress.closed.items ≡ none_closed pairs
      → IsBegun pairs progress
  all_begun progress columns entries closed = record {
    columns = columns;
    all = ap pairs_open entries ∙ opens_pairs 0 pairs;
    split =
        subst (λ cs. IsSplit pairs (columns_in progress.columns.items) progress.entries.items cs)
        (sym closed)
        (subst (λ es. IsSplit pairs (columns_in progress.columns.items) es (none_closed pairs))
        (sym entries)
        (subst (λ vs. IsSplit pairs vs (opens_from 0 pairs) (none_closed pairs))
        (sym (ap columns_in columns)) begun_split));
  }

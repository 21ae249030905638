-- Lawful columns, and the pairs that are open or closed by columns.
use Rattle.std.specs.Prelude.{◌≡◌, ◌≤◌, ◌==◌, ℕ, Bool, true, Option, Some, None, List, [], ◌∷◌, All, length, map, slice_get}
use Rattle.std.specs.List.{list_any}
use Rattle.rx_plain.specs.Formed.{Formed, pure, ◌>>=◌}
use Rattle.rx_poly.specs.Variables.{uses_below}
use Rattle.rx_poly.specs.declared.body.Body.{Body}
use Rattle.rx_row.specs.declared.row.Row.{Row}
use Rattle.rx_cert.specs.Depth.{cert_depth}
use Rattle.rx_cert.specs.Findings.{Yes}
use Rattle.rx_cert.specs.declared.cert.Cert.{Cert}
use Rattle.rx_solve.specs.Bounds.{most_deep}
use Rattle.rx_term.specs.declared.rule_set.SymInfo.{SymInfo}
use Rattle.rx_pairs.specs.Columns.{holds_rows}
use Rattle.rx_pairs.specs.Lowering.{column_finding, prefixed}
use Rattle.rx_pairs.specs.declared.pair.Pair.{Pair}
use Rattle.rx_pairs.specs.declared.pair_cert.PairCert.{PairCert}
use Rattle.rx_rank.specs.Answers.{IsProved}
use Rattle.rx_anchors.specs.Members.{arity_of}
use Rattle.rx_anchors.specs.Values.{polynomial_of}
use Rattle.rx_find_ranks.specs.Columns.{Column, rank_at}
use Rattle.rx_find_ranks.specs.declared.open_pair.OpenPair.{OpenPair}

-- each polynomial is over the arguments of its symbol
abbrev pub IsLawful : List SymInfo → Column → Type 0
IsLawful infos column =
    (f : ℕ) (p : Body) → polynomial_of column f ≡ Some p → uses_below (arity_of infos f) p ≡ true

-- ---- pairs

-- the rows that columns ask for where they are to hold, one after the other
abbrev pub held_rows : Pair → List Body → List Body → Formed (List Row)
held_rows pair [] qs = pure []
held_rows pair (p ∷ ps) [] = pure []
held_rows pair (p ∷ ps) (q ∷ qs) = do
  rows ← holds_rows pair p q
  prefixed rows (held_rows pair ps qs)

abbrev pub pairs_open : List OpenPair → List Pair
pairs_open opens = map (λ (o : OpenPair). o.pair) opens

-- a pair with that number is among them
abbrev pub has_number : ℕ → List OpenPair → Bool
has_number k opens = list_any (λ (o : OpenPair). o.number == k) opens

-- it is the pair with its number, and all columns hold there by its certificates
pub record IsOpenBy (pairs : List Pair) (columns : List Column) (o : OpenPair) : Type 0 where
  pub there : slice_get pairs o.number ≡ Some o.pair
  pub held : IsProved o.pair (held_rows o.pair (rank_at columns o.pair.left.0)
      (rank_at columns o.pair.right.0)) o.certs

-- each certificate is at most 174 deep
abbrev pub AreDeep : List Cert → Type 0
AreDeep certs = All (λ (cert : Cert). cert_depth cert ≤ most_deep) certs

abbrev pub IsDeepPair : PairCert → Type 0
IsDeepPair cert = AreDeep cert.certs

-- it is lower by one of the columns
pub record IsLowerBy (columns : List Column) (pair : Pair) (cert : PairCert) : Type 0 where
  pub finds : column_finding pair cert.column (rank_at columns pair.left.0)
      (rank_at columns pair.right.0) cert.certs ≡ Yes
  pub deep : IsDeepPair cert

-- each pair is open, or closed by its certificates
pub record IsSplit (pairs : List Pair) (columns : List Column) (opens : List OpenPair)
    (closed : List (Option PairCert)) : Type 0 where
  pub count : length closed ≡ length pairs
  pub opened : All (IsOpenBy pairs columns) opens
  pub lower : (k : ℕ) (pair : Pair) (cert : PairCert) → slice_get pairs k ≡ Some pair →
      slice_get closed k ≡ Some (Some cert) → IsLowerBy columns pair cert
  pub rest : (k : ℕ) → slice_get closed k ≡ Some None → has_number k opens ≡ true

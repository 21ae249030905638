-- A column of polynomials: the pairs at which it doesn't fall stay open and it holds there, and the
-- others are closed.
use Rattle.std.proofs.Common.{◌≡◌, ◌∙◌, ap, sym, subst, refl, inl, inr, ℕ, suc, ◌==◌, ◌<◌, true, false, Option, Some, None, List, [], ◌∷◌, ◌++◌, length, All}
use Rattle.std.specs.List.{AllZip}
use Rattle.std.specs.Prelude.{Contains, negsuc, unwrap_or}
use Rattle.std.proofs.lemmas.Bool.{false≢true, or_cases, or_left, or_parts, or_right}
use Rattle.std.proofs.lemmas.List.Elements.{All-cons, All-contains, All-contains_itself, All-head, All-nil, All-tail, All-weaker}
use Rattle.rx_graph.specs.Graph.{IsOver}
use Rattle.rx_poly.specs.Constants.{number}
use Rattle.rx_poly.specs.declared.body.Body.{Body}
use Rattle.rx_cert.specs.declared.cert.Cert.{Cert}
use Rattle.rx_term.specs.declared.rule_set.SymInfo.{SymInfo}
use Rattle.rx_pairs.specs.Columns.{falls_rows, holds_rows}
use Rattle.rx_pairs.specs.Graph.{edges_of}
use Rattle.rx_pairs.specs.declared.pair.Pair.{Pair}
use Rattle.rx_pairs.specs.declared.pair_cert.PairCert.{PairCert}
use Rattle.rx_rank.specs.Answers.{IsDecided, IsFallen, IsHeld, IsProved, still_open}
use Rattle.rx_anchors.specs.Values.{polynomial_of}
use Rattle.rx_find_ranks.proofs.GrowthLaws.{count_pushed, lawful_pushed, split_pushed}
use Rattle.rx_find_ranks.proofs.SplitLaws.{IsClosing, split_more}
use Rattle.rx_find_ranks.proofs.TableLaws.{fallen_column, held_column}
use Rattle.rx_find_ranks.specs.Closing.{close_all, fallen, fitted, left_open, with_certs}
use Rattle.rx_find_ranks.specs.Fits.{AreFits}
use Rattle.rx_find_ranks.specs.Rounds.{IsGrown}
use Rattle.rx_find_ranks.specs.Columns.{Column, columns_in, value_at}
use Rattle.rx_find_ranks.specs.Tables.{IsOpenBy, IsSplit, has_number, pairs_open}
use Rattle.rx_find_ranks.specs.declared.fits.Fits.{Fits}
use Rattle.rx_find_ranks.specs.declared.column.FoundColumn.TheVariants.{Polynomials}
use Rattle.rx_find_ranks.specs.declared.open_pair.OpenPair.{OpenPair}
use Rattle.rx_find_ranks.specs.declared.progress.Progress.{Progress}

-- ---- the pairs that stay, and those that fall

-- those that stay are those without certificates of a fall
pub pairs_left : (values : Column) (os : List OpenPair) (holds : List (List Cert))
    (falls : List (Option (List Cert)))
    → AllZip (IsHeld values) (pairs_open os) holds → AllZip (IsDecided values) (pairs_open os) falls
    → pairs_open (left_open (fitted os holds falls)) ≡ still_open (pairs_open os) falls
pairs_left values [] holds falls held fall = refl
pairs_left values (o ∷ os) [] falls held fall = absurd held
pairs_left values (o ∷ os) (h ∷ holds) [] held fall = absurd fall
pairs_left values (o ∷ os) (h ∷ holds) (None ∷ falls) held fall =
    ap (λ ps. o.pair ∷ ps) (pairs_left values os holds falls held.1 fall.1)
pairs_left values (o ∷ os) (h ∷ holds) (Some more ∷ falls) held fall =
    pairs_left values os holds falls held.1 fall.1

module _ (values : Column) (columns : List Column) (pairs : List Pair) where
  abbrev whole : List Column
  whole = columns ++ values ∷ []

  abbrev Closed : OpenPair → Type 0
  Closed = IsClosing pairs whole (suc (length columns))

  value_is : (f : ℕ) (p : Body) → polynomial_of values f ≡ Some p → p ≡ value_at f values
  value_is f p e = sym (ap (λ o. unwrap_or o (number (negsuc 0))) e)

  holds_more : (o : OpenPair) (certs : List Cert) → IsOpenBy pairs columns o →
      IsHeld values o.pair certs → IsOpenBy pairs whole (with_certs o certs)
  holds_more o certs is held = record {
    there = is.there;
    held = held_column columns values o.pair o.certs certs is.held
        (subst (λ (q : Body). IsProved o.pair (holds_rows o.pair (value_at o.pair.left.0 values) q)
        certs) (value_is o.pair.right.0 held.right held.right_is)
        (subst (λ (p : Body). IsProved o.pair (holds_rows o.pair p held.right) certs)
        (value_is o.pair.left.0 held.left held.left_is) held.proved));
  }

  falls_last : (o : OpenPair) (certs : List Cert) → IsOpenBy pairs columns o →
      IsFallen values o.pair certs → Closed (with_certs o certs)
  falls_last o certs is fall = (
    is.there,
    fallen_column columns values o.pair o.certs certs is.held
        (subst (λ (q : Body). IsProved o.pair (falls_rows o.pair (value_at o.pair.left.0 values) q)
        certs) (value_is o.pair.right.0 fall.right fall.right_is)
        (subst (λ (p : Body). IsProved o.pair (falls_rows o.pair p fall.right) certs)
        (value_is o.pair.left.0 fall.left fall.left_is) fall.proved)),
  )

  stay_all : (os : List OpenPair) (holds : List (List Cert)) (falls : List (Option (List Cert))) →
      All (IsOpenBy pairs columns) os → AllZip (IsHeld values) (pairs_open os) holds
      → AllZip (IsDecided values) (pairs_open os) falls →
      All (IsOpenBy pairs whole) (left_open (fitted os holds falls))
  stay_all [] holds falls are held fall = All-nil (IsOpenBy pairs whole)
  stay_all (o ∷ os) [] falls are held fall = absurd held
  stay_all (o ∷ os) (h ∷ holds) [] are held fall = absurd fall
  stay_all (o ∷ os) (h ∷ holds) (None ∷ falls) are held fall =
      All-cons (IsOpenBy pairs whole) (with_certs o h) (left_open (fitted os holds falls))
      (holds_more o h (All-head (IsOpenBy pairs columns) o os are) held.0)
      (stay_all os holds falls (All-tail (IsOpenBy pairs columns) o os are) held.1 fall.1)
  stay_all (o ∷ os) (h ∷ holds) (Some more ∷ falls) are held fall =
      stay_all os holds falls (All-tail (IsOpenBy pairs columns) o os are) held.1 fall.1

  fall_all : (os : List OpenPair) (holds : List (List Cert)) (falls : List (Option (List Cert))) →
      All (IsOpenBy pairs columns) os → AllZip (IsHeld values) (pairs_open os) holds
      → AllZip (IsDecided values) (pairs_open os) falls →
      All Closed (fallen (fitted os holds falls))
  fall_all [] holds falls are held fall = All-nil Closed
  fall_all (o ∷ os) [] falls are held fall = absurd held
  fall_all (o ∷ os) (h ∷ holds) [] are held fall = absurd fall
  fall_all (o ∷ os) (h ∷ holds) (None ∷ falls) are held fall =
      fall_all os holds falls (All-tail (IsOpenBy pairs columns) o os are) held.1 fall.1
  fall_all (o ∷ os) (h ∷ holds) (Some more ∷ falls) are held fall =
      All-cons Closed (with_certs o more) (fallen (fitted os holds falls))
      (falls_last o more (All-head (IsOpenBy pairs columns) o os are) fall.0.1)
      (fall_all os holds falls (All-tail (IsOpenBy pairs columns) o os are) held.1 fall.1)

  -- each pair stays or falls
  stay_or_fall : (os : List OpenPair) (holds : List (List Cert)) (falls : List (Option (List Cert)))
      → AllZip (IsHeld values) (pairs_open os) holds
      → AllZip (IsDecided values) (pairs_open os) falls → (k : ℕ) → has_number k os ≡ true →
      has_number k (fallen (fitted os holds falls)) ≡ false
      → has_number k (left_open (fitted os holds falls)) ≡ true
  stay_or_fall [] holds falls held fall k h g = absurd (false≢true h)
  stay_or_fall (o ∷ os) [] falls held fall k h g = absurd held
  stay_or_fall (o ∷ os) (c ∷ holds) [] held fall k h g = absurd fall
  stay_or_fall (o ∷ os) (c ∷ holds) (None ∷ falls) held fall k h g =
      elim (or_cases (o.number == k) (has_number k os) h) [
        | inl here ↦ or_left (o.number == k) (has_number k (left_open (fitted os holds falls))) here
        | inr there ↦ or_right (o.number == k) (has_number k (left_open (fitted os holds falls)))
            (stay_or_fall os holds falls held.1 fall.1 k there g)
      ]
  stay_or_fall (o ∷ os) (c ∷ holds) (Some more ∷ falls) held fall k h g =
      let none = or_parts (o.number == k) (has_number k (fallen (fitted os holds falls))) g in
      elim (or_cases (o.number == k) (has_number k os) h) [
        | inl here ↦ absurd (false≢true (sym none.0 ∙ here))
        | inr there ↦ stay_or_fall os holds falls held.1 fall.1 k there none.1
      ]

-- after a column of polynomials the pairs at which it doesn't fall are open, and the others are
-- closed
pub fits_split : (infos : List SymInfo) (pairs : List Pair) (columns : List Column)
    (opens : List OpenPair) (closed : List (Option PairCert)) (fits : Fits)
    → AreFits infos opens fits → IsSplit pairs columns opens closed
    → IsSplit pairs (columns ++ fits.column.items ∷ [])
    (left_open (fitted fits.entries.items fits.holds.items fits.falls.items))
    (close_all (suc (length columns)) closed (fallen
    (fitted fits.entries.items fits.holds.items fits.falls.items)))
fits_split infos pairs columns opens closed fits are split =
    let os = fits.entries.items in
    let all = All-weaker (Contains os) (IsOpenBy pairs columns)
    (λ o c. All-contains (IsOpenBy pairs columns) opens o split.opened (are.among o c)) os
    (All-contains_itself os) in
    split_more pairs columns fits.column.items opens
    (left_open (fitted os fits.holds.items fits.falls.items))
    (fallen (fitted os fits.holds.items fits.falls.items)) closed split
    (stay_all fits.column.items columns pairs os fits.holds.items fits.falls.items all are.holds
    are.falls)
    (fall_all fits.column.items columns pairs os fits.holds.items fits.falls.items all are.holds
    are.falls)
    (λ k h g. stay_or_fall fits.column.items columns pairs os fits.holds.items fits.falls.items
    are.holds are.falls k (are.numbers k h) g)

-- ---- the symbols of the pairs that stay

module _ (n : ℕ) where
  abbrev EdgeWithin : ℕ × ℕ → Type 0
  EdgeWithin e = (e.0 < n) × (e.1 < n)

  abbrev OpenWithin : OpenPair → Type 0
  OpenWithin o = EdgeWithin (o.pair.left.0, o.pair.right.0)

  each_within : (os : List OpenPair) → IsOver n (edges_of (pairs_open os)) → All OpenWithin os
  each_within [] over = All-nil OpenWithin
  each_within (o ∷ os) over =
      All-cons OpenWithin o os (All-head EdgeWithin (o.pair.left.0, o.pair.right.0)
      (edges_of (pairs_open os)) over)
      (each_within os (All-tail EdgeWithin (o.pair.left.0, o.pair.right.0)
      (edges_of (pairs_open os)) over))

  left_within : (os : List OpenPair) (holds : List (List Cert)) (falls : List (Option (List Cert)))
      → All OpenWithin os
      → IsOver n (edges_of (pairs_open (left_open (fitted os holds falls))))
  left_within [] holds falls all = All-nil EdgeWithin
  left_within (o ∷ os) [] falls all = All-nil EdgeWithin
  left_within (o ∷ os) (h ∷ holds) [] all = All-nil EdgeWithin
  left_within (o ∷ os) (h ∷ holds) (None ∷ falls) all =
      All-cons EdgeWithin (o.pair.left.0, o.pair.right.0)
      (edges_of (pairs_open (left_open (fitted os holds falls)))) (All-head OpenWithin o os all)
      (left_within os holds falls (All-tail OpenWithin o os all))
  left_within (o ∷ os) (h ∷ holds) (Some more ∷ falls) all =
      left_within os holds falls (All-tail OpenWithin o os all)

  pub fits_over : (infos : List SymInfo) (opens : List OpenPair) (fits : Fits) →
      AreFits infos opens fits → IsOver n (edges_of (pairs_open opens))
      → IsOver n (edges_of (pairs_open (left_open
      (fitted fits.entries.items fits.holds.items fits.falls.items))))
  fits_over infos opens fits are over =
      let os = fits.entries.items in
      left_within os fits.holds.items fits.falls.items
      (All-weaker (Contains os) OpenWithin (λ o c.
      All-contains OpenWithin opens o (each_within opens over) (are.among o c)) os
      (All-contains_itself os))

-- ---- one column more

module _ (infos : List SymInfo) (before after : Progress) (fits : Fits)
    (are : AreFits infos before.entries.items fits)
    (pushed : after.columns.items ≡ before.columns.items ++ Polynomials fits.column ∷ [])
    (staying : after.entries.items ≡ left_open
    (fitted fits.entries.items fits.holds.items fits.falls.items))
    (leaving : after.closed.items ≡ close_all (length after.columns.items) before.closed.items
    (fallen (fitted fits.entries.items fits.holds.items fits.falls.items))) where
  pub fits_grown : IsGrown infos before after
  fits_grown = record {
    count = count_pushed before after (Polynomials fits.column) pushed;
    split = λ pairs split.
        split_pushed before after (Polynomials fits.column) pushed pairs
        (left_open (fitted fits.entries.items fits.holds.items fits.falls.items))
        (fallen (fitted fits.entries.items fits.holds.items fits.falls.items)) staying leaving
        (fits_split infos pairs (columns_in before.columns.items) before.entries.items
        before.closed.items fits are split);
    lawful = lawful_pushed before after (Polynomials fits.column) pushed infos are.lawful;
    over = λ within.
        subst (λ (es : List OpenPair). IsOver (length infos) (edges_of (pairs_open es)))
        (sym staying) (fits_over (length infos) infos before.entries.items fits are within);
  }

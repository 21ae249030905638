-- A column of heights: pairs inside a component hold, and pairs between components fall.
use Rattle.std.proofs.Common.{◌≡◌, ◌∙◌, ap, sym, subst, refl, cond, arith, inl, inr, ℕ, suc, ◌==◌, ◌<◌, ◌≤◌, ◌^◌, Bool, true, false, ◌||◌, not, Option, Some, List, [], ◌∷◌, ◌++◌, append-nil, get_or, length, All, pos}
use Rattle.std.specs.List.{filter}
use Rattle.std.specs.Option.{option_map, option_map_or}
use Rattle.std.specs.Prelude.{option_and_then, unwrap_or, negsuc}
use Rattle.std.proofs.lemmas.Bool.{and_from, eq-eqb, eqb-true, false_from_ne_true, false≢true, or_cases, or_left, or_parts, or_right}
use Rattle.std.proofs.lemmas.List.Elements.{All-cons, All-head, All-nil, All-tail}
use Rattle.std.proofs.lemmas.Option.{slice_get-get_or, slice_get-map}
use Rattle.rx_graph.proofs.ComponentLaws.{same_together}
use Rattle.rx_graph.proofs.GraphLaws.{lead_below}
use Rattle.rx_graph.specs.Components.{AreComponents}
use Rattle.rx_graph.specs.Graph.{IsOver, below, is_edge, leads, together}
use Rattle.rx_graph.specs.Heights.{AreHeights}
use Rattle.rx_poly.specs.Constants.{number}
use Rattle.rx_poly.specs.declared.body.Body.{Body}
use Rattle.rx_pairs.specs.Columns.{falls_rows, holds_rows}
use Rattle.rx_pairs.specs.Graph.{edges_of}
use Rattle.rx_pairs.specs.declared.pair.Pair.{Pair}
use Rattle.rx_pairs.specs.declared.pair_cert.PairCert.{PairCert}
use Rattle.rx_find_ranks.proofs.NumberLaws.{equal_hold, less_fall}
use Rattle.rx_find_ranks.proofs.SplitLaws.{IsClosing, split_more}
use Rattle.rx_find_ranks.proofs.TableLaws.{fallen_column, held_column}
use Rattle.rx_rank.specs.Answers.{IsProved}
use Rattle.rx_find_ranks.specs.Closing.{close_all}
use Rattle.rx_find_ranks.specs.Between.{is_leaving, is_staying}
use Rattle.rx_anchors.specs.Members.{is_member}
use Rattle.rx_rank.specs.Components.{is_inside}
use Rattle.rx_find_ranks.specs.Columns.{Column, height_column, rank_at, value_at}
use Rattle.rx_find_ranks.specs.Tables.{IsLowerBy, IsOpenBy, IsSplit, has_number, held_rows, pairs_open}
use Rattle.rx_find_ranks.specs.declared.open_pair.OpenPair.{OpenPair}

-- the polynomial of a symbol is its height
height_value : (heights : List ℕ) (f : ℕ) → f < length heights →
    value_at f (height_column heights) ≡ number (pos (get_or heights f 0))
height_value heights f less =
    ap (λ o. unwrap_or (option_and_then (λ value. value) o) (number (negsuc 0)))
    (slice_get-map (λ (h : ℕ). Some (number (pos h))) heights f ∙
    ap (option_map (λ (h : ℕ). Some (number (pos h)))) (slice_get-get_or heights f 0 less))

-- the pairs are edges
abbrev IsLed : List (ℕ × ℕ) → OpenPair → Type 0
IsLed edges o = leads edges o.pair.left.0 o.pair.right.0 ≡ true

all_led : (edges : List (ℕ × ℕ)) (opens : List OpenPair) →
    ((a b : ℕ) → leads (edges_of (pairs_open opens)) a b ≡ true → leads edges a b ≡ true) →
    All (IsLed edges) opens
all_led edges [] h = All-nil (IsLed edges)
all_led edges (o ∷ os) h =
    let a = o.pair.left.0 in
    let b = o.pair.right.0 in
    All-cons (IsLed edges) o os
    (h a b (or_left (is_edge a b (a, b)) (leads (edges_of (pairs_open os)) a b)
    (and_from (a == a) (b == b) (eq-eqb a a refl) (eq-eqb b b refl))))
    (all_led edges os (λ x y e. h x y (or_right (is_edge x y (a, b))
    (leads (edges_of (pairs_open os)) x y) e)))

-- both names are known
inside_is : (names : List ℕ) (pair : Pair) → pair.left.0 < length names → pair.right.0 <
    length names
    → is_inside names pair ≡ (get_or names pair.right.0 0 == get_or names pair.left.0 0)
inside_is names pair left right =
    ap (λ o. option_map_or (λ name. is_member names name pair.right.0) o false)
    (slice_get-get_or names pair.left.0 0 left)
    ∙ ap (λ o. option_map_or (λ name. name == get_or names pair.left.0 0) o false)
    (slice_get-get_or names pair.right.0 0 right)

module _ (n : ℕ) (edges : List (ℕ × ℕ)) (names heights : List ℕ) (over : IsOver n edges)
    (names_count : length names ≡ n) (count : length heights ≡ n)
    (components : AreComponents n edges names) (high : AreHeights n edges heights)
    (few : n ≤ 2 ^ 32) (low : (a : ℕ) → a < n → get_or heights a 0 < n) where
  module _ (columns : List Column) (pairs : List Pair) (o : OpenPair) (led : IsLed edges o)
      (is : IsOpenBy pairs columns o) where
    abbrev a : ℕ
    a = o.pair.left.0

    abbrev b : ℕ
    b = o.pair.right.0

    ends : (a < n) × (b < n)
    ends = lead_below n edges over a b led

    same : is_inside names o.pair ≡ (get_or names b 0 == get_or names a 0)
    same =
        let h = ends in inside_is names o.pair (omega (arith, h, names_count))
        (omega (arith, h, names_count))

    left_value : value_at a (height_column heights) ≡ number (pos (get_or heights a 0))
    left_value = let h = ends in height_value heights a (omega (arith, h, count))

    right_value : value_at b (height_column heights) ≡ number (pos (get_or heights b 0))
    right_value = let h = ends in height_value heights b (omega (arith, h, count))

    small : get_or heights a 0 < 2 ^ 127
    small = let h = low a ends.0 in omega (arith, h, few)

    stays : is_staying names o ≡ true → IsOpenBy pairs (columns ++ height_column heights ∷ []) o
    stays inner =
        let joined = (same_together n edges (lead_below n edges over) names components a b ends.0
        ends.1).0
        (sym (eqb-true (get_or names b 0) (get_or names a 0) (sym same ∙ inner))) in
        let equal : get_or heights a 0 ≡ get_or heights b 0 = high.equal a b ends.0 ends.1 joined in
        record {
          there = is.there;
          held =
              subst (λ certs. IsProved o.pair
              (held_rows o.pair (rank_at (columns ++ height_column heights ∷ []) a)
              (rank_at (columns ++ height_column heights ∷ []) b)) certs) (append-nil o.certs)
              (held_column columns (height_column heights) o.pair o.certs [] is.held
              (subst (λ (q : Body). IsProved o.pair
              (holds_rows o.pair (value_at a (height_column heights)) q) []) (sym right_value)
              (subst (λ (p : Body). IsProved o.pair
              (holds_rows o.pair p (number (pos (get_or heights b 0)))) []) (sym left_value)
              (subst (λ m. IsProved o.pair (holds_rows o.pair (number (pos (get_or heights a 0)))
              (number (pos m))) []) equal
              (equal_hold o.pair (get_or heights a 0) small)))));
        }

    leaves : is_staying names o ≡ false → IsClosing pairs (columns ++ height_column heights ∷ [])
        (suc (length columns)) o
    leaves outer =
        let apart = false_from_ne_true (together edges (below n) a b)
        (λ e. false≢true (sym outer ∙ same
        ∙ eq-eqb (get_or names b 0) (get_or names a 0)
        (sym ((same_together n edges (lead_below n edges over) names components a b ends.0
        ends.1).1 e)))) in
        let less : get_or heights b 0 < get_or heights a 0 = high.falls a b led apart in (
          is.there,
          subst (λ certs. IsLowerBy (columns ++ height_column heights ∷ []) o.pair
              (record { column = suc (length columns); certs = certs })) (append-nil o.certs)
              (fallen_column columns (height_column heights) o.pair o.certs [] is.held
              (subst (λ (q : Body). IsProved o.pair
              (falls_rows o.pair (value_at a (height_column heights)) q) []) (sym right_value)
              (subst (λ (p : Body). IsProved o.pair
              (falls_rows o.pair p (number (pos (get_or heights b 0)))) []) (sym left_value)
              (less_fall o.pair (get_or heights a 0) (get_or heights b 0) small less)))),
        )

  module _ (columns : List Column) (pairs : List Pair) where
    abbrev Opened : OpenPair → Type 0
    Opened = IsOpenBy pairs columns

    abbrev Held : OpenPair → Type 0
    Held = IsOpenBy pairs (columns ++ height_column heights ∷ [])

    abbrev Closed : OpenPair → Type 0
    Closed = IsClosing pairs (columns ++ height_column heights ∷ []) (suc (length columns))

    stay_more : (o : OpenPair) (os : List OpenPair) → IsLed edges o → Opened o →
        All Held (filter (is_staying names) os) → (c : Bool) → is_staying names o ≡ c
        → All Held (cond c (o ∷ filter (is_staying names) os) (filter (is_staying names) os))
    stay_more o os led is rest true e =
        All-cons Held o (filter (is_staying names) os) (stays columns pairs o led is e) rest
    stay_more o os led is rest false e = rest

    stay_all : (os : List OpenPair) → All (IsLed edges) os → All Opened os →
        All Held (filter (is_staying names) os)
    stay_all [] led are = All-nil Held
    stay_all (o ∷ os) led are =
        stay_more o os (All-head (IsLed edges) o os led) (All-head Opened o os are)
        (stay_all os (All-tail (IsLed edges) o os led) (All-tail Opened o os are))
        (is_staying names o) refl

    leave_more : (o : OpenPair) (os : List OpenPair) → IsLed edges o → Opened o →
        All Closed (filter (is_leaving names) os) → (c : Bool) → is_staying names o ≡ c
        → All Closed (cond (not c) (o ∷ filter (is_leaving names) os)
        (filter (is_leaving names) os))
    leave_more o os led is rest true e = rest
    leave_more o os led is rest false e =
        All-cons Closed o (filter (is_leaving names) os) (leaves columns pairs o led is e) rest

    leave_all : (os : List OpenPair) → All (IsLed edges) os → All Opened os →
        All Closed (filter (is_leaving names) os)
    leave_all [] led are = All-nil Closed
    leave_all (o ∷ os) led are =
        leave_more o os (All-head (IsLed edges) o os led) (All-head Opened o os are)
        (leave_all os (All-tail (IsLed edges) o os led) (All-tail Opened o os are))
        (is_staying names o) refl

-- each pair stays or leaves
stay_or_leave : (names : List ℕ) (k : ℕ) (o : OpenPair) (os : List OpenPair) (c : Bool) →
    ((o.number == k) || has_number k os) ≡ true
    → has_number k (cond (not c) (o ∷ filter (is_leaving names) os) (filter (is_leaving names) os))
    ≡ false
    → (has_number k os ≡ true → has_number k (filter (is_leaving names) os) ≡ false →
    has_number k (filter (is_staying names) os) ≡ true)
    → has_number k (cond c (o ∷ filter (is_staying names) os) (filter (is_staying names) os)) ≡ true
stay_or_leave names k o os true h g rest = elim (or_cases (o.number == k) (has_number k os) h) [
  | inl here ↦ or_left (o.number == k) (has_number k (filter (is_staying names) os)) here
  | inr there ↦ or_right (o.number == k) (has_number k (filter (is_staying names) os))
      (rest there g)
]
stay_or_leave names k o os false h g rest =
    let none = or_parts (o.number == k) (has_number k (filter (is_leaving names) os)) g in
    elim (or_cases (o.number == k) (has_number k os) h) [
      | inl here ↦ absurd (false≢true (sym none.0 ∙ here))
      | inr there ↦ rest there none.1
    ]

pub one_or_other : (names : List ℕ) (os : List OpenPair) (k : ℕ) → has_number k os ≡ true →
    has_number k (filter (is_leaving names) os) ≡ false
    → has_number k (filter (is_staying names) os) ≡ true
one_or_other names [] k h g = absurd (false≢true h)
one_or_other names (o ∷ os) k h g =
    stay_or_leave names k o os (is_staying names o) h g (one_or_other names os k)

-- after a column of heights the pairs inside components are open, and the others are closed
pub heights_split : (n : ℕ) (pairs : List Pair) (columns : List Column) (opens : List OpenPair)
    (closed : List (Option PairCert)) (names heights : List ℕ)
    → IsSplit pairs columns opens closed → IsOver n (edges_of (pairs_open opens)) → length names ≡
    n → length heights ≡ n → AreComponents n (edges_of (pairs_open opens)) names
    → AreHeights n (edges_of (pairs_open opens)) heights → n ≤ 2 ^ 32 →
    ((a : ℕ) → a < n → get_or heights a 0 < n)
    → IsSplit pairs (columns ++ height_column heights ∷ []) (filter (is_staying names) opens)
    (close_all (suc (length columns)) closed (filter (is_leaving names) opens))
heights_split n pairs columns opens closed names heights split over names_count count components
    high few low =
    let edges = edges_of (pairs_open opens) in
    let led = all_led edges opens (λ a b e. e) in
    split_more pairs columns (height_column heights) opens (filter (is_staying names) opens)
    (filter (is_leaving names) opens) closed split
    (stay_all n edges names heights over names_count count components high few low columns pairs
    opens led split.opened)
    (leave_all n edges names heights over names_count count components high few low columns pairs
    opens led split.opened)
    (one_or_other names opens)

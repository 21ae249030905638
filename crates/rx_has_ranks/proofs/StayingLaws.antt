-- The pairs that stay open, one component after the other.
use Rattle.std.proofs.Common.{◌≡◌, ◌∙◌, ap, sym, subst, refl, arith, ℕ, zero, suc, ◌+◌, ◌-◌, ◌<◌, ◌≤◌, Bool, true, false, ◌||◌, cond, Option, Some, None, Result, Ok, Err, IfOk, Vec, List, [], ◌∷◌, ◌++◌, append_assoc, drop, get_or, length, map, slice_get}
use Rattle.std.specs.List.{filter, range_with_len}
use Rattle.std.specs.Option.{IfSome, is_some, option_map, option_map_or}
use Rattle.std.specs.declared.alloc.Global.{Global}
use Rattle.rx_plain.specs.declared.no_memory.NoMemory.{NoMemory}
use Rattle.rx_rank.specs.declared.attempt.Attempt.{Attempt}
use Rattle.std.proofs.lemmas.List.{map-append}
use denote.Ref.{Bor}
use Rattle.std.proofs.lemmas.List.Elements.{All-append, All-cons, All-head, All-nil, All-tail}
use Rattle.rx_cert.specs.declared.cert.Cert.{Cert}
use Rattle.rx_graph.specs.Graph.{IsOver}
use Rattle.rx_pairs.specs.Graph.{edges_of}
use Rattle.rx_pairs.specs.declared.pair.Pair.{Pair}
use Rattle.rx_rank.specs.Answers.{pairs_at, still_open}
use Rattle.rx_rank.specs.Components.{representatives_of, pairs_in}
use Rattle.rx_rank.specs.Ranking.{component, polynomials, tried_in, unless_empty}
use Rattle.rx_rank.specs.Tries.{after, all_made, noting}
use Rattle.rx_rank.proofs.AllMade.{component_failed, component_made, no_component}
use Rattle.rx_rank.proofs.LentPairs.{lent_count, pair_now}
use Rattle.rx_solve.specs.Attempts.{Tried}
use Rattle.rx_term.proofs.Places.{at_some, from_place}
use Rattle.rx_term.specs.declared.rule.Rule.{Rule}
use Rattle.rx_term.specs.declared.rule_set.RuleParts.{RuleParts}
use Rattle.rx_rank.specs.declared.kind.RankingKind.{RankingKind}

-- ---- some of the pairs are of the same symbols

module _ (n : ℕ) where
  abbrev Within : ℕ × ℕ → Type 0
  Within e = (e.0 < n) × (e.1 < n)

  abbrev edge_of : Pair → ℕ × ℕ
  edge_of pair = (pair.left.0, pair.right.0)

  one_kept : (pair : Pair) (kept : List Pair) (b : Bool) → Within (edge_of pair) →
      IsOver n (edges_of kept) → IsOver n (edges_of (cond b (pair ∷ kept) kept))
  one_kept pair kept true here rest = All-cons Within (edge_of pair) (edges_of kept) here rest
  one_kept pair kept false here rest = rest

  pub over_filtered : (test : Pair → Bool) (pairs : List Pair) → IsOver n (edges_of pairs) →
      IsOver n (edges_of (filter test pairs))
  over_filtered test [] over = over
  over_filtered test (pair ∷ pairs) over =
      one_kept pair (filter test pairs) (test pair)
      (All-head Within (edge_of pair) (edges_of pairs) over)
      (over_filtered test pairs (All-tail Within (edge_of pair) (edges_of pairs) over))

  pub over_open : (pairs : List Pair) (falls : List (Option (List Cert))) → IsOver n
      (edges_of pairs)
      → IsOver n (edges_of (still_open pairs falls))
  over_open [] falls over = over
  over_open (pair ∷ pairs) [] over = over
  over_open (pair ∷ pairs) (None ∷ falls) over =
      All-cons Within (edge_of pair) (edges_of (still_open pairs falls))
      (All-head Within (edge_of pair) (edges_of pairs) over)
      (over_open pairs falls (All-tail Within (edge_of pair) (edges_of pairs) over))
  over_open (pair ∷ pairs) (Some certs ∷ falls) over =
      over_open pairs falls (All-tail Within (edge_of pair) (edges_of pairs) over)

  pub over_both : (first second : List Pair) → IsOver n (edges_of first) →
      IsOver n (edges_of second) → IsOver n (edges_of (first ++ second))
  over_both first second here there =
      subst (IsOver n) (sym (map-append edge_of first second))
      (All-append Within (edges_of first) (edges_of second) here there)

-- what is left of some of the pairs is of the symbols of all
pub over_from : (r : Result (Attempt (Vec (Bor Pair) Global)) NoMemory) (mine all : List Pair) →
    ((n : ℕ) → IsOver n (edges_of all) → IsOver n (edges_of mine))
    → IfOk r (λ t. IfSome t.made (λ left. (n : ℕ) → IsOver n (edges_of mine) →
    IsOver n (edges_of (pairs_at left.items))))
    → IfOk r (λ t. IfSome t.made (λ left. (n : ℕ) → IsOver n (edges_of all) →
    IsOver n (edges_of (pairs_at left.items))))
over_from (Err e) mine all further is = tt
over_from (Ok t) mine all further is = by t.made is where
  by : (o : Option (Vec (Bor Pair) Global)) → IfSome o (λ left. (n : ℕ) →
      IsOver n (edges_of mine) → IsOver n (edges_of (pairs_at left.items)))
      → IfSome o (λ left. (n : ℕ) → IsOver n (edges_of all) →
      IsOver n (edges_of (pairs_at left.items)))
  by None is = tt
  by (Some left) is = λ n over. is n (further n over)

-- ---- the pairs that a fit leaves open

all_open : (pairs : List Pair) → still_open pairs [] ≡ pairs
all_open [] = refl
all_open (pair ∷ pairs) = refl

open_next_suc : (pair : Pair) (pairs : List Pair) (falls : List (Option (List Cert))) (i : ℕ) →
    still_open (pair ∷ pairs) (drop i falls)
    ≡ cond (option_map_or is_some (slice_get falls i) false)
    (still_open pairs (drop (suc i) falls)) (pair ∷ still_open pairs (drop (suc i) falls))
open_next_suc pair pairs [] zero = ap (λ ps. pair ∷ ps) (sym (all_open pairs))
open_next_suc pair pairs [] (suc i) = ap (λ ps. pair ∷ ps) (sym (all_open pairs))
open_next_suc pair pairs (None ∷ falls) zero = refl
open_next_suc pair pairs (Some certs ∷ falls) zero = refl
open_next_suc pair pairs (fall ∷ falls) (suc i) = open_next_suc pair pairs falls i

-- one pair more
pub open_next : (pair : Pair) (pairs : List Pair) (falls : List (Option (List Cert))) (i : ℕ) →
    still_open (pair ∷ pairs) (drop i falls)
    ≡ cond (option_map_or is_some (slice_get falls i) false)
    (still_open pairs (drop (i + 1) falls)) (pair ∷ still_open pairs (drop (i + 1) falls))
open_next pair pairs falls i =
    let next : suc i ≡ i + 1 = omega arith in
    open_next_suc pair pairs falls i
    ∙ ap (λ k. cond (option_map_or is_some (slice_get falls i) false)
    (still_open pairs (drop k falls)) (pair ∷ still_open pairs (drop k falls))) next

-- the walk over the pairs of a fit
module _ (refs : List (Bor Pair)) (falls : List (Option (List Cert))) (i : ℕ) (r : Bor Pair)
    (there : i < length refs) (is : r ≡ get_or refs i r) (done whole : List Pair)
    (before : done ++ still_open (pairs_at (drop i refs)) (drop i falls) ≡ whole) where
  abbrev rest : List Pair
  rest = still_open (pairs_at (drop (i + 1) refs)) (drop (i + 1) falls)

  at_pair : (b : Bool) → option_map_or is_some (slice_get falls i) false ≡ b →
      done ++ cond b rest (r.now ∷ rest) ≡ whole
  at_pair b falls_is =
      sym (ap (λ ps. done ++ ps)
      (open_next r.now (pairs_at (drop (i + 1) refs)) falls i ∙
      ap (λ e. cond e rest (r.now ∷ rest)) falls_is))
      ∙ ap (λ rs. done ++ still_open (pairs_at rs) (drop i falls))
      (sym (from_place refs i r (at_some refs i r r there is)))
      ∙ before

  -- one that doesn't fall
  pub open_stays : option_map_or is_some (slice_get falls i) false ≡ false →
      (left grown : List (Bor Pair)) → done ≡ pairs_at left → grown ≡ left ++ r ∷ []
      → pairs_at grown ++ rest ≡ whole
  open_stays stays left grown done_is longer =
      ap (λ rs. pairs_at rs ++ rest) longer
      ∙ ap (λ ps. ps ++ rest) (map-append pair_now left (r ∷ []))
      ∙ ap (λ ps. (ps ++ r.now ∷ []) ++ rest) (sym done_is)
      ∙ append_assoc done (r.now ∷ []) rest
      ∙ at_pair false stays

  -- one that falls
  pub open_falls : option_map_or is_some (slice_get falls i) false ≡ true → done ++ rest ≡ whole
  open_falls = at_pair true

-- ---- a component

module _ (kind : RankingKind) (parts : RuleParts) (hypotheses : List Rule) (names : List ℕ) (c : ℕ)
  where
    some_component : (mine : List Pair) → (length mine ≡ 0 → ⊥) → component kind parts hypotheses
        names c
        mine ≡ unless_empty kind parts hypotheses names c mine
    some_component [] some = absurd (some refl)
    some_component (pair ∷ pairs) some = refl

    -- with an open pair
    pub component_tried : (refs : List (Bor Pair)) (pairs : List Pair) → pairs_at refs ≡
        pairs_in names c pairs
        → (length refs ≡ 0 → ⊥) → (t : Tried (List Pair)) → t ≡
        component kind parts hypotheses names c (pairs_at refs)
        → t ≡ tried_in kind parts hypotheses names pairs c
    component_tried refs pairs mine some t is =
        is ∙ some_component (pairs_at refs) (λ none. some (sym (lent_count refs) ∙ none)) ∙
        ap (unless_empty kind parts hypotheses names c) mine

-- ---- the walk over the components

next_symbol : (c n : ℕ) → c < n → range_with_len c (n - c) ≡
    c ∷ range_with_len (c + 1) (n - (c + 1))
next_symbol c n less =
    let more : n - c ≡ suc (n - (c + 1)) = omega (arith, less) in ap (range_with_len c) more

no_symbol : (c n : ℕ) → n ≤ c → range_with_len c (n - c) ≡ []
no_symbol c n past = let none : n - c ≡ 0 = omega (arith, past) in ap (range_with_len c) none

module _ (kind : RankingKind) (parts : RuleParts) (hypotheses : List Rule) (pairs : List Pair) where
  abbrev n : ℕ
  n = length parts.symbols

  abbrev tries : List ℕ → List (Tried (List Pair))
  tries fs = map (tried_in kind parts hypotheses (representatives_of n pairs) pairs) fs

  -- what is left of the components so far, and the components after them decide
  pub record IsLeft (c : ℕ) (noted : Bool) (left : List Pair) : Type 0 where
    pub decides : noting noted (after left (all_made (tries (range_with_len c (n - c))))) ≡
        polynomials kind parts hypotheses pairs
    pub over : IsOver n (edges_of left)

  after_none : (o : Option (List Pair)) → option_map (λ ys. [] ++ ys) o ≡ o
  after_none None = refl
  after_none (Some ys) = refl

  pub left_begin : (left : List Pair) → left ≡ [] → IsLeft 0 false left
  left_begin left none = record {
    decides =
        let whole = polynomials kind parts hypotheses pairs in
        let all : n - 0 ≡ n = omega arith in
        ap (λ k. noting false (after left (all_made (tries (range_with_len 0 k))))) all
        ∙ ap (λ ps. noting false (after ps whole)) none
        ∙ (λ i. record { made = after_none whole.made i; noted = whole.noted });
    over = subst (λ ps. IsOver n (edges_of ps)) (sym none) (All-nil (Within n));
  }

  module _ (c : ℕ) (noted : Bool) (left : List Pair) (is : IsLeft c noted left) where
    module _ (less : c < n) (made : Option (List Pair)) (more : Bool)
        (tried : record { made = made; noted = more } ≡
        tried_in kind parts hypotheses (representatives_of n pairs) pairs c) where
      opened : noting noted (after left (all_made
          (tried_in kind parts hypotheses (representatives_of n pairs) pairs c ∷
          tries (range_with_len (c + 1) (n - (c + 1)))))) ≡ polynomials kind parts hypotheses pairs
      opened =
          sym (ap (λ fs. noting noted (after left (all_made (tries fs)))) (next_symbol c n less)) ∙
          is.decides

      -- the component leaves these
      pub left_next : (mine grown : List Pair) → made ≡ Some mine → grown ≡ left ++ mine →
          IsOver n (edges_of mine) → IsLeft (c + 1) (noted || more) grown
      left_next mine grown some longer over = record {
        decides =
            (λ i. noting (noted || more) (after (longer i) (all_made
            (tries (range_with_len (c + 1) (n - (c + 1)))))))
            ∙ component_made noted left (polynomials kind parts hypotheses pairs)
            (tried_in kind parts hypotheses (representatives_of n pairs) pairs c)
            (tries (range_with_len (c + 1) (n - (c + 1)))) opened (left ++ mine) more
            ((λ i. record { made = option_map (λ ys. left ++ ys) (sym some i); noted = more }) ∙
            ap (after left) tried);
        over =
            subst (λ ps. IsOver n (edges_of ps)) (sym longer)
            (over_both n left mine is.over over);
      }

      -- it has no fit choice
      pub left_failed : made ≡ None → record { made = None; noted = noted || more } ≡
          polynomials kind parts hypotheses pairs
      left_failed none =
          component_failed noted left (polynomials kind parts hypotheses pairs)
          (tried_in kind parts hypotheses (representatives_of n pairs) pairs c)
          (tries (range_with_len (c + 1) (n - (c + 1)))) opened more
          ((λ i. record { made = option_map (λ ys. left ++ ys) (sym none i); noted = more }) ∙
          ap (after left) tried)

    -- no component is left
    pub left_end : n ≤ c → record { made = Some left; noted = noted } ≡
        polynomials kind parts hypotheses pairs
    left_end past =
        no_component noted left (polynomials kind parts hypotheses pairs)
        (sym (ap (λ fs. noting noted (after left (all_made (tries fs)))) (no_symbol c n past)) ∙
        is.decides)

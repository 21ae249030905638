-- Polynomials by number: what is said of numbers is said of their polynomials.
use Rattle.std.proofs.Common.{◌≡◌, ◌∙◌, ap, sym, refl, cond, arith, ℕ, zero, suc, ◌+◌, ◌==◌, ◌<◌, Bool, true, false, Option, Some, None, List, [], ◌∷◌, ◌++◌, All, IfSome, drop, get_or, length, option_and_then, slice_get, slice_set}
use Rattle.std.proofs.lemmas.Option.{slice_get-map}
use Rattle.std.specs.Option.{is_some, option_map}
use Rattle.rx_poly.specs.declared.body.Body.{Body}
use Rattle.rx_cert.specs.Findings.{Said, Yes, and_also}
use Rattle.rx_pairs.specs.declared.pair.Pair.{Pair}
use Rattle.rx_term.proofs.Places.{from_place}
use Rattle.rx_anchors.specs.Values.{polynomial_of, with_polynomial}
use Rattle.rx_rank.specs.Choices.{all_hold, hold_with, holds_by, pairs_from, tested}
use Rattle.rx_rank.specs.Numbers.{HasPoly, IsRightTaking, Numbered, by_number, by_numbers, taken_at}
use Rattle.rx_rank.specs.declared.numbered.NumberedTaking.{NumberedTaking}
use Rattle.rx_rank.specs.PairTests.{holds}

-- the polynomial of a symbol is that of its number
pub value_at : (polys : List Body) (values : List (Option ℕ)) (f : ℕ) →
    polynomial_of (by_numbers polys values) f ≡
    by_number polys (option_and_then (λ value. value) (slice_get values f))
value_at polys values f =
    ap (option_and_then (λ value. value)) (slice_get-map (by_number polys) values f)
    ∙ by (slice_get values f) where
      by : (o : Option (Option ℕ)) →
          option_and_then (λ value. value) (option_map (by_number polys) o) ≡
          by_number polys (option_and_then (λ value. value) o)
      by None = refl
      by (Some number) = refl

-- one pair more, with a polynomial for the symbol
with_one : (values : List (Option Body)) (p : Body) (pair : Pair) (others : List Pair) (b : Bool) →
    hold_with values p (cond b (pair ∷ others) others) ≡
    and_also (cond b (tested (holds pair) (Some p) (polynomial_of values pair.right.0)) Yes)
    (hold_with values p others)
with_one values p pair others true = refl
with_one values p pair others false = refl

-- there is an element below the end
some_there : {A : Type 0} (xs : List A) (i : ℕ) → i < length xs → slice_get xs i ≡ None →
    true ≡ false
some_there [] i h none = absurd (omega (arith, h))
some_there (x ∷ xs) zero h none = cc
some_there (x ∷ xs) (suc i) h none = some_there xs i (omega (arith, h)) none

pub next_of : (values : List (Option Body)) (p : Body) (f : ℕ) (pairs : List Pair) (i : ℕ)
    (s : Said) → i < length pairs →
    ((pair : Pair) → slice_get pairs i ≡ Some pair → s ≡ cond (pair.left.0 == f)
    (tested (holds pair) (Some p) (polynomial_of values pair.right.0)) Yes) →
    hold_with values p (pairs_from f (drop i pairs)) ≡
    and_also s (hold_with values p (pairs_from f (drop (i + 1) pairs)))
next_of values p f pairs i s h told = by (slice_get pairs i) refl where
  later : List Pair
  later = pairs_from f (drop (i + 1) pairs)

  by : (o : Option Pair) → slice_get pairs i ≡ o →
      hold_with values p (pairs_from f (drop i pairs)) ≡ and_also s (hold_with values p later)
  by None e = let wrong = some_there pairs i h e in cc
  by (Some pair) e =
      ap (λ ps. hold_with values p (pairs_from f ps)) (from_place pairs i pair e)
      ∙ with_one values p pair later (pair.left.0 == f)
      ∙ ap (λ t. and_also t (hold_with values p later)) (sym (told pair e))

-- one pair more, with the polynomials of its symbols
pub next_held : (values : List (Option Body)) (pairs : List Pair) (i : ℕ) (s : Said) →
    i < length pairs →
    ((pair : Pair) → slice_get pairs i ≡ Some pair → s ≡ holds_by values pair) →
    all_hold values (drop i pairs) ≡ and_also s (all_hold values (drop (i + 1) pairs))
next_held values pairs i s h told = by (slice_get pairs i) refl where
  by : (o : Option Pair) → slice_get pairs i ≡ o →
      all_hold values (drop i pairs) ≡ and_also s (all_hold values (drop (i + 1) pairs))
  by None e = let wrong = some_there pairs i h e in cc
  by (Some pair) e =
      ap (all_hold values) (from_place pairs i pair e)
      ∙ ap (λ t. and_also t (all_hold values (drop (i + 1) pairs))) (sym (told pair e))

-- one number more
pub number_put : (polys : List Body) (values : List (Option ℕ)) (f k : ℕ) (p : Body) →
    slice_get polys k ≡ Some p →
    by_numbers polys (slice_set values f (Some k)) ≡ with_polynomial (by_numbers polys values) f p
number_put polys [] f k p is = refl
number_put polys (v ∷ values) zero k p is = ap (λ o. o ∷ by_numbers polys values) is
number_put polys (v ∷ values) (suc f) k p is =
    ap (λ vs. by_number polys v ∷ vs) (number_put polys values f k p is)

-- ---- the pairs of a symbol, from a place on

module _ (f : ℕ) (pairs : List Pair) (i : ℕ) (pair : Pair) (there : slice_get pairs i ≡ Some pair)
  where
    -- the pair is of another symbol, or of this one
    pub pair_left_out : (pair.left.0 == f) ≡ false →
        pairs_from f (drop i pairs) ≡ pairs_from f (drop (i + 1) pairs)
    pair_left_out e =
        ap (pairs_from f) (from_place pairs i pair there)
        ∙ ap (λ b. cond b (pair ∷ pairs_from f (drop (i + 1) pairs))
        (pairs_from f (drop (i + 1) pairs))) e

    pub pair_of_it : (pair.left.0 == f) ≡ true →
        pairs_from f (drop i pairs) ≡ pair ∷ pairs_from f (drop (i + 1) pairs)
    pair_of_it e =
        ap (pairs_from f) (from_place pairs i pair there)
        ∙ ap (λ b. cond b (pair ∷ pairs_from f (drop (i + 1) pairs))
        (pairs_from f (drop (i + 1) pairs))) e

-- ---- numbers that were made

pub has_poly : (polys : List Body) (k : ℕ) → k < length polys →
    (p : Body) × (slice_get polys k ≡ Some p)
has_poly [] k h = absurd (omega (arith, h))
has_poly (p ∷ polys) zero h = (p, refl)
has_poly (p ∷ polys) (suc k) h = has_poly polys k (omega (arith, h))

pub made_poly : (polys : List Body) (o : Option ℕ) → HasPoly polys o → is_some o ≡ true →
    (p : Body) × (by_number polys o ≡ Some p)
made_poly polys None has e = cc
made_poly polys (Some k) has e = has_poly polys k has

pub no_number : (polys : List Body) (o : Option ℕ) → is_some o ≡ false → by_number polys o ≡ None
no_number polys None e = refl
no_number polys (Some k) e = cc

-- ---- what is kept is right of more polynomials

before_end : {A : Type 0} (xs ys : List A) (k : ℕ) → k < length xs →
    slice_get (xs ++ ys) k ≡ slice_get xs k
before_end [] ys k h = absurd (omega (arith, h))
before_end (x ∷ xs) ys zero h = refl
before_end (x ∷ xs) ys (suc k) h = before_end xs ys k (omega (arith, h))

pub at_end : {A : Type 0} (xs : List A) (x : A) → slice_get (xs ++ x ∷ []) (length xs) ≡ Some x
at_end [] x = refl
at_end (y ∷ xs) x = at_end xs x

longer : {A : Type 0} (xs ys : List A) (k : ℕ) → k < length xs → k < length (xs ++ ys)
longer [] ys k h = absurd (omega (arith, h))
longer (x ∷ xs) ys zero h = omega arith
longer (x ∷ xs) ys (suc k) h = let g = longer xs ys k (omega (arith, h)) in omega (arith, g)

module _ (pairs : List Pair) (polys more : List Body) where
  abbrev before_it : Numbered
  before_it = record { pairs = pairs; polys = polys }

  abbrev after_it : Numbered
  after_it = record { pairs = pairs; polys = polys ++ more }

  still_has : (o : Option ℕ) → HasPoly polys o → HasPoly (polys ++ more) o
  still_has None has = tt
  still_has (Some k) has = longer polys more k has

  same_number : (o : Option ℕ) → HasPoly polys o → by_number (polys ++ more) o ≡ by_number polys o
  same_number None has = refl
  same_number (Some k) has = before_end polys more k has

  still_right : (one : NumberedTaking) → IsRightTaking before_it one → IsRightTaking after_it one
  still_right one right = record {
    right_in = longer polys more one.right right.right_in;
    made_in = still_has one.made right.made_in;
    is =
        ap (taken_at (slice_get pairs one.pair) one.raised) (before_end polys more one.right
        right.right_in)
        ∙ right.is
        ∙ ap (λ o. record { made = o; noted = one.noted }) (sym (same_number one.made
        right.made_in));
  }

  still_kept : (o : Option NumberedTaking) → IfSome o (IsRightTaking before_it) →
      IfSome o (IsRightTaking after_it)
  still_kept None right = tt
  still_kept (Some one) right = still_right one right

  pub all_still_right : (takings : List (Option NumberedTaking)) →
      All (λ o. IfSome o (IsRightTaking before_it)) takings →
      All (λ o. IfSome o (IsRightTaking after_it)) takings
  all_still_right takings all = λ k d h. still_kept (get_or takings k d) (all k d h)

pub others_stay : (polys : List Body) (p : Body) (k : ℕ) → k < length polys →
    slice_get (polys ++ p ∷ []) k ≡ slice_get polys k
others_stay polys p k h = before_end polys (p ∷ []) k h

-- where nothing is kept, all is right
none_right : {A : Type 0} (P : A → Type 0) (o : Option A) → o ≡ None → IfSome o P
none_right P None e = tt
none_right P (Some x) e = cc

pub nothing_kept : {A : Type 0} (P : A → Type 0) (places : List (Option A)) →
    All (λ o. o ≡ None) places → All (λ o. IfSome o P) places
nothing_kept P places all = λ k d h. none_right P (get_or places k d) (all k d h)

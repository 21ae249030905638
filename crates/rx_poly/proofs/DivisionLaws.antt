-- Quotients and remainders of polynomials: which case they are, what value they have, and when the
-- atom is normal.
use Rattle.std.proofs.Common.{◌≡◌, ◌∙◌, ap, ℕ, Bool, true, false, not, ◌&&◌, Option, Some, None, refl, sym, List, [], ◌∷◌, cond, ℤ, pos, ◌*ℤ◌, int_div, int_rem}
use Rattle.std.proofs.lemmas.Bool.{and_parts, and_from, and_right}
use Rattle.std.proofs.lemmas.Option.{same_Some}
use Rattle.rx_poly.proofs.Emptiness.{empty_is}
use Rattle.rx_plain.proofs.Integers.{mul-one-int, add-zero-int}
use Rattle.rx_poly.specs.Division.{by_number, parts_of, parts, division, atom_alone, quotient_of, remainder_of}
use Rattle.rx_poly.specs.Normal.{is_empty, is_number, is_open, is_normal, is_normal_atom, is_poly}
use Rattle.rx_poly.specs.Limits.{is_small}
use Rattle.rx_poly.specs.Reading.{constant_of}
use Rattle.rx_poly.specs.Terms.{is_zero}
use Rattle.rx_poly.specs.Value.{value, quotient, remainder, atom_value, mono_value, sum_terms, product_of, atom_level, body_level, mono_level}
use Rattle.rx_poly.proofs.Constants.{value-alone, value-number}
use Rattle.rx_poly.proofs.Levels.{value_is, mono_value_is, div_is_normal, mod_is_normal}
use Rattle.rx_poly.proofs.PolyLaws.{value-of_terms}
use Rattle.rx_poly.specs.declared.body.Atom.{fold_out-Atom}
use Rattle.rx_poly.specs.declared.body.Atom.TheVariants.{Div, Mod, outs-Div, outs-Mod}
use Rattle.rx_poly.specs.declared.body.Mono.{Mono, out-Mono}
use Rattle.rx_poly.specs.declared.body.Body.{Body, out-Body}
use Rattle.rx_poly.specs.declared.division.Parts.TheVariants.{ByZero, Numbers, Open}

-- ---- the number that a sum is

one_term : (t : Mono × ℤ) (ts : List (Mono × ℤ)) (k : ℤ) (a : ℕ → ℤ) → is_number (t ∷ ts) ≡ true →
    t.1 ≡ k → sum_terms (mono_value a) (t ∷ ts) ≡ k
one_term t [] k a h e =
    let one : mono_value a t.0 ≡ pos 1 = mono_value_is a t.0 ∙
    ap (product_of (atom_value a)) (empty_is (out-Mono t.0).atoms h) in
    add-zero-int (t.1 *ℤ mono_value a t.0) ∙ ap (λ v. t.1 *ℤ v) one ∙ mul-one-int t.1 ∙ e
one_term t (u ∷ us) k a h e = cc

by_number_test : (t : Mono × ℤ) (ts : List (Mono × ℤ)) (k : ℤ) (a : ℕ → ℤ) (b : Bool) →
    is_number (t ∷ ts) ≡ b → cond b (Some t.1) None ≡ Some k → sum_terms (mono_value a) (t ∷ ts) ≡ k
by_number_test t ts k a true h e = one_term t ts k a h (same_Some t.1 k e)
by_number_test t ts k a false h e = cc

-- a sum that is a number has it as value
number_value : (a : ℕ → ℤ) (ts : List (Mono × ℤ)) (k : ℤ) → constant_of ts ≡ Some k →
    sum_terms (mono_value a) ts ≡ k
number_value a [] k e = same_Some (pos 0) k e
number_value a (t ∷ ts) k e = by_number_test t ts k a (is_number (t ∷ ts)) refl e

pub constant_value : (a : ℕ → ℤ) (p : Body) (k : ℤ) → constant_of (out-Body p).terms ≡ Some k →
    value a p ≡ k
constant_value a p k e = value_is a p ∙ number_value a (out-Body p).terms k e

-- a sum that is no number has a term, and isn't found to be one
no_number_test : (ts : List (Mono × ℤ)) → constant_of ts ≡ None → (is_empty ts ≡ false) ×
    (is_number ts ≡ false)
no_number_test [] e = cc
no_number_test (t ∷ ts) e = (refl, by (is_number (t ∷ ts)) refl e)
  where
    by : (b : Bool) → is_number (t ∷ ts) ≡ b → cond b (Some t.1) None ≡ None → is_number (t ∷ ts) ≡
        false
    by true h f = cc
    by false h f = h

-- a number that isn't 0 has a term
nonzero_term : (ts : List (Mono × ℤ)) (k : ℤ) → constant_of ts ≡ Some k → is_zero k ≡ false →
    is_empty ts ≡ false
nonzero_term [] k e z = let no : true ≡ false = ap is_zero (same_Some (pos 0) k e) ∙ z in cc
nonzero_term (t ∷ ts) k e z = refl

-- ---- the three cases

pub record BothNumbers (m n : Option ℤ) (x y : ℤ) : Type 0 where
  pub first : m ≡ Some x
  pub second : n ≡ Some y
  pub nonzero : is_zero y ≡ false

numbers_by : (m : Option ℤ) (z x y : ℤ) (b : Bool) → is_zero z ≡ b → cond b ByZero (by_number m z) ≡
    Numbers x y → BothNumbers m (Some z) x y
numbers_by m z x y true h e = cc
numbers_by None z x y false h e = cc
numbers_by (Some w) z x y false h e =
    let f : w ≡ x = cc in
    let g : z ≡ y = cc in
    record { first = ap Some f; second = ap Some g; nonzero = ap is_zero (sym g) ∙ h }

pub both_numbers : (m n : Option ℤ) (x y : ℤ) → parts_of m n ≡ Numbers x y → BothNumbers m n x y
both_numbers m None x y e = cc
both_numbers m (Some z) x y e = numbers_by m z x y (is_zero z) refl e

-- where the case is open, the atom is
pub open_atom : (p q : Body) → parts p q ≡ Open → is_open p q ≡ true
open_atom p q e = by (constant_of (out-Body p).terms) (constant_of (out-Body q).terms) refl refl e
  where
    opened : is_empty (out-Body q).terms ≡ false →
        (is_number (out-Body p).terms && is_number (out-Body q).terms) ≡ false → is_open p q ≡ true
    opened f g = λ i. not (f i) && not (g i)

    numbered : (ts : List (Mono × ℤ)) (us : List (Mono × ℤ)) → is_number ts ≡ false →
        (is_number ts && is_number us) ≡ false
    numbered ts us h = ap (λ b. b && is_number us) h

    by_zero : (m : Option ℤ) (z : ℤ) (b : Bool) → is_zero z ≡ b → constant_of (out-Body p).terms ≡
        m → constant_of (out-Body q).terms ≡ Some z → cond b ByZero (by_number m z) ≡ Open →
        is_open p q ≡ true
    by_zero m z true h f g k = cc
    by_zero None z false h f g k =
        opened (nonzero_term (out-Body q).terms z g h)
        (numbered (out-Body p).terms (out-Body q).terms (no_number_test (out-Body p).terms f).1)
    by_zero (Some w) z false h f g k = cc

    by : (m n : Option ℤ) → constant_of (out-Body p).terms ≡ m → constant_of (out-Body q).terms ≡
        n → parts_of m n ≡ Open → is_open p q ≡ true
    by m None f g k =
        let t = no_number_test (out-Body q).terms g in
        opened t.0 (and_right (is_number (out-Body p).terms) (is_number (out-Body q).terms) t.1)
    by m (Some z) f g k = by_zero m z (is_zero z) refl f g k

parts_normal : (p q : Body) → parts p q ≡ Open → is_poly p ≡ true → is_poly q ≡ true →
    ((is_normal p && is_normal q) && is_open p q) ≡ true
parts_normal p q e h g =
    and_from (is_normal p && is_normal q) (is_open p q)
    (and_from (is_normal p) (is_normal q) (and_parts (is_normal p) (is_small p) h).0
    (and_parts (is_normal q) (is_small q) g).0) (open_atom p q e)

-- then the quotient and the remainder are normal atoms
pub open_quotient : (p q : Body) → parts p q ≡ Open → is_poly p ≡ true → is_poly q ≡ true →
    is_normal_atom (Div p q) ≡ true
open_quotient p q e h g = div_is_normal p q ∙ parts_normal p q e h g

pub open_remainder : (p q : Body) → parts p q ≡ Open → is_poly p ≡ true → is_poly q ≡ true →
    is_normal_atom (Mod p q) ≡ true
open_remainder p q e h g = mod_is_normal p q ∙ parts_normal p q e h g

-- ---- values of atoms and of divisions

pub value-Div : (a : ℕ → ℤ) (p q : Body) → atom_value a (Div p q) ≡ quotient (value a p) (value a q)
value-Div a p q =
    fold_out-Atom ℤ ℤ ℤ (atom_level a) body_level mono_level (Div p q) ∙ rw (outs-Div p q) refl

pub value-Mod : (a : ℕ → ℤ) (p q : Body) → atom_value a (Mod p q) ≡
    remainder (value a p) (value a q)
value-Mod a p q =
    fold_out-Atom ℤ ℤ ℤ (atom_level a) body_level mono_level (Mod p q) ∙ rw (outs-Mod p q) refl

-- a division of numbers, 0 by 0
abbrev safe : (ℤ → ℤ → ℤ) → ℤ → ℤ → ℤ
safe f z d = cond (is_zero d) (pos 0) (f z d)

module _ (a : ℕ → ℤ) (f : ℤ → ℤ → ℤ) (p q whole : Body)
    (open_is : value a whole ≡ safe f (value a p) (value a q)) where
  by_zero : (m : Option ℤ) (z : ℤ) (b : Bool) → is_zero z ≡ b → constant_of (out-Body p).terms ≡ m →
      constant_of (out-Body q).terms ≡ Some z →
      value a (division f whole (cond b ByZero (by_number m z))) ≡ safe f (value a p) (value a q)
  by_zero m z true h g k =
      value-of_terms a [] ∙ ap (λ b. cond b (pos 0) (f (value a p) (value a q)))
      (sym (ap is_zero (constant_value a q z k) ∙ h))
  by_zero None z false h g k = open_is
  by_zero (Some w) z false h g k =
      value-number a (f w z) ∙ (λ i. f (sym (constant_value a p w g) i)
      (sym (constant_value a q z k) i))
      ∙ ap (λ b. cond b (pos 0) (f (value a p) (value a q)))
      (sym (ap is_zero (constant_value a q z k) ∙ h))

  by_parts : (m n : Option ℤ) → constant_of (out-Body p).terms ≡ m →
      constant_of (out-Body q).terms ≡ n → value a (division f whole (parts_of m n)) ≡
      safe f (value a p) (value a q)
  by_parts m None g k = open_is
  by_parts m (Some z) g k = by_zero m z (is_zero z) refl g k

-- a quotient has the quotient as value
pub value-quotient_of : (a : ℕ → ℤ) (p q : Body) → value a (quotient_of p q) ≡
    quotient (value a p) (value a q)
value-quotient_of a p q =
    by_parts a int_div p q (atom_alone (Div p q)) (value-alone a (Div p q) ∙ value-Div a p q)
    (constant_of (out-Body p).terms) (constant_of (out-Body q).terms) refl refl

-- a remainder has the remainder as value
pub value-remainder_of : (a : ℕ → ℤ) (p q : Body) → value a (remainder_of p q) ≡
    remainder (value a p) (value a q)
value-remainder_of a p q =
    by_parts a int_rem p q (atom_alone (Mod p q)) (value-alone a (Mod p q) ∙ value-Mod a p q)
    (constant_of (out-Body p).terms) (constant_of (out-Body q).terms) refl refl

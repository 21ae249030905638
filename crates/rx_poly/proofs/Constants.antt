-- One variable and one number, as polynomials: normal, within the limits, and with the value that
-- they say.
use Rattle.std.proofs.Common.{◌≡◌, ◌∙◌, ap, ℕ, ◌+◌, max, Bool, true, false, not, ◌&&◌, nat_le, sum_by, refl, sym, [], ◌∷◌, ℤ, pos, negsuc, ◌*ℤ◌, arith}
use Rattle.std.proofs.lemmas.Bool.{and_from, and_parts, false_from_ne_true}
use Rattle.std.proofs.lemmas.Int.{to_z-of_z}
use Rattle.std.proofs.lemmas.Bool.Decides.{nat_tests}
use Rattle.std.specs.Int.{w128}
use Rattle.std.specs.Prelude.{FitsSigned}
use mir.Val.{to_z, of_z}
use denote.Hole.Carrier
use Rattle.rx_plain.proofs.Integers.{mul-one-int, one-mul-int, add-zero-int}
use Rattle.rx_poly.specs.Limits.{is_within, of_terms, of_atoms, fits_i128, is_small, atom_size, mono_size, atom_depth, mono_depth, greatest, atom_size_level, mono_size_level, body_size_level, atom_depth_level, mono_depth_level, body_depth_level}
use Rattle.rx_poly.specs.Constants.{variable, variable_times, number}
use Rattle.rx_poly.specs.Division.{atom_alone}
use Rattle.rx_poly.specs.Normal.{is_normal_atom, is_normal_mono, is_normal, is_poly, atom_normal_level, mono_normal_level, body_normal_level}
use Rattle.rx_poly.specs.Terms.{is_zero}
use Rattle.rx_poly.specs.Value.{value, mono_value, atom_value, product_of}
use Rattle.rx_poly.proofs.Levels.{atoms-of_atoms, mono_size_is, mono_depth_is, mono_value_is, var_value}
use Rattle.rx_poly.proofs.PolyLaws.{normal_of_terms, within_terms, poly_of_terms, zero_poly, size-of_terms, depth-of_terms, value-of_terms}
use Rattle.rx_poly.proofs.ProductLaws.{normal_of_atoms}
use Rattle.rx_poly.proofs.TermLaws.{cons_nonzero-nonzero, zero_is}
use Rattle.rx_poly.specs.declared.body.Atom.{Atom, Atom-F, out-Atom, roll-Atom, fold_out-Atom, para-roll-Atom}
use Rattle.rx_poly.specs.declared.body.Atom.TheVariants.{Var}
use Rattle.rx_poly.specs.declared.body.Mono.{Mono}

-- ---- one variable

var_normal : (n : ℕ) → is_normal_atom (Var n) ≡ true
unfolding roll-Atom denote.Hole.Carrier.roll
var_normal n =
    para-roll-Atom Bool Bool Bool atom_normal_level body_normal_level mono_normal_level
    (Atom-F.Var n)

var_size : (n : ℕ) → atom_size (Var n) ≡ 1
unfolding out-Atom denote.Hole.Carrier.out
var_size n = fold_out-Atom ℕ ℕ ℕ atom_size_level body_size_level mono_size_level (Var n)

var_depth : (n : ℕ) → atom_depth (Var n) ≡ 0
unfolding out-Atom denote.Hole.Carrier.out
var_depth n = fold_out-Atom ℕ ℕ ℕ atom_depth_level body_depth_level mono_depth_level (Var n)

-- the monomial that is one variable
abbrev alone : ℕ → Mono
alone n = of_atoms (Var n ∷ [])

alone_size : (n : ℕ) → mono_size (alone n) ≡ 2
alone_size n =
    mono_size_is (alone n) ∙ ap (λ xs. 1 + sum_by atom_size xs) (atoms-of_atoms (Var n ∷ [])) ∙
    ap (λ k. 1 + (0 + k)) (var_size n)

alone_depth : (n : ℕ) → mono_depth (alone n) ≡ 0
alone_depth n =
    mono_depth_is (alone n) ∙ ap (greatest atom_depth) (atoms-of_atoms (Var n ∷ [])) ∙
    ap (λ k. max k 0) (var_depth n)

-- a number other than 0 times one variable is a polynomial
pub multiple_poly : (k : ℤ) (n : ℕ) → is_zero k ≡ false → fits_i128 k ≡ true →
    is_poly (variable_times k n) ≡ true
multiple_poly k n z f = poly_of_terms ((alone n, k) ∷ []) (record {
  keys =
      and_from (is_normal_mono (alone n)) true
      (normal_of_atoms (Var n ∷ []) (record {
        atoms =
            and_from (is_normal_atom (Var n)) true (var_normal n) refl;
        sorted = refl;
      })) refl;
  fits = and_from (fits_i128 k) true f refl;
  listed = and_from (not (is_zero k)) true (ap not z) refl;
}) ((λ i. nat_le (size-of_terms ((alone n, k) ∷ []) i) 4096 &&
    nat_le (depth-of_terms ((alone n, k) ∷ []) i) 64)
    ∙ (λ i. nat_le (0 + alone_size n i) 4096 && nat_le (max (alone_depth n i) 0) 64))

-- one variable is a polynomial
pub variable_poly : (n : ℕ) → is_poly (variable n) ≡ true
variable_poly n = multiple_poly (pos 1) n refl refl

-- and with the value that the variable is given
pub value-variable : (a : ℕ → ℤ) (n : ℕ) → value a (variable n) ≡ a n
value-variable a n =
    value-of_terms a ((alone n, pos 1) ∷ [])
    ∙ add-zero-int (pos 1 *ℤ mono_value a (alone n))
    ∙ one-mul-int (mono_value a (alone n))
    ∙ mono_value_is a (alone n) ∙ ap (product_of (atom_value a)) (atoms-of_atoms (Var n ∷ []))
    ∙ mul-one-int (atom_value a (Var n)) ∙ var_value a n

-- ---- one atom

-- one normal atom is a normal form
pub alone_normal : (x : Atom) → is_normal_atom x ≡ true → is_normal (atom_alone x) ≡ true
alone_normal x h = normal_of_terms ((of_atoms (x ∷ []), pos 1) ∷ []) (record {
  keys =
      and_from (is_normal_mono (of_atoms (x ∷ []))) true
      (normal_of_atoms (x ∷ []) (record {
        atoms = and_from (is_normal_atom x) true h refl;
        sorted =
            refl;
      })) refl;
  fits = refl;
  listed = refl;
})

-- and with the value of the atom
pub value-alone : (a : ℕ → ℤ) (x : Atom) → value a (atom_alone x) ≡ atom_value a x
value-alone a x =
    value-of_terms a ((of_atoms (x ∷ []), pos 1) ∷ [])
    ∙ add-zero-int (pos 1 *ℤ mono_value a (of_atoms (x ∷ [])))
    ∙ one-mul-int (mono_value a (of_atoms (x ∷ [])))
    ∙ mono_value_is a (of_atoms (x ∷ [])) ∙ ap (product_of (atom_value a)) (atoms-of_atoms (x ∷ []))
    ∙ mul-one-int (atom_value a x)

-- ---- one number

one_size : mono_size (of_atoms []) ≡ 1
one_size = mono_size_is (of_atoms []) ∙ ap (λ xs. 1 + sum_by atom_size xs) (atoms-of_atoms [])

one_depth : mono_depth (of_atoms []) ≡ 0
one_depth = mono_depth_is (of_atoms []) ∙ ap (greatest atom_depth) (atoms-of_atoms [])

one_value : (a : ℕ → ℤ) → mono_value a (of_atoms []) ≡ pos 1
one_value a = mono_value_is a (of_atoms []) ∙ ap (product_of (atom_value a)) (atoms-of_atoms [])

pub number-nonzero : (k : ℤ) → is_zero k ≡ false → number k ≡ of_terms ((of_atoms [], k) ∷ [])
number-nonzero k z = ap of_terms (cons_nonzero-nonzero (of_atoms []) k [] z)

-- one number that isn't 0 is a polynomial
pub number_poly : (k : ℤ) → is_zero k ≡ false → fits_i128 k ≡ true →
    is_poly (of_terms ((of_atoms [], k) ∷ [])) ≡ true
number_poly k z f = poly_of_terms ((of_atoms [], k) ∷ []) (record {
  keys =
      and_from (is_normal_mono (of_atoms [])) true
      (normal_of_atoms [] (record { atoms = refl; sorted = refl })) refl;
  fits = and_from (fits_i128 k) true f refl;
  listed = (λ i. not (z i) && true);
}) ((λ i. nat_le (size-of_terms ((of_atoms [], k) ∷ []) i) 4096 &&
    nat_le (depth-of_terms ((of_atoms [], k) ∷ []) i) 64)
    ∙ (λ i. nat_le (0 + one_size i) 4096 && nat_le (max (one_depth i) 0) 64))

and_true : (b : Bool) → ((b && true) && true) ≡ b
and_true true = refl
and_true false = refl

-- 0 is within the limits
pub zero_within : is_within (of_terms []) ≡ true
zero_within =
    within_terms [] ∙ (and_parts (is_normal (of_terms [])) (is_small (of_terms [])) zero_poly).1

-- a number is within the limits where it fits
pub number_within : (k : ℤ) → is_within (number k) ≡ fits_i128 k
number_within k = by (is_zero k) refl
  where
    by : (b : Bool) → is_zero k ≡ b → is_within (number k) ≡ fits_i128 k
    by true e =
        ap (λ z. is_within (number z)) (zero_is k e) ∙ zero_within ∙
        ap fits_i128 (sym (zero_is k e))
    by false e =
        let ts = (of_atoms [], k) ∷ [] in
        ap is_within (number-nonzero k e) ∙ within_terms ts
        ∙ (λ i. (fits_i128 k && true) && (nat_le (size-of_terms ts i) 4096 &&
        nat_le (depth-of_terms ts i) 64))
        ∙ (λ i. (fits_i128 k && true) && (nat_le (0 + one_size i) 4096 &&
        nat_le (max (one_depth i) 0) 64))
        ∙ and_true (fits_i128 k)

-- and with itself as value
pub value-number : (a : ℕ → ℤ) (k : ℤ) → value a (number k) ≡ k
value-number a k = by (is_zero k) refl
  where
    by : (b : Bool) → is_zero k ≡ b → value a (number k) ≡ k
    by true e = ap (λ z. value a (number z)) (zero_is k e) ∙ value-of_terms a [] ∙ sym (zero_is k e)
    by false e =
        ap (value a) (number-nonzero k e) ∙ value-of_terms a ((of_atoms [], k) ∷ [])
        ∙ add-zero-int (k *ℤ mono_value a (of_atoms [])) ∙ ap (λ v. k *ℤ v) (one_value a) ∙
        mul-one-int k

-- ---- a number that was read

pub fits_signed : (z : ℤ) → FitsSigned w128 z → fits_i128 z ≡ true
fits_signed (pos n) f = let b = f.sfits in grind (arith, nat_tests)
fits_signed (negsuc n) f = let b = f.sfits in grind (arith, nat_tests)

pub read_fits : (z : ℤ) → FitsSigned w128 z → fits_i128 (to_z w128 (of_z w128 z)) ≡ true
read_fits z f = ap fits_i128 (to_z-of_z w128 z f) ∙ fits_signed z f

pub read_nonzero : (z : ℤ) → FitsSigned w128 z → (of_z w128 z ≡ 0 → ⊥) →
    is_zero (to_z w128 (of_z w128 z)) ≡ false
read_nonzero z f h =
    ap is_zero (to_z-of_z w128 z f) ∙ false_from_ne_true (is_zero z) (λ e. h (ap (of_z w128) (zero_is z e)))

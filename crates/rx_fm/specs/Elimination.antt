-- The elimination, over exact integers: monomial by monomial the polynomials that have it are
-- joined so that it cancels.
use Rattle.std.specs.Prelude.{ℕ, suc, ◌/◌, nat_le, Bool, true, false, ◌&&◌, if◌then◌else◌, Option, Some, None, List, [], ◌∷◌, ◌++◌, length, map, filter, replicate, slice_set, ℤ, pos, int_lt, unsigned_abs}
use Rattle.std.specs.List.{list_all}
use Rattle.std.specs.declared.cmp.Ordering.{Ordering}
use Rattle.std.specs.declared.cmp.Ordering.TheVariants.{Less, Equal, Greater}
use Rattle.rx_plain.specs.Formed.{Formed}
use Rattle.rx_poly.specs.Limits.{body_sum, is_within, of_terms, scaled_by}
use Rattle.rx_poly.specs.Normal.{is_empty}
use Rattle.rx_poly.specs.Order.{mono_cmp}
use Rattle.rx_poly.specs.Reading.{coefficient, constant_of}
use Rattle.rx_poly.specs.Terms.{is_zero}
use Rattle.rx_poly.specs.Value.{quotient}
use Rattle.rx_poly.specs.declared.body.Body.{Body, out-Body}
use Rattle.rx_poly.specs.declared.body.Mono.{Mono, out-Mono}
use Rattle.rx_fm.specs.Numbers.{combined, combined_within, gcd, gcd_with, quotients, size_fits, sizes_fit}
use Rattle.rx_fm.specs.declared.combination.Combination.{Combination}

-- ---- the monomials

-- the monomial is 1, the product of nothing
abbrev pub is_one : Mono → Bool
is_one m = is_empty (out-Mono m).atoms

-- the monomial inserted before m and the others, or later, or nowhere where it is m
abbrev pub at_place : Ordering → Mono → Mono → List Mono → List Mono → List Mono
at_place Less k m ms further = k ∷ (m ∷ ms)
at_place Equal k m ms further = m ∷ ms
at_place Greater k m ms further = m ∷ further

-- a monomial inserted at its place among others that rise, unless it is there
abbrev pub with_mono : Mono → List Mono → List Mono
with_mono k [] = k ∷ []
with_mono k (m ∷ ms) = at_place (mono_cmp k m) k m ms (with_mono k ms)

-- the monomials of the terms that are not 1, inserted among others
abbrev pub with_monos : List (Mono × ℤ) → List Mono → List Mono
with_monos [] ms = ms
with_monos (t ∷ ts) ms = with_monos ts (if is_one t.0 then ms else with_mono t.0 ms)

-- the monomials of all the polynomials that are not 1, inserted among others
abbrev pub with_all : List Body → List Mono → List Mono
with_all [] ms = ms
with_all (p ∷ ps) ms = with_all ps (with_monos (out-Body p).terms ms)

-- the monomials other than 1 that the polynomials have, each once, in the order of normal forms
abbrev pub monomials : List Body → List Mono
monomials ps = with_all ps []

-- ---- two polynomials joined

-- the coefficient that the monomial has
abbrev pub at : Mono → Combination → ℤ
at m c = coefficient m (out-Body c.poly).terms

-- the coefficients of a polynomial
abbrev pub coefficients : Body → List ℤ
coefficients p = map (λ (t : Mono × ℤ). t.1) (out-Body p).terms

-- k times the first plus l times the second, the multipliers likewise
abbrev pub linear_combination : ℤ → Combination → ℤ → Combination → Combination
linear_combination k p l q =
    record {
      poly = body_sum (scaled_by k p.poly) (scaled_by l q.poly);
      multipliers =
          combined k p.multipliers l q.multipliers;
    }

-- whether the two multiples, their sum, and all that is formed for the multipliers keep the limits
abbrev pub linear_combination_within : ℤ → Combination → ℤ → Combination → Bool
linear_combination_within k p l q =
    is_within (scaled_by k p.poly)
    && (is_within (scaled_by l q.poly) && (is_within
    (body_sum (scaled_by k p.poly) (scaled_by l q.poly)) &&
    combined_within k p.multipliers l q.multipliers))

-- both at once
abbrev pub linear_combination_formed : ℤ → Combination → ℤ → Combination → Formed Combination
linear_combination_formed k p l q =
    record { form = linear_combination k p l q; within = linear_combination_within k p l q }

-- the two combined so that coefficients of the sizes a and b and of opposite signs cancel, by the
-- least such weights
abbrev pub eliminant : ℕ → ℕ → Combination → Combination → Combination
eliminant a b p q = linear_combination (pos (b / gcd a b)) p (pos (a / gcd a b)) q

abbrev pub eliminant_within : ℕ → ℕ → Combination → Combination → Bool
eliminant_within a b p q = linear_combination_within (pos (b / gcd a b)) p (pos (a / gcd a b)) q

-- both at once
abbrev pub eliminant_formed : ℕ → ℕ → Combination → Combination → Formed Combination
eliminant_formed a b p q = linear_combination_formed (pos (b / gcd a b)) p (pos (a / gcd a b)) q

-- the greatest common divisor of all coefficients and multipliers
abbrev pub common_divisor : Combination → ℕ
common_divisor c = gcd_with (gcd_with 0 (coefficients c.poly)) c.multipliers

-- whether all their sizes are numbers of i128
abbrev pub common_divisor_within : Combination → Bool
common_divisor_within c = sizes_fit (coefficients c.poly) && sizes_fit c.multipliers

-- the polynomial with each coefficient divided by d
abbrev pub divided : ℕ → Body → Body
divided d p = of_terms (map (λ (t : Mono × ℤ). (t.0, quotient t.1 (pos d))) (out-Body p).terms)

-- all coefficients and multipliers divided by their greatest common divisor
abbrev pub primitive_part : Combination → Combination
primitive_part c =
    record {
      poly = divided (common_divisor c) c.poly;
      multipliers =
          quotients (common_divisor c) c.multipliers;
    }

-- the two joined so that the monomial cancels, where its coefficients have opposite signs
abbrev pub resolvent : Mono → Combination → Combination → Combination
resolvent m p q = primitive_part (eliminant (unsigned_abs (at m p)) (unsigned_abs (at m q)) p q)

-- whether all that is formed on the way to that keeps the limits; the coefficient of q is the
-- negative one
abbrev pub resolvent_within : Mono → Combination → Combination → Bool
resolvent_within m p q =
    size_fits (at m q)
    && (eliminant_within (unsigned_abs (at m p)) (unsigned_abs (at m q)) p q
    && common_divisor_within (eliminant (unsigned_abs (at m p)) (unsigned_abs (at m q)) p q))

-- ---- one stage

-- those in which the monomial has no coefficient, a positive one, a negative one
abbrev pub without : Mono → List Combination → List Combination
without m cs = filter (λ c. is_zero (at m c)) cs

abbrev pub positive : Mono → List Combination → List Combination
positive m cs = filter (λ c. int_lt (pos 0) (at m c)) cs

abbrev pub negative : Mono → List Combination → List Combination
negative m cs = filter (λ c. int_lt (at m c) (pos 0)) cs

-- each of the first joined with each of the second, in order
abbrev pub pairs : Mono → List Combination → List Combination → List Combination
pairs m [] qs = []
pairs m (p ∷ ps) qs = map (resolvent m p) qs ++ pairs m ps qs

abbrev pub pairs_within : Mono → List Combination → List Combination → Bool
pairs_within m [] qs = true
pairs_within m (p ∷ ps) qs = list_all (resolvent_within m p) qs && pairs_within m ps qs

-- those without the monomial, then each positive one joined with each negative one
abbrev pub stage : Mono → List Combination → List Combination
stage m cs = without m cs ++ pairs m (positive m cs) (negative m cs)

-- whether all that is formed keeps the limits, and no more than `limit` are there
abbrev pub stage_within : ℕ → Mono → List Combination → Bool
stage_within limit m cs =
    nat_le (length (stage m cs)) limit && pairs_within m (positive m cs) (negative m cs)

-- both at once
abbrev pub stage_formed : ℕ → Mono → List Combination → Formed (List Combination)
stage_formed limit m cs = record { form = stage m cs; within = stage_within limit m cs }

-- ---- the elimination

-- what an elimination ends with
pub data EliminationEnd : Type 0 where
  -- something passes the limits
  Large : EliminationEnd
  -- no monomial is left, and no polynomial is a negative number
  nothing : EliminationEnd
  -- the multipliers of the first polynomial that is a negative number
  found : List ℤ → EliminationEnd

-- the sum is a negative number
abbrev pub is_below_zero : Option ℤ → Bool
is_below_zero None = false
is_below_zero (Some k) = int_lt k (pos 0)

-- the polynomial is a negative number
abbrev pub is_negative : Combination → Bool
is_negative c = is_below_zero (constant_of (out-Body c.poly).terms)

-- the multipliers of the first that is a negative number
abbrev pub first_negative : List Combination → Option (List ℤ)
first_negative [] = None
first_negative (c ∷ cs) = if is_negative c then Some c.multipliers else first_negative cs

-- the multipliers that were found, or how it ends otherwise
abbrev pub found_or : Option (List ℤ) → EliminationEnd → EliminationEnd
found_or None further = further
found_or (Some ms) further = found ms

-- the monomials are eliminated one after the other, and before each it is seen whether a negative
-- number is there; where no polynomial has the monomial any more nothing changes
abbrev pub eliminate : ℕ → List Mono → List Combination → EliminationEnd
eliminate limit [] cs = found_or (first_negative cs) nothing
eliminate limit (m ∷ ms) cs =
    found_or (first_negative cs) (if stage_within limit m cs then
    eliminate limit ms (stage m cs) else Large)

-- `count` multipliers that are 0, but 1 at that place
abbrev pub unit : ℕ → ℕ → List ℤ
unit count place = slice_set (replicate count (pos 0)) place (pos 1)

-- the polynomials as they are given, the first with that place
abbrev pub given_from : ℕ → ℕ → List Body → List Combination
given_from place count [] = []
given_from place count (p ∷ ps) =
    record { poly = p; multipliers = unit count place } ∷ given_from (suc place) count ps

abbrev pub given : List Body → List Combination
given ps = given_from 0 (length ps) ps

-- the elimination of all monomials, with at most `limit` polynomials at the beginning and after
-- each stage
abbrev pub elimination : ℕ → List Body → EliminationEnd
elimination limit ps =
    if nat_le (length ps) limit then eliminate limit (monomials ps) (given ps) else Large

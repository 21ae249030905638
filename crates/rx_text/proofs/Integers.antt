-- Integers of i128 as text: the sign distinguishes the two kinds.
use Rattle.std.proofs.Common.{rules, ◌≡◌, ◌∙◌, ap, subst, refl, sym, ℕ, suc, ◌-◌, ◌^◌, ◌<◌, ◌≤◌, true, List, [], ◌∷◌, ◌++◌, drop, arith, ℤ, pos, negsuc, Option, Some, None}
use Rattle.std.proofs.lemmas.Bool.{le-leb, ltb-true}
use Rattle.std.proofs.lemmas.Int.{to_z-of_z}
use Rattle.std.specs.Int.{w128}
use Rattle.std.specs.Prelude.{FitsSigned}
use mir.Val.{of_z, to_z}
use Rattle.rx_poly.specs.Limits.{fits_i128}
use Rattle.rx_text.specs.Formats.{BeginsWith, IsUnambiguous, Reads, Skips, StandsAt}
use Rattle.rx_text.specs.Numbers.{integers, integers_from_zero, is_digit, natural_text, naturals, sizes_below_zero}
use Rattle.rx_text.proofs.Decimals.{naturals_unambiguous, number_first}

abbrev wide : ℕ
wide = 2 ^ 128 - 1

wide_is_less : wide < 10 ^ 64
wide_is_less = omega arith

wide_one : IsUnambiguous (naturals wide)
wide_one = naturals_unambiguous wide wide_is_less

-- an integer of at least 0 is a natural number below 2^127
pub from_zero : {bytes left : List ℕ} {z : ℤ} → BeginsWith integers_from_zero bytes z left
    → (n : ℕ) × (z ≡ pos n) × (n < 2 ^ 127) × BeginsWith (naturals wide) bytes n left
from_zero {bytes} {left} {z = pos n} b =
    let less : n < 2 ^ 127 = ltb-true n (2 ^ 127) b.in_range in
    let most : n ≤ wide = omega arith in
    (n, refl, less, record { in_range = le-leb n wide most; text = b.text; over = b.over })
from_zero {bytes} {left} {z = negsuc n} b = let h = b.in_range in cc

-- one below 0 is minus a positive number of at most 2^127
pub under_zero : {bytes left : List ℕ} {z : ℤ} → BeginsWith sizes_below_zero bytes z left
    → (n : ℕ) × (z ≡ negsuc n) × (n < 2 ^ 127) × BeginsWith (naturals wide) bytes (suc n) left
under_zero {bytes} {left} {z = pos n} b = let h = b.in_range in cc
under_zero {bytes} {left} {z = negsuc n} b =
    let less : n < 2 ^ 127 = ltb-true n (2 ^ 127) b.in_range in
    let most : suc n ≤ wide = omega arith in
    (n, refl, less, record { in_range = le-leb (suc n) wide most; text = b.text; over = b.over })

-- a number that is too large is the only one there
pub too_large : (bytes : List ℕ) {left : List ℕ} (at : ℕ) {size end : ℕ} {z : ℤ}
    → StandsAt (naturals wide) bytes at size end → (size < 2 ^ 127 → ⊥)
    → BeginsWith integers_from_zero (drop at bytes) z left → ⊥
too_large bytes {left} at {size} {end} {z} s large b =
    let n = from_zero b in
    let same = wide_one (drop at bytes) size n.0 (drop end bytes) left s.begins n.3 in
    large (subst (λ m. m < 2 ^ 127) (sym same.0) n.2)

pub too_low : (bytes : List ℕ) {left : List ℕ} (at : ℕ) {size end : ℕ} {z : ℤ}
    → StandsAt (naturals wide) bytes at size end → ((0 < size) × (size ≤ 2 ^ 127) → ⊥)
    → BeginsWith sizes_below_zero (drop at bytes) z left → ⊥
too_low bytes {left} at {size} {end} {z} s large b =
    let n = under_zero b in
    let same = wide_one (drop at bytes) size (suc n.0) (drop end bytes) left s.begins n.3 in
    let is : size ≡ suc n.0 = same.0 in
    let less : n.0 < 2 ^ 127 = n.2 in
    large (omega arith, omega arith)

-- the text of a number doesn't begin with `-`
no_sign : (n : ℕ) (left : List ℕ) {rest : List ℕ} → n < 2 ^ 127 → natural_text n ++ left ≡ 45 ∷ rest
    → ⊥
no_sign n left {rest} less e =
    let small : n < 10 ^ 64 = omega arith in
    let digit : is_digit 45 ≡ true = number_first n left small e in cc

-- the two kinds of integers, by the sign in front
pub with_sign : {bytes left : List ℕ} (rest : List ℕ) {z : ℤ} → bytes ≡ 45 ∷ rest
    → BeginsWith integers bytes z left → BeginsWith sizes_below_zero rest z left
with_sign {bytes} {left} rest {z = pos n} is b =
    absurd (no_sign n left (ltb-true n (2 ^ 127) b.in_range) (sym b.text ∙ is))
with_sign {bytes} {left} rest {z = negsuc n} is b =
    let text : 45 ∷ rest ≡ 45 ∷ (natural_text (suc n) ++ left) = sym is ∙ b.text in
    record { in_range = b.in_range; text = cc; over = b.over }

pub without_sign : {bytes left : List ℕ} {z : ℤ} → ((rest : List ℕ) → bytes ≡ 45 ∷ rest → ⊥)
    → BeginsWith integers bytes z left → BeginsWith integers_from_zero bytes z left
without_sign {bytes} {left} {z = pos n} never b =
    record { in_range = b.in_range; text = b.text; over = b.over }
without_sign {bytes} {left} {z = negsuc n} never b =
    absurd (never (natural_text (suc n) ++ left) b.text)

signed : {bytes left : List ℕ} (rest : List ℕ) {z : ℤ} → bytes ≡ 45 ∷ rest
    → BeginsWith sizes_below_zero rest z left → BeginsWith integers bytes z left
signed {bytes} {left} rest {z = pos n} is b = let h = b.in_range in cc
signed {bytes} {left} rest {z = negsuc n} is b =
    record { in_range = b.in_range; text = is ∙ ap (λ s. 45 ∷ s) b.text; over = b.over }

unsigned : {bytes left : List ℕ} {z : ℤ} → BeginsWith integers_from_zero bytes z left
    → BeginsWith integers bytes z left
unsigned {bytes} {left} {z = pos n} b =
    record { in_range = b.in_range; text = b.text; over = b.over }
unsigned {bytes} {left} {z = negsuc n} b = let h = b.in_range in cc

-- what is read after `-`, and where there is none
pub after_sign : (bytes : List ℕ) (at : ℕ) {after : ℕ} (r : Option (ℤ × ℕ))
    → Skips (45 ∷ []) bytes at (Some after) → Reads sizes_below_zero bytes after r
    → Reads integers bytes at r
after_sign bytes at {after} (Some read) s b = record {
  forward = omega (arith, s.0, b.forward);
  inside = b.inside;
  begins = signed (drop after bytes) s.1.1 b.begins;
}
after_sign bytes at {after} None s never =
    λ thing left b. never thing left (with_sign (drop after bytes) s.1.1 b)

pub no_sign_here : (bytes : List ℕ) (at : ℕ) (r : Option (ℤ × ℕ)) → Skips (45 ∷ []) bytes at None
    → Reads integers_from_zero bytes at r → Reads integers bytes at r
no_sign_here bytes at (Some read) s b =
    record { forward = b.forward; inside = b.inside; begins = unsigned b.begins }
no_sign_here bytes at None s never = λ thing left b. never thing left (without_sign s b)

-- bytes begin with the text of at most one integer
pub integers_unambiguous : IsUnambiguous integers
integers_unambiguous bytes (pos m) (pos n) left right b c =
    let first =
    from_zero
    (without_sign {z = pos m} (λ rest e. no_sign m left (ltb-true m (2 ^ 127) b.in_range)
    (sym b.text ∙ e)) b) in
    let second =
    from_zero
    (without_sign {z = pos n} (λ rest e. no_sign n right (ltb-true n (2 ^ 127) c.in_range)
    (sym c.text ∙ e)) c) in
    let same = wide_one bytes first.0 second.0 left right first.3 second.3 in
    (first.1 ∙ ap pos same.0 ∙ sym second.1, same.1)
integers_unambiguous bytes (pos m) (negsuc n) left right b c =
    absurd (no_sign m left (ltb-true m (2 ^ 127) b.in_range) (sym b.text ∙ c.text))
integers_unambiguous bytes (negsuc m) (pos n) left right b c =
    absurd (no_sign n right (ltb-true n (2 ^ 127) c.in_range) (sym c.text ∙ b.text))
integers_unambiguous bytes (negsuc m) (negsuc n) left right b c =
    let first = under_zero (with_sign (natural_text (suc m) ++ left) {z = negsuc m} b.text b) in
    let second = under_zero (with_sign (natural_text (suc m) ++ left) {z = negsuc n} b.text c) in
    let same =
    wide_one (natural_text (suc m) ++ left) (suc first.0) (suc second.0) left right first.3 second.3
    in
    let number : first.0 ≡ second.0 = omega (arith, same.0) in
    (first.1 ∙ ap negsuc number ∙ sym second.1, same.1)

-- an integer in range is one of i128 as the code has it
pub fits_signed : (z : ℤ) → fits_i128 z ≡ true → FitsSigned w128 z
fits_signed (pos n) h = let less : n < 2 ^ 127 = ltb-true n (2 ^ 127) h in search rules
fits_signed (negsuc n) h = let less : n < 2 ^ 127 = ltb-true n (2 ^ 127) h in search rules

pub same_integer : {bytes left : List ℕ} {z : ℤ} → BeginsWith integers bytes z left
    → to_z w128 (of_z w128 z) ≡ z
same_integer {bytes} {left} {z} b = to_z-of_z w128 z (fits_signed z b.in_range)

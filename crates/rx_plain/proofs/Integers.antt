-- Laws of the product of signed integers: with 0 and 1, reassociated, and over sums.
use Rattle.std.proofs.Common.{◌≡◌, ◌*◌, ap, ◌∙◌, arith}
use Rattle.std.proofs.lemmas.Int.{ints}
use borrow.Author.Differences.{up, down, same_in, sum_is_lem, product_is}
use lib.IntN.{ℤ, pos, ◌+ℤ◌, ◌*ℤ◌, *ℤ_comm}

-- a product with 0 is 0
pub zero-mul-int : (z : ℤ) → pos 0 *ℤ z ≡ pos 0
zero-mul-int z = same_in (pos 0 *ℤ z) (pos 0) (omega (arith, product_is (pos 0) z))

pub mul-zero-int : (z : ℤ) → z *ℤ pos 0 ≡ pos 0
mul-zero-int z = *ℤ_comm z (pos 0) ∙ zero-mul-int z

-- a product with 1 is the other factor
pub one-mul-int : (z : ℤ) → pos 1 *ℤ z ≡ z
one-mul-int z = same_in (pos 1 *ℤ z) z (omega (arith, product_is (pos 1) z))

pub mul-one-int : (z : ℤ) → z *ℤ pos 1 ≡ z
mul-one-int z = *ℤ_comm z (pos 1) ∙ one-mul-int z

-- a sum with 0 is the other summand
pub zero-add-int : (z : ℤ) → pos 0 +ℤ z ≡ z
zero-add-int z = omega (arith, ints)

pub add-zero-int : (z : ℤ) → z +ℤ pos 0 ≡ z
add-zero-int z = omega (arith, ints)

-- the product of three does not depend on which two are multiplied first
pub mul-assoc-int : (a b c : ℤ) → (a *ℤ b) *ℤ c ≡ a *ℤ (b *ℤ c)
mul-assoc-int a b c =
    let ab = product_is a b in
    let bc = product_is b c in
    same_in ((a *ℤ b) *ℤ c) (a *ℤ (b *ℤ c)) (omega (
      arith,
      product_is (a *ℤ b) c,
      product_is a (b *ℤ c),
      ap (λ n. n * up c) ab.0,
      ap (λ n. n * down c) ab.0,
      ap (λ n. n * up c) ab.1,
      ap (λ n. n * down c) ab.1,
      ap (λ n. up a * n) bc.0,
      ap (λ n. down a * n) bc.0,
      ap (λ n. up a * n) bc.1,
      ap (λ n. down a * n) bc.1,
    ))

-- a factor goes into both summands
pub mul-add-int : (a b c : ℤ) → a *ℤ (b +ℤ c) ≡ a *ℤ b +ℤ a *ℤ c
mul-add-int a b c = same_in (a *ℤ (b +ℤ c)) (a *ℤ b +ℤ a *ℤ c) (omega (
  arith,
  product_is a (b +ℤ c),
  product_is a b,
  product_is a c,
  sum_is_lem (a *ℤ b) (a *ℤ c),
  ap (λ n. up a * n) (sum_is_lem b c),
  ap (λ n. down a * n) (sum_is_lem b c),
))

pub add-mul-int : (a b c : ℤ) → (a +ℤ b) *ℤ c ≡ a *ℤ c +ℤ b *ℤ c
add-mul-int a b c = *ℤ_comm (a +ℤ b) c ∙ mul-add-int c a b ∙ (λ i. *ℤ_comm c a i +ℤ *ℤ_comm c b i)

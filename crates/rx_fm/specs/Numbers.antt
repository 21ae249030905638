-- Greatest common divisors, and lists of integers that are combined and divided.
use Rattle.std.specs.Prelude.{ℕ, zero, suc, ◌%◌, nat_eq, Bool, true, ◌&&◌, if◌then◌else◌, List, [], ◌∷◌, map, ℤ, pos, ◌+ℤ◌, ◌*ℤ◌, unsigned_abs}
use Rattle.std.specs.List.{list_all}
use Rattle.rx_poly.specs.Limits.{fits_i128}
use Rattle.rx_poly.specs.Value.{quotient}

-- Euclid's rule, used at most n times: it leads from two numbers to the second and the remainder of
-- the first by it
unfoldable pub euclid : ℕ → ℕ → ℕ → ℕ
euclid zero a b = a
euclid (suc n) a b = if nat_eq b 0 then a else euclid n b (a % b)

-- the greatest common divisor; the second number falls each time, so it is 0 after b times
abbrev pub gcd : ℕ → ℕ → ℕ
gcd a b = euclid b a b

-- the greatest common divisor of g and of the sizes of the numbers
abbrev pub gcd_with : ℕ → List ℤ → ℕ
gcd_with g [] = g
gcd_with g (x ∷ xs) = gcd_with (gcd g (unsigned_abs x)) xs

-- the number without its sign is one of i128
abbrev pub size_fits : ℤ → Bool
size_fits x = fits_i128 (pos (unsigned_abs x))

-- all of them are
abbrev pub sizes_fit : List ℤ → Bool
sizes_fit xs = list_all size_fits xs

-- d divides each of the numbers
abbrev pub divides_all : ℕ → List ℤ → Bool
divides_all d xs = list_all (λ x. nat_eq (unsigned_abs x % d) 0) xs

-- each number divided by d, where d divides them all; by 0 only 0 is divided, and stays 0
abbrev pub quotients : ℕ → List ℤ → List ℤ
quotients d xs = map (λ x. quotient x (pos d)) xs

-- whether x times k, y times l and their sum are numbers of i128
abbrev pub sum_within : ℤ → ℤ → ℤ → ℤ → Bool
sum_within k x l y = fits_i128 (x *ℤ k) && (fits_i128 (y *ℤ l) && fits_i128 (x *ℤ k +ℤ y *ℤ l))

-- k times the numbers of the first list plus l times those of the second
abbrev pub combined : ℤ → List ℤ → ℤ → List ℤ → List ℤ
combined k [] l ys = []
combined k (x ∷ xs) l [] = []
combined k (x ∷ xs) l (y ∷ ys) = (x *ℤ k +ℤ y *ℤ l) ∷ combined k xs l ys

-- whether each of those products and sums is a number of i128
abbrev pub combined_within : ℤ → List ℤ → ℤ → List ℤ → Bool
combined_within k [] l ys = true
combined_within k (x ∷ xs) l [] = true
combined_within k (x ∷ xs) l (y ∷ ys) = sum_within k x l y && combined_within k xs l ys

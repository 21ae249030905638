-- What the counted evaluation of an expression and the counted execution of a statement lead to.
use Rattle.std.specs.Prelude.{ℕ, ◌^◌, Bool, nat_lt, if◌then◌else◌, ℤ, pos, negsuc}

-- where a part of a run leads: to a value, with the number of rounds that are left; or to what ends
-- the whole run: the division error, 'more rounds are needed', and 'over', where the exact result
-- of an arithmetic operator is no number of i128
pub data Run (A : Type 0) : Type 0 where
  Value : A → ℕ → Run A
  DivisionError : Run A
  More : Run A
  Over : Run A

-- goes on with a value and the rounds that are left; everything else ends what is run
abbrev pub on_value : {A B : Type 0} → Run A → (A → ℕ → Run B) → Run B
on_value (Value x left) go_on = go_on x left
on_value DivisionError go_on = DivisionError
on_value More go_on = More
on_value Over go_on = Over

-- the number is one of i128
abbrev pub fits_i128 : ℤ → Bool
fits_i128 (pos n) = nat_lt n (2 ^ 127)
fits_i128 (negsuc n) = nat_lt n (2 ^ 127)

-- what an arithmetic operator leads to, from its exact result
abbrev pub exact : ℤ → ℕ → Run ℤ
exact x left = if fits_i128 x then Value x left else Over

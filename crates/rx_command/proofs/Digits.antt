-- Decimal digits, as they are read.
use Rattle.std.specs.Prelude.{◌≡◌, ◌≤◌, ◌<◌, ◌^◌, ℕ, true, List, [], ◌∷◌, length, Result, Ok, Err, MatchResult}
use Rattle.std.proofs.Common.{rules, arith, refl}
use Rattle.std.specs.Str.{all_ascii_digits}
use Rattle.std.specs.Str.Parse.{ParsesUnsigned, digits_value}
use Rattle.std.proofs.lemmas.Str.Parse.{IsNumeralModel, numerals_by_value, parse_digits, tells_all_ascii_digits}
use Rattle.rx_command.specs.Numbers.{is_decimal}

own : IsNumeralModel (λ ds. all_ascii_digits ds ≡ true) (digits_value 10)
own = numerals_by_value _ tells_all_ascii_digits

pub are_digits : (text : List ℕ) → is_decimal text ≡ true → all_ascii_digits text ≡ true
are_digits [] e = refl
are_digits (d ∷ []) e = e
are_digits (d ∷ f ∷ ds) e = grind rules

pub some_digit : (text : List ℕ) → is_decimal text ≡ true → 0 < length text
some_digit [] e = search rules
some_digit (d ∷ ds) e = omega arith

-- digits that can't be read are too large
pub too_large : {E : Type 0} (text : List ℕ) (e : E) → ParsesUnsigned 32 10 text (Err e) →
    is_decimal text ≡ true
    → 2 ^ 32 ≤ digits_value 10 text
too_large text e h is =
    let p : ¬ ((0 < length text) × (digits_value 10 text < 2 ^ 32)) =
    parse_digits own 32 text (Err e) h (are_digits text is) in
    let q : digits_value 10 text < 2 ^ 32 → ⊥ = λ l. p (some_digit text is, l) in
    omega (arith, q)

pub read_digits : {E : Type 0} (text : List ℕ) (r : Result ℕ E) → ParsesUnsigned 32 10 text r →
    is_decimal text ≡ true
    → MatchResult r (λ n. n ≡ digits_value 10 text) (λ _. 2 ^ 32 ≤ digits_value 10 text)
read_digits {E} text (Ok n) h e = (parse_digits own {E = E} 32 text (Ok n) h (are_digits text e)).1
read_digits text (Err x) h e = too_large text x h e

-- Laws of tests joined by `and` and `or`: neutral tests, other groupings, what each side says.
-- Those with names of their own in std (`or_left`, `and_from`, `not-true`, ..) aren't repeated here.
use Rattle.std.proofs.Common.{◌≡◌, ◌∙◌, ap, sym, refl, Bool, true, false, ◌&&◌, ◌||◌}
use Rattle.std.specs.Bool.{OnTrue}

-- a side that decides nothing
pub or_false : (a : Bool) → (a || false) ≡ a
or_false true = refl
or_false false = refl

pub and_true : (a : Bool) → (a && true) ≡ a
and_true true = refl
and_true false = refl

-- a side that decides alone
pub or_true : (a : Bool) → (a || true) ≡ true
or_true true = refl
or_true false = refl

pub and_false : (a : Bool) → (a && false) ≡ false
and_false true = refl
and_false false = refl

-- three tests, grouped otherwise
pub or_assoc : (a b c : Bool) → ((a || b) || c) ≡ (a || (b || c))
or_assoc true b c = refl
or_assoc false b c = refl

pub and_assoc : (a b c : Bool) → ((a && b) && c) ≡ (a && (b && c))
and_assoc true b c = refl
and_assoc false b c = refl

pub or_grouped : (a b c : Bool) → (a || (b || c)) ≡ ((a || b) || c)
or_grouped a b c = sym (or_assoc a b c)

pub and_grouped : (a b c : Bool) → (a && (b && c)) ≡ ((a && b) && c)
and_grouped a b c = sym (and_assoc a b c)

-- two pairs of tests, paired otherwise
pub and_exchange : (a b c d : Bool) → ((a && b) && (c && d)) ≡ ((a && c) && (b && d))
and_exchange false b c d = refl
and_exchange true true c d = refl
and_exchange true false true d = refl
and_exchange true false false d = refl

-- where both hold, each does
pub and_first : (a b : Bool) → (a && b) ≡ true → a ≡ true
and_first true b h = refl
and_first false b h = h

pub and_second : (a b : Bool) → (a && b) ≡ true → b ≡ true
and_second true b h = h
and_second false b h = cc

-- what one of two says, both say
pub either_first : (a b n : Bool) → a ≡ true → n ≡ a → n ≡ (a || b)
either_first a b n e f = f ∙ e ∙ ap (λ x. x || b) (sym e)

pub either_second : (a b n : Bool) → a ≡ false → n ≡ b → n ≡ (a || b)
either_second a b n e f = f ∙ ap (λ x. x || b) (sym e)

-- what a test that passed says
pub passed : {P : Type 0} (b : Bool) → b ≡ true → OnTrue b P → P
passed true e h = h
passed false e h = cc

-- Runs that go on after one another.
use Rattle.std.proofs.Common.{◌≡◌, ℕ, refl}
use Rattle.c_meaning.specs.Runs.{Run, Value, DivisionError, More, Over, on_value}

-- it doesn't matter which two of three parts are taken together
pub on_value-on_value : {A B C : Type 0} (r : Run A) (f : A → ℕ → Run B) (g : B → ℕ → Run C)
    → on_value (on_value r f) g ≡ on_value r (λ x m. on_value (f x m) g)
on_value-on_value (Value x m) f g = refl
on_value-on_value DivisionError f g = refl
on_value-on_value More f g = refl
on_value-on_value Over f g = refl

-- what goes on in the same way
pub on_value-same : {A B : Type 0} (r : Run A) (f g : A → ℕ → Run B) →
    ((x : A) (m : ℕ) → f x m ≡ g x m)
    → on_value r f ≡ on_value r g
on_value-same (Value x m) f g same = same x m
on_value-same DivisionError f g same = refl
on_value-same More f g same = refl
on_value-same Over f g same = refl

-- two parts, of which the second goes on in the same way as the one part
pub on_value-then : {A B C : Type 0} (r : Run A) (f : A → ℕ → Run B) (g : B → ℕ → Run C)
    (h : A → ℕ → Run C)
    → ((x : A) (m : ℕ) → on_value (f x m) g ≡ h x m) → on_value (on_value r f) g ≡ on_value r h
on_value-then (Value x m) f g h same = same x m
on_value-then DivisionError f g h same = refl
on_value-then More f g h same = refl
on_value-then Over f g h same = refl

-- Steps of which each found something, and tests of which each passed.
use Rattle.std.proofs.Common.{◌≡◌, ℕ, Option, Some, None, Ok, Err, refl}
use Rattle.std.specs.Option.{option_or}
use Rattle.c_names.specs.Steps.{Checked, and_then}
use Rattle.c_names.specs.declared.error.ScopeEnd.{ScopeEnd}

-- what was found is one thing
pub same_Ok : {A : Type 0} (x y : A) → ◌≡◌ {A = Checked A} (Ok x) (Ok y) → x ≡ y
same_Ok x y e = cc

-- a fault is nothing found
pub no_fault : {A P : Type 0} (fault : ScopeEnd) (y : A) → ◌≡◌ {A = Checked A} (Err fault) (Ok y) →
    P
no_fault fault y e = absurd (let no : ⊥ = cc in no)

-- a step that was followed by another has found something
pub found : {A B : Type 0} (x : Checked A) (next : A → Checked B) (y : B) → and_then x next ≡ Ok y →
    (a : A) × (x ≡ Ok a) × (next a ≡ Ok y)
found (Ok a) next y is = (a, refl, is)
found (Err fault) next y is = no_fault fault y is

-- where neither of two is there, the first isn't, and the second isn't
pub none_first : (x y : Option ℕ) → option_or x y ≡ None → x ≡ None
none_first None y is = refl
none_first (Some a) y is = is

pub none_second : (x y : Option ℕ) → option_or x y ≡ None → y ≡ None
none_second None y is = is
none_second (Some a) y is = absurd (let no : ⊥ = cc in no)

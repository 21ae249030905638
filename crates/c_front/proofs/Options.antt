-- Two things that are said of one option, or of one result.
use Rattle.std.proofs.Common.{◌≡◌, Option, Some, None, Result, Ok, Err, sym, ◌∙◌}
use Rattle.std.proofs.lemmas.Option.{none-some}

-- an option that is there isn't none
pub none_some : {A : Type 0} {o : Option A} {x : A} → o ≡ None → o ≡ Some x → ⊥
none_some p q = none-some _ (sym p ∙ q)

-- an option has one value
pub same_some : {A : Type 0} {o : Option A} {x y : A} → o ≡ Some x → o ≡ Some y → x ≡ y
same_some p q = let both : Some _ ≡ Some _ = sym p ∙ q in cc

-- what is both an answer and a fault
pub clash : {A E : Type 0} {r : Result A E} {x : A} {e : E} → r ≡ Ok x → r ≡ Err e → ⊥
clash p q = let no : Ok _ ≡ Err _ = sym p ∙ q in cc

pub same_ok : {A E : Type 0} {r : Result A E} {x y : A} → r ≡ Ok x → r ≡ Ok y → x ≡ y
same_ok p q = let both : Ok _ ≡ Ok _ = sym p ∙ q in cc

pub same_err : {A E : Type 0} {r : Result A E} {d e : E} → r ≡ Err d → r ≡ Err e → d ≡ e
same_err p q = let both : Err _ ≡ Err _ = sym p ∙ q in cc

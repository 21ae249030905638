-- What was formed within limits, as an option.
use Rattle.std.proofs.Common.{◌≡◌, ◌∙◌, ap, subst, sym, refl, Bool, true, false, Result, Ok, Err, Option, Some, None, IfOk, IfSome, MatchOption}
use Rattle.rx_plain.specs.Formed.{Formed, Forms}
use Rattle.rx_plain.specs.declared.no_memory.NoMemory.{NoMemory}
use Rattle.rx_poly.specs.declared.poly_end.PolyEnd.{PolyEnd}
use Rattle.rx_poly.specs.declared.poly_end.PolyEnd.TheVariants.{Large}
use Rattle.rx_relations.specs.Applying.{form_where, form_within}

-- the option of a result is that of what it forms
pub applied : {A : Type 0} (f : Formed A) (r : Result A PolyEnd) (q : Result (Option A) NoMemory) →
    Forms Large r f → IfOk q (λ o. MatchOption o (r ≡ Err Large) (λ x. r ≡ Ok x)) →
    IfOk q (λ o. o ≡ form_within f)
applied f r (Err e) h g = tt
applied f r (Ok None) h g =
    let w : f.within ≡ false = (subst (λ s. Forms Large s f) g h) refl in
    sym (ap (λ b. form_where b f.form) w)
applied f r (Ok (Some x)) h g =
    let p = subst (λ s. Forms Large s f) g h in
    ap Some p.0 ∙ sym (ap (λ b. form_where b f.form) p.1)

same_form : {A : Type 0} (b : Bool) (x y : A) (P : A → Type 0) → Some x ≡ form_where b y → P y → P x
same_form true x y P e h = let same : y ≡ x = cc in subst P same h
same_form false x y P e h = cc

-- what holds of the form holds of what is answered
pub holds_within : {A E : Type 0} (f : Formed A) (q : Result (Option A) E) (P : A → Type 0) →
    P f.form → IfOk q (λ o. o ≡ form_within f) → IfOk q (λ o. IfSome o P)
holds_within f (Err e) P h g = tt
holds_within f (Ok None) P h g = tt
holds_within f (Ok (Some x)) P h g = same_form f.within x f.form P g h

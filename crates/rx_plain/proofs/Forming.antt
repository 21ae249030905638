-- What is formed in one step after another: the first step beyond the limits decides, and one
-- within them leaves it to the rest.
use Rattle.std.proofs.Common.{◌≡◌, true, false, ◌&&◌, Result, Ok, Err, IfOk, subst, sym}
use Rattle.std.proofs.lemmas.Bool.{and_left}
use Rattle.rx_plain.specs.Formed.{Formed, Forms, ◌>>=◌}

-- a first step beyond the limits decides
pub then_false : {A B : Type 0} (f : Formed A) (g : A → Formed B) → f.within ≡ false →
    (f >>= g).within ≡ false
then_false f g h = and_left f.within (g f.form).within h

-- after a first step within them it is as the second
pub then_true : {A B : Type 0} (f : Formed A) (g : A → Formed B) → f.within ≡ true → (f >>= g) ≡
    g f.form
then_true f g h = λ i. record { form = (g f.form).form; within = h i && (g f.form).within }

-- a fact of the form is one of the result
pub value_formed : {A E : Type 0} (large : E) (f : Formed A) (r : Result A E) (P : A → Type 0) →
    P f.form → Forms large r f → IfOk r P
value_formed large f (Ok x) P h e = subst P (sym e.0) h
value_formed large f (Err e) P h g = tt

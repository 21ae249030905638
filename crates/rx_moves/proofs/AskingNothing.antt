-- Steps of some kinds ask nothing.
use Rattle.std.proofs.Common.{◌≡◌, ap, subst, Bool, true, false, Ok, Err, List, []}
use Rattle.std.specs.Prelude.{if◌then◌else◌}
use Rattle.rx_plain.specs.Formed.{Formed}
use Rattle.rx_row.specs.declared.row.Row.{Row}
use Rattle.rx_inference.specs.Forming.{Forming, limited, provided, ◌>>=◌}
use Rattle.rx_inference.specs.Judging.{Shown, judged}
use Rattle.rx_inference.specs.declared.form_end.FormEnd.{FormEnd}
use Rattle.rx_inference.specs.declared.form_end.FormEnd.TheVariants.{WrongShape, Large}
use Rattle.rx_inference.specs.declared.formed_step.Asked.{Asked}
use Rattle.rx_inference.specs.declared.formed_step.Asked.TheVariants.{Rows}
use Rattle.rx_inference.specs.declared.formed_step.FormedStep.{FormedStep}

-- what is formed asks nothing
abbrev pub AsksNothing : Forming FormedStep → Type 0
AsksNothing x = (f : FormedStep) → x ≡ Ok f → f.asked ≡ Rows []

-- a refusal asks nothing
pub refused : (e : FormEnd) → AsksNothing (Err e)
refused e f h = cc

-- nor does a step that is formed so
pub found : (f : FormedStep) → f.asked ≡ Rows [] → AsksNothing (Ok f)
found f nothing g h =
    let is : f ≡ g = cc in subst (λ (x : FormedStep). x.asked ≡ Rows []) is nothing

-- nor does what comes after another thing, where that asks nothing
pub after : {A : Type 0} (x : Forming A) (next : A → Forming FormedStep) →
    ((y : A) → AsksNothing (next y)) → AsksNothing (x >>= next)
after (Ok y) next later = later y
after (Err e) next later = refused e

-- nor does what is formed under a test
pub tested : (b : Bool) (x : Forming FormedStep) → AsksNothing x → AsksNothing (provided b x)
tested true x here = here
tested false x here = refused WrongShape

-- nor within limits
pub kept : (made : Formed FormedStep) → made.form.asked ≡ Rows [] → AsksNothing (limited made)
kept made nothing = by made.within
  where
    by : (b : Bool) → AsksNothing (if b then Ok made.form else Err Large)
    by true = found made.form nothing
    by false = refused Large

-- where nothing is asked, no certificates show it
pub none_shows : (old new : List Row) (f : FormedStep) → f.asked ≡ Rows [] →
    judged old new f.asked [] ≡ Shown
none_shows old new f e = ap (λ (a : Asked). judged old new a []) e

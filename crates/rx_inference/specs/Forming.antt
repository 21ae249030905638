-- What forming a step answers: what is formed, or the first reason why it isn't.
use Rattle.std.specs.Prelude.{◌≡◌, ◌≢◌, Bool, true, false, if◌then◌else◌, Option, Some, None, Result, Ok, Err}
use Rattle.rx_plain.specs.Formed.{Formed}
use Rattle.rx_poly.specs.declared.poly_end.PolyEnd.{PolyEnd}
use Rattle.rx_poly.specs.declared.poly_end.PolyEnd.TheVariants as poly_end
use Rattle.rx_inference.specs.declared.form_end.FormEnd.{FormEnd}
use Rattle.rx_inference.specs.declared.form_end.FormEnd.TheVariants.{WrongShape, Large, NoMemory}

-- what is found, or why it isn't
abbrev pub Forming : Type 0 → Type 0
Forming A = Result A FormEnd

-- goes on with what is found
infixl 10 ◌>>=◌
abbrev pub ◌>>=◌ : {A B : Type 0} → Forming A → (A → Forming B) → Forming B
Ok x >>= next = next x
Err e >>= next = Err e

-- what may be missing
abbrev pub found_or : {A : Type 0} → FormEnd → Option A → Forming A
found_or end None = Err end
found_or end (Some x) = Ok x

-- what needs a test: without it the step has the wrong shape
abbrev pub provided : {A : Type 0} → Bool → Forming A → Forming A
provided true next = next
provided false next = Err WrongShape

-- what keeps the limits
abbrev pub limited : {A : Type 0} → Formed A → Forming A
limited f = if f.within then Ok f.form else Err Large

-- the end of a step by that of a polynomial
abbrev pub form_end : PolyEnd → FormEnd
form_end poly_end.Large = Large
form_end poly_end.NoMemory = NoMemory

-- the answer is this, apart from memory
abbrev pub Gives : {A : Type 0} → Result A FormEnd → Forming A → Type 0
Gives (Ok x) answer = answer ≡ Ok x
Gives (Err e) answer = e ≢ NoMemory → answer ≡ Err e

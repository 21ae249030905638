-- What is formed within limits, as an option.
use Rattle.std.specs.Prelude.{Bool, true, false, Option, Some, None}
use Rattle.rx_plain.specs.Formed.{Formed}

-- the form, where the test holds
abbrev pub form_where : {A : Type 0} → Bool → A → Option A
form_where true x = Some x
form_where false x = None

-- the form, where it and all that led to it keep the limits
abbrev pub form_within : {A : Type 0} → Formed A → Option A
form_within f = form_where f.within f.form

-- A piece of code after another.
use Rattle.std.proofs.Common.{◌≡◌, ◌∙◌, ap, ◌&&◌, Bool, true, false, Result, Ok, Err, length, append_assoc, length-append}
use Rattle.std.proofs.lemmas.Bool.{and_from, and_left}
use Rattle.std.proofs.lemmas.List.{append-nil}
use Rattle.std.specs.Prelude.{IsErrAnd}
use Rattle.rx_plain.specs.Formed.{Formed}
use Rattle.rx_poly.specs.declared.body.Body.{Body}
use Rattle.rx_poly.specs.declared.poly_end.PolyEnd.{PolyEnd}
use Rattle.rx_poly.specs.declared.poly_end.PolyEnd.TheVariants.{Large}
use Rattle.rx_code.specs.Expressions.{Valued}
use Rattle.rx_code.specs.Pieces.{after, append_code, no_code}
use Rattle.rx_code.specs.declared.code.Code.{Code}
use Rattle.rx_code.specs.declared.point.Point.{Point}
use Rattle.rx_exprs.specs.Compiles.{CompilesCode, CompilesValue}

-- pieces are joined in any grouping
pub append_code_assoc : (b c d : Code) → append_code (append_code b c) d ≡
    append_code b (append_code c d)
append_code_assoc b c d i = record {
  opened = append_assoc b.opened c.opened d.opened i;
  instructions = append_assoc b.instructions c.instructions d.instructions i;
  heads = append_assoc b.heads c.heads d.heads i;
  entries = append_assoc b.entries c.entries d.entries i;
}

-- no piece adds nothing
pub append-no_code : (c : Code) → append_code c no_code ≡ c
append-no_code c i =
    record {
      opened = append-nil c.opened i;
      instructions = append-nil c.instructions i;
      heads =
          append-nil c.heads i;
      entries = append-nil c.entries i;
    }

-- how many symbols there are after a piece
pub opened-append : (b c : Code) → length (append_code b c).opened ≡ after (length b.opened) c
opened-append b c = length-append b.opened c.opened

pub second_false : (x y : Bool) → x ≡ true → y ≡ false → (x && y) ≡ false
second_false x y p q = ap (λ (b : Bool). b && y) p ∙ q

-- a value after a piece of code
abbrev pub after_code : Code → Bool → Valued → Valued
after_code c within v =
    record { code = append_code c v.code; at = v.at; value = v.value; within = within && v.within }

pub then_value : (old two new c : Code) (within : Bool) (v : Valued)
    (result : Result (Point × Body) PolyEnd) → two ≡ append_code old c → within ≡ true
    → CompilesValue two new result v → CompilesValue old new result (after_code c within v)
then_value old two new c within v (Ok r) code kept is = (
  is.0 ∙ ap (λ (b : Code). append_code b v.code) code ∙ append_code_assoc old c v.code,
  is.1,
  is.2,
  and_from within v.within kept is.3,
)
then_value old two new c within v (Err e) code kept is =
    λ large. second_false within v.within kept (is large)

-- one piece after another
abbrev pub followed : Formed Code → Formed Code → Formed Code
followed c d = record { form = append_code c.form d.form; within = c.within && d.within }

pub then : (old one new : Code) (c d : Formed Code) (result : Result (Unit {0}) PolyEnd) →
    CompilesCode old one (Ok tt) c → CompilesCode one new result d
    → CompilesCode old new result (followed c d)
then old one new c d (Ok r) first second = (
  second.0 ∙ ap (λ (x : Code). append_code x d.form) first.0 ∙
      append_code_assoc old c.form d.form,
  and_from c.within d.within first.1 second.1,
)
then old one new c d (Err e) first second =
    λ large. second_false c.within d.within first.1 (second large)

-- the first of them fails
pub failed : (old new : Code) (c d : Formed Code) (e : PolyEnd) → (e ≡ Large → c.within ≡ false) →
    CompilesCode old new (Err e) (followed c d)
failed old new c d e f = λ large. and_left c.within d.within (f large)

-- a call fails, and Large only where something is beyond the limits
abbrev pub Fails : {A : Type 0} → Result A PolyEnd → Bool → Type 0
Fails r within = IsErrAnd r (λ e. e ≡ Large → within ≡ false)

-- a part is beyond the limits only where the whole is
pub fails_code : (old new : Code) (r : Result (Unit {0}) PolyEnd) (part : Bool)
    (whole : Formed Code) → Fails r part → (part ≡ false → whole.within ≡ false) →
    CompilesCode old new r whole
fails_code old new (Ok x) part whole f beyond = absurd f
fails_code old new (Err e) part whole f beyond = λ large. beyond (f large)

pub fails_value : (old new : Code) (r : Result (Point × Body) PolyEnd) (part : Bool)
    (whole : Valued) → Fails r part → (part ≡ false → whole.within ≡ false) →
    CompilesValue old new r whole
fails_value old new (Ok x) part whole f beyond = absurd f
fails_value old new (Err e) part whole f beyond = λ large. beyond (f large)

-- Ground terms as terms of numbers: they mean what they were written from, and fit where it does.
use Rattle.std.proofs.Common.{◌≡◌, ◌∙◌, ap, sym, refl, Bool, true, false, ℕ, Option, Some, None, List, [], ◌∷◌, length, map, ℤ}
use Rattle.std.specs.Prelude.{slice_get, nat_eq, nat_le}
use Rattle.std.specs.Option.{option_map}
use Rattle.std.proofs.lemmas.Bool.{and_from, eq-eqb, le-leb}
use Rattle.std.proofs.lemmas.List.{length-map}
use Rattle.std.proofs.lemmas.Option.{slice_get-map}
use Rattle.rx_poly.specs.Constants.{number}
use Rattle.rx_poly.proofs.Constants.{value-number}
use Rattle.rx_rewriting.specs.Terms as stack
use Rattle.rx_rewriting.specs.Terms.{Ground, Symbol, Declares, Fits, IsResult}
use Rattle.rx_term.specs.Fitting.{is_alike, is_declared, term_fits}
use Rattle.rx_term.specs.Meaning.{IsRedex, ReturnRedex, FailRedex, values, ground_at, signature, symbol_of}
use Rattle.rx_term.specs.declared.rule_set.RuleParts.{RuleParts}
use Rattle.rx_term.specs.declared.rule_set.SymInfo.{SymInfo}
use Rattle.rx_term.specs.declared.term.Sym.{Sym}
use Rattle.rx_term.specs.declared.term.Term.{Term}
use Rattle.rx_term.specs.declared.term.Term.TheVariants.{Return, Fail, Call, Frame}
use Rattle.rx_term.proofs.Equations.{fits-Return, fits-Fail, fits-Call, fits-Frame, ground-Return, ground-Fail, ground-Call, ground-Frame}
use Rattle.rx_term.proofs.ShapeLaws.{declared_so}

-- the symbol of that number
abbrev pub symbol : ℕ → Sym
symbol f = record { 0 = f }

-- the ground term as a term
abbrev pub written : Ground → Term
written (stack.Return k) = Return (number k)
written (stack.Fail c) = Fail c
written (stack.Call f xs) = Call (symbol f) (map number xs)
written (stack.Frame f xs s) = Frame (symbol f) (map number xs) (written s)

pub values-numbers : (a : ℕ → ℤ) (xs : List ℤ) → values a (map number xs) ≡ xs
values-numbers a [] = refl
values-numbers a (x ∷ xs) = (λ i. value-number a x i ∷ values-numbers a xs i)

-- they mean the ground term that they were written from
pub ground-written : (a : ℕ → ℤ) (s : Ground) → ground_at a (written s) ≡ s
ground-written a (stack.Return k) = ground-Return a (number k) ∙ ap stack.Return (value-number a k)
ground-written a (stack.Fail c) = ground-Fail a c
ground-written a (stack.Call f xs) =
    ground-Call a (symbol f) (map number xs) ∙ ap (stack.Call f) (values-numbers a xs)
ground-written a (stack.Frame f xs s) =
    ground-Frame a (symbol f) (map number xs) (written s) ∙
    ap (λ zs. stack.Frame f zs (ground_at a (written s))) (values-numbers a xs)
    ∙ ap (stack.Frame f xs) (ground-written a s)

pub alike_itself : (b : Bool) → is_alike b b ≡ true
alike_itself true = refl
alike_itself false = refl

known_back : (o : Option SymInfo) (b : Bool) (n : ℕ) → option_map symbol_of o ≡
    Some (record { arity = n; is_frame = b }) → declared_so o b n ≡ true
known_back None b n h = cc
known_back (Some s) b n h =
    let whole : symbol_of s ≡ record { arity = n; is_frame = b } = cc in
    let arity : s.arity ≡ n = ap (λ (x : Symbol). x.arity) whole in
    let frame : s.frame ≡ b = ap (λ (x : Symbol). x.is_frame) whole in
    and_from (is_alike s.frame b) (nat_eq s.arity n)
    (ap (is_alike s.frame) (sym frame) ∙ alike_itself s.frame) (eq-eqb s.arity n arity)

declared_back : (parts : RuleParts) (f : ℕ) (b : Bool) (xs : List ℤ) →
    Declares (signature parts) f b (length xs) →
    is_declared parts.symbols (symbol f) b (length (map number xs)) ≡ true
declared_back parts f b xs h =
    ap (is_declared parts.symbols (symbol f) b) (length-map xs number)
    ∙ known_back (slice_get parts.symbols f) b (length xs)
    (sym (slice_get-map symbol_of parts.symbols f) ∙ h)

-- and fit where it does
pub written_fits : (parts : RuleParts) (s : Ground) → Fits (signature parts) s →
    term_fits parts (written s) ≡ true
written_fits parts (stack.Return k) fits = fits-Return parts (number k)
written_fits parts (stack.Fail c) fits =
    fits-Fail parts c ∙ and_from (nat_le 1 c) (nat_le c parts.fails) (le-leb 1 c fits.0)
    (le-leb c parts.fails fits.1)
written_fits parts (stack.Call f xs) fits =
    fits-Call parts (symbol f) (map number xs) ∙ declared_back parts f false xs fits
written_fits parts (stack.Frame f xs s) fits =
    fits-Frame parts (symbol f) (map number xs) (written s)
    ∙ and_from (is_declared parts.symbols (symbol f) true (length (map number xs)))
    (term_fits parts (written s)) (declared_back parts f true xs fits.0)
    (written_fits parts s fits.1)

-- over a result it is a redex
pub written_over_result : (f : ℕ) (xs : List ℤ) (s : Ground) → IsResult s →
    IsRedex (written (stack.Frame f xs s))
written_over_result f xs (stack.Return k) result = ReturnRedex (symbol f) (map number xs) (number k)
written_over_result f xs (stack.Fail c) result = FailRedex (symbol f) (map number xs) c
written_over_result f xs (stack.Call g ys) result = absurd result
written_over_result f xs (stack.Frame g ys s) result = absurd result

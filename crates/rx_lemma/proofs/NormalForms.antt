-- Whether the polynomials of a term are normal forms, by its form.
use Rattle.std.proofs.Common.{◌≡◌, ◌∙◌, ap, true, ◌&&◌, refl, ℕ, List}
use Rattle.std.specs.List.{list_all}
use Rattle.std.proofs.lemmas.Bool.{and_from}
use Rattle.std.proofs.lemmas.List.Folds.{list_all-append}
use Rattle.rx_poly.specs.Normal.{is_poly}
use Rattle.rx_poly.specs.declared.body.Body.{Body}
use Rattle.rx_term.proofs.Equations.{arguments-Return, arguments-Fail, arguments-Call, arguments-Frame}
use Rattle.rx_term.specs.Variables.{arguments_of}
use Rattle.rx_term.specs.declared.term.Sym.{Sym}
use Rattle.rx_term.specs.declared.term.Term.{Term}
use Rattle.rx_term.specs.declared.term.Term.TheVariants.{Return, Fail, Call, Frame}

pub in_return : (p : Body) → is_poly p ≡ true → list_all is_poly (arguments_of (Return p)) ≡ true
in_return p h = ap (list_all is_poly) (arguments-Return p) ∙ and_from (is_poly p) true h refl

pub in_fail : (c : ℕ) → list_all is_poly (arguments_of (Fail c)) ≡ true
in_fail c = ap (list_all is_poly) (arguments-Fail c)

pub in_call : (f : Sym) (ps : List Body) → list_all is_poly ps ≡ true →
    list_all is_poly (arguments_of (Call f ps)) ≡ true
in_call f ps h = ap (list_all is_poly) (arguments-Call f ps) ∙ h

-- a frame over a term: what is left to see is the term
pub after_frame : (f : Sym) (ps : List Body) (t : Term) → list_all is_poly ps ≡ true →
    list_all is_poly (arguments_of (Frame f ps t)) ≡ list_all is_poly (arguments_of t)
after_frame f ps t h =
    ap (list_all is_poly) (arguments-Frame f ps t) ∙ list_all-append is_poly ps (arguments_of t) ∙
    ap (λ b. b && list_all is_poly (arguments_of t)) h

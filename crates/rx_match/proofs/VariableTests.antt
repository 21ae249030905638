-- The variables of lone variables and of calls, as tests see them.
use Rattle.std.proofs.Common.{◌≡◌, ◌∙◌, ap, sym, refl, ℕ, Bool, true, false, List}
use Rattle.rx_poly.specs.Constants.{variable}
use Rattle.rx_poly.specs.declared.body.Body.{Body}
use Rattle.rx_poly_laws.specs.Tests.{passes}
use Rattle.rx_poly_laws.proofs.TestLaws.{passes-variable}
use Rattle.rx_term.proofs.Equations.{arguments-Call}
use Rattle.rx_term.specs.Variables.{arguments_of}
use Rattle.rx_term.specs.declared.term.Sym.{Sym}
use Rattle.rx_term.specs.declared.term.Term.{Term}
use Rattle.rx_term.specs.declared.term.Term.TheVariants.{Call}
use Rattle.rx_match.proofs.OwnLaws.{variable_test}

-- a variable alone passes where it does
pub variable_passes : (test : ℕ → Bool) (p : Body) (n : ℕ) → p ≡ variable n →
    test n ≡ passes test p
variable_passes test p n same =
    by (test n) (passes test (variable n)) refl refl ∙ ap (passes test) (sym same)
  where
    by : (b c : Bool) → test n ≡ b → passes test (variable n) ≡ c → test n ≡
        passes test (variable n)
    by true c e f = e ∙ sym (passes-variable test n e)
    by false true e f = let t : test n ≡ true = variable_test test n f in cc
    by false false e f = e ∙ sym f

-- the polynomials of a call are its arguments
pub call_arguments : (t : Term) (f : Sym) (ps qs : List Body) → t ≡ Call f ps → qs ≡ ps →
    qs ≡ arguments_of t
call_arguments t f ps qs is same = same ∙ sym (ap arguments_of is ∙ arguments-Call f ps)

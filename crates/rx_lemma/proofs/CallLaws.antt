-- The call that a term ends in, by the form of the term.
use Rattle.std.proofs.Common.{◌≡◌, ◌∙◌, refl, ℕ, Option, Some, None, List}
use Rattle.rx_poly.specs.declared.body.Body.{Body}
use Rattle.rx_term.specs.declared.term.Sym.{Sym}
use Rattle.rx_term.specs.declared.term.Term.{Term}
use Rattle.rx_term.specs.declared.term.Term.TheFolds.{fold_out-Term}
use Rattle.rx_term.specs.declared.term.Term.TheVariants.{Return, Fail, Call, Frame, outs-Return, outs-Fail, outs-Call, outs-Frame}
use Rattle.rx_lemma.specs.Calls.{Applied, call_level, call_of}

pub call-Return : (p : Body) → call_of (Return p) ≡ None
call-Return p = fold_out-Term (Option Applied) call_level (Return p) ∙ rw (outs-Return p) refl

pub call-Fail : (c : ℕ) → call_of (Fail c) ≡ None
call-Fail c = fold_out-Term (Option Applied) call_level (Fail c) ∙ rw (outs-Fail c) refl

pub call-Call : (f : Sym) (ps : List Body) → call_of (Call f ps) ≡
    Some (record { symbol = f; arguments = ps })
call-Call f ps = fold_out-Term (Option Applied) call_level (Call f ps) ∙ rw (outs-Call f ps) refl

pub call-Frame : (f : Sym) (ps : List Body) (t : Term) → call_of (Frame f ps t) ≡ call_of t
call-Frame f ps t =
    fold_out-Term (Option Applied) call_level (Frame f ps t) ∙ rw (outs-Frame f ps t) refl

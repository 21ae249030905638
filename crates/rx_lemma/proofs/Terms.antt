-- A term by its polynomials.
use Rattle.std.proofs.Common.{◌≡◌, ◌∙◌, ap, sym, refl, ℕ, Bool, true, false, ◌&&◌}
use Rattle.std.proofs.lemmas.List.Folds.{list_all-append}
use Rattle.rx_poly.specs.Variables.{uses_below}
use Rattle.rx_term.specs.Variables.{arguments_of, polys_use_below, term_uses_below}
use Rattle.rx_term.specs.declared.term.Term.{Term}
use Rattle.rx_term.proofs.Equations.{arguments-Return, arguments-Fail, arguments-Call, arguments-Frame, below-Return, below-Fail, below-Call, below-Frame, induct}

alone : (b : Bool) → (b && true) ≡ b
alone true = refl
alone false = refl

pub below_by_arguments : (n : ℕ) (t : Term) → term_uses_below n t ≡ polys_use_below n (arguments_of t)
below_by_arguments n = induct (λ t. term_uses_below n t ≡ polys_use_below n (arguments_of t))
    (λ p. below-Return n p ∙ sym (alone (uses_below n p)) ∙
    sym (ap (polys_use_below n) (arguments-Return p)))
    (λ c. below-Fail n c ∙ sym (ap (polys_use_below n) (arguments-Fail c)))
    (λ f ps. below-Call n f ps ∙ sym (ap (polys_use_below n) (arguments-Call f ps)))
    (λ f ps t inner. below-Frame n f ps t ∙ ap (λ b. polys_use_below n ps && b) inner
    ∙ sym (list_all-append (uses_below n) ps (arguments_of t))
    ∙ sym (ap (polys_use_below n) (arguments-Frame f ps t)))

-- Without domains no rows put a term or an equation inside; and rows that are formed one after the
-- other.
use Rattle.std.proofs.Common.{◌≡◌, ◌∙◌, ap, sym, subst, ℕ, true, ◌&&◌, unwrap_or, Result, List, [], ◌++◌}
use Rattle.std.specs.Prelude.{slice_get}
use Rattle.rx_plain.specs.Formed.{Formed, Forms, pure, ◌>>=◌}
use Rattle.rx_plain.proofs.Forming.{then_true}
use Rattle.rx_poly.specs.Substitution.{numbered}
use Rattle.rx_poly.specs.declared.body.Body.{Body}
use Rattle.rx_row.specs.Substitution.{rows_with}
use Rattle.rx_row.specs.declared.row.Row.{Row}
use Rattle.rx_term.specs.Domains.{inside_of, inside_rows, rows_at}
use Rattle.rx_term.specs.declared.rule.Equation.{Equation}
use Rattle.rx_term.specs.declared.rule_set.RuleParts.{RuleParts}
use Rattle.rx_term.specs.declared.term.Term.{Term}
use Rattle.rx_term.proofs.Collecting.{inside-Return, inside-Fail, inside-Call, inside-Frame, over_rows}
use Rattle.rx_term.proofs.Equations.{induct}

module _ (parts : RuleParts) (none : parts.domains ≡ []) where
  no_rows : (f : ℕ) (ps : List Body) → rows_at parts f ps ≡ pure []
  no_rows f ps =
      ap (λ (lists : List (List Row)). rows_with (numbered ps) (unwrap_or (slice_get lists f) []))
      none

  -- so of a term
  pub nothing_of : (t : Term) → inside_rows parts t ≡ pure []
  nothing_of = induct (λ t. inside_rows parts t ≡ pure [])
      (inside-Return parts)
      (inside-Fail parts)
      (λ f ps. inside-Call parts f ps ∙ no_rows f.0 ps)
      (λ f ps t inner. inside-Frame parts f ps t ∙ (λ i. over_rows (no_rows f.0 ps i) (inner i)))

  abbrev both_of : Formed (List Row) → Formed (List Row) → Formed (List Row)
  both_of left right =
      record { form = left.form ++ right.form; within = left.within && right.within }

  -- and of an equation
  pub nothing_inside : (e : Equation) → inside_of parts e ≡ pure []
  nothing_inside e = λ i. both_of (nothing_of e.left i) (nothing_of e.right i)

-- what is made of rows that are formed is formed so
pub after_formed : {A B E : Type 0} (large : E) (r : Result B E) (f : Formed A) (g : A → Formed B)
    (x : A) → (x ≡ f.form) × (f.within ≡ true) → Forms large r (g x) → Forms large r (f >>= g)
after_formed large r f g x is h =
    subst (Forms large r) (ap g is.0 ∙ sym (then_true f g is.1)) h

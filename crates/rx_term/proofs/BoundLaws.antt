-- The least number above all variables of terms and equations.
use Rattle.std.proofs.Common.{◌&&◌, ◌≡◌, ◌∙◌, ◌↔◌, sym, subst, refl, true, ℕ, ◌≤◌, max, List, [], ◌∷◌, arith}
use Rattle.std.proofs.lemmas.Bool.{and_parts, and_from}
use Rattle.std.proofs.Math.Nat.{le-max_left, le-max_right, max-le}
use Rattle.rx_poly.specs.Variables.{uses_below, variable_bound}
use Rattle.rx_poly.specs.declared.body.Body.{Body}
use Rattle.rx_poly_laws.proofs.BoundLaws.{below_the_bound}
use Rattle.rx_row.specs.Parts.{poly_of}
use Rattle.rx_row.specs.Variables.{row_bound, rows_bound, rows_use_below}
use Rattle.rx_row.specs.declared.row.Row.{Row}
use Rattle.rx_term.specs.Bounds.{equation_bound, polys_bound, term_bound, term_bound_level}
use Rattle.rx_term.specs.Variables.{polys_use_below, term_uses_below}
use Rattle.rx_term.specs.declared.rule.Equation.{Equation}
use Rattle.rx_term.specs.declared.term.Sym.{Sym}
use Rattle.rx_term.specs.declared.term.Term.{Term}
use Rattle.rx_term.specs.declared.term.Term.TheFolds.{fold_out-Term}
use Rattle.rx_term.specs.declared.term.Term.TheVariants.{Return, Fail, Call, Frame, outs-Return, outs-Fail, outs-Call, outs-Frame}
use Rattle.rx_term.proofs.Equations.{induct, below-Return, below-Fail, below-Call, below-Frame}

-- ---- by the form of a term

pub bound-Return : (p : Body) → term_bound (Return p) ≡ variable_bound p
bound-Return p = fold_out-Term ℕ term_bound_level (Return p) ∙ rw (outs-Return p) refl

pub bound-Fail : (c : ℕ) → term_bound (Fail c) ≡ 0
bound-Fail c = fold_out-Term ℕ term_bound_level (Fail c) ∙ rw (outs-Fail c) refl

pub bound-Call : (f : Sym) (ps : List Body) → term_bound (Call f ps) ≡ polys_bound ps
bound-Call f ps = fold_out-Term ℕ term_bound_level (Call f ps) ∙ rw (outs-Call f ps) refl

pub bound-Frame : (f : Sym) (ps : List Body) (t : Term) → term_bound (Frame f ps t) ≡
    max (polys_bound ps) (term_bound t)
bound-Frame f ps t = fold_out-Term ℕ term_bound_level (Frame f ps t) ∙ rw (outs-Frame f ps t) refl

-- ---- at least the bound is the same as above all variables

-- a maximum is at most a number where both are
both_most : (a b n : ℕ) → max a b ≤ n → (a ≤ n) × (b ≤ n)
both_most a b n h =
    let left = le-max_left a b in
    let right = le-max_right a b in
    (omega (arith, h, left), omega (arith, h, right))

module _ (n : ℕ) where
  pub polys_below : (ps : List Body) → (polys_use_below n ps ≡ true) ↔ (polys_bound ps ≤ n)
  polys_below [] = (λ h. omega arith, λ h. refl)
  polys_below (p ∷ ps) =
      let here = below_the_bound n p in
      let rest = polys_below ps in (
        λ h. let both =
            and_parts (uses_below n p) (polys_use_below n ps) h in
            max-le (here.0 both.0) (rest.0 both.1),
        λ h. let both =
            both_most (variable_bound p) (polys_bound ps) n h in
            and_from (uses_below n p) (polys_use_below n ps) (here.1 both.0) (rest.1 both.1),
      )

  pub rows_below : (rows : List Row) → (rows_use_below n rows ≡ true) ↔ (rows_bound rows ≤ n)
  rows_below [] = (λ h. omega arith, λ h. refl)
  rows_below (r ∷ rs) =
      let here = below_the_bound n (poly_of r) in
      let rest = rows_below rs in (
        λ h. let both =
            and_parts (uses_below n (poly_of r)) (rows_use_below n rs) h in
            max-le (here.0 both.0) (rest.0 both.1),
        λ h. let both =
            both_most (row_bound r) (rows_bound rs) n h in
            and_from (uses_below n (poly_of r)) (rows_use_below n rs) (here.1 both.0)
            (rest.1 both.1),
      )

  abbrev Bounded : Term → Type 0
  Bounded t = (term_uses_below n t ≡ true) ↔ (term_bound t ≤ n)

  in_return : (p : Body) → Bounded (Return p)
  in_return p =
      let is = below_the_bound n p in (
        λ h. subst (λ k. k ≤ n) (sym (bound-Return p)) (is.0 (sym (below-Return n p) ∙ h)),
        λ h.
            below-Return n p ∙ is.1 (subst (λ k. k ≤ n) (bound-Return p) h),
      )

  in_fail : (c : ℕ) → Bounded (Fail c)
  in_fail c = (λ h. subst (λ k. k ≤ n) (sym (bound-Fail c)) (omega arith), λ h. below-Fail n c)

  in_call : (f : Sym) (ps : List Body) → Bounded (Call f ps)
  in_call f ps =
      let is = polys_below ps in (
        λ h. subst (λ k. k ≤ n) (sym (bound-Call f ps)) (is.0 (sym (below-Call n f ps) ∙ h)),
        λ h.
            below-Call n f ps ∙ is.1 (subst (λ k. k ≤ n) (bound-Call f ps) h),
      )

  in_frame : (f : Sym) (ps : List Body) (t : Term) → Bounded t → Bounded (Frame f ps t)
  in_frame f ps t inner =
      let is = polys_below ps in (
        λ h.
            let both = and_parts (polys_use_below n ps) (term_uses_below n t)
            (sym (below-Frame n f ps t) ∙ h) in
            subst (λ k. k ≤ n) (sym (bound-Frame f ps t)) (max-le (is.0 both.0) (inner.0 both.1)),
        λ h.
            let both = both_most (polys_bound ps) (term_bound t) n
            (subst (λ k. k ≤ n) (bound-Frame f ps t) h) in
            below-Frame n f ps t ∙ and_from (polys_use_below n ps) (term_uses_below n t)
            (is.1 both.0) (inner.1 both.1),
      )

  -- all variables of a term are below a number exactly where it is at least the term's bound
  pub term_below : (t : Term) → (term_uses_below n t ≡ true) ↔ (term_bound t ≤ n)
  term_below = induct Bounded in_return in_fail in_call in_frame

-- so of an equation, by its sides and its rows
pub equation_below : (n : ℕ) (e : Equation) →
    (((term_uses_below n e.left && term_uses_below n e.right) && rows_use_below n e.rows) ≡ true) ↔
    (equation_bound e ≤ n)
equation_below n e =
    let left = term_below n e.left in
    let right = term_below n e.right in
    let rows = rows_below n e.rows in
    let sides = term_uses_below n e.left && term_uses_below n e.right in (
      λ h.
          let both = and_parts sides (rows_use_below n e.rows) h in
          let two = and_parts (term_uses_below n e.left) (term_uses_below n e.right) both.0 in
          max-le (max-le (left.0 two.0) (right.0 two.1)) (rows.0 both.1),
      λ h.
          let both = both_most (max (term_bound e.left) (term_bound e.right)) (rows_bound e.rows) n
          h in
          let two = both_most (term_bound e.left) (term_bound e.right) n both.0 in
          and_from sides (rows_use_below n e.rows)
          (and_from (term_uses_below n e.left) (term_uses_below n e.right) (left.1 two.0)
          (right.1 two.1)) (rows.1 both.1),
    )

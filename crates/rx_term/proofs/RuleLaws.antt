-- Rules of well made sets: which shapes they have, what they step, and that what they step to fits.
use Rattle.std.proofs.Common.{◌≡◌, ◌∙◌, ap, sym, subst, refl, true, ℕ, Some, List, length, ℤ}
use Rattle.std.specs.Prelude.{Contains, nat_eq}
use Rattle.std.proofs.lemmas.Bool.{and_parts, and_from, eqb-true, eq-eqb}
use Rattle.std.proofs.lemmas.List.Elements.{All-contains}
use Rattle.rx_poly.specs.Constants.{variable}
use Rattle.rx_poly.specs.Substitution.{updated_assignment}
use Rattle.rx_poly.specs.declared.body.Body.{Body}
use Rattle.rx_rewriting.specs.Terms.{Ground, Fits, IsResult}
use Rattle.rx_rewriting.specs.Steps.{Step, Here}
use Rattle.rx_rewriting.specs.Premises.{ClosedUnder, ResultsAreNormal}
use Rattle.rx_rewriting.proofs.UnderFrames.{Fits-exchange, Fits-inner, Step-in_context, results_rest_under_frames, stays_under_frames}
use Rattle.rx_row.specs.Holds.{AllHold}
use Rattle.rx_row.specs.Substitution.{subst_rows}
use Rattle.rx_row.proofs.SubstitutionLaws.{subst_rows-hold}
use Rattle.rx_term.specs.Fitting.{is_declared, term_fits}
use Rattle.rx_term.specs.Meaning.{Instance, IsRedex, CallRedex, ReturnRedex, FailRedex, ground_at, matched, outer_frames, signature}
use Rattle.rx_term.specs.Paired.{IsRedexShape, PointShape, ReturnShape, FailShape}
use Rattle.rx_term.specs.Shapes.{Shape, same_shape, shape_of}
use Rattle.rx_term.specs.Shapes as shapes
use Rattle.rx_term.specs.Stacks.{suffix_at, replace_at}
use Rattle.rx_term.specs.Substitution.{subst_term}
use Rattle.rx_term.specs.WellMade.{IsLeft, OfPoint, OverReturn, OverFail, IsMade, IsWellMade, variables_from}
use Rattle.rx_term.specs.declared.rule.Rule.{Rule}
use Rattle.rx_term.specs.declared.rule_set.RuleParts.{RuleParts}
use Rattle.rx_term.specs.declared.term.Term.{Term}
use Rattle.rx_term.specs.declared.term.Term.TheVariants.{Return, Fail}
use Rattle.rx_term.proofs.Equations.{shape-Return, shape-Fail, shape-Call, shape-Frame, fits-Fail, fits-Call, fits-Frame, ground-Call, ground-Frame}
use Rattle.rx_term.proofs.FittingLaws.{ground_fits}
use Rattle.rx_term.proofs.Matching.{left_matches}
use Rattle.rx_term.proofs.MeaningLaws.{ground_in_term}
use Rattle.rx_term.proofs.RedexLaws.{ground_after, ground_replaced}

-- ---- shapes

-- a left side is a redex
pub left_redex : (t : Term) → IsLeft t → IsRedex t
left_redex _ (OfPoint f n) = CallRedex f (variables_from 0 n)
left_redex _ (OverReturn f n) = ReturnRedex f (variables_from 0 n) (variable n)
left_redex _ (OverFail f n c) = FailRedex f (variables_from 0 n) c

-- the shape of a redex that fits is one of the set's
pub redex_shape : (parts : RuleParts) (t : Term) → IsRedex t → term_fits parts t ≡ true →
    IsRedexShape parts (shape_of t)
redex_shape parts _ (CallRedex f ps) fits =
    subst (IsRedexShape parts) (sym (shape-Call f ps))
    (PointShape f (length ps) (sym (fits-Call parts f ps) ∙ fits))
redex_shape parts _ (ReturnRedex f ps p) fits =
    let both = and_parts (is_declared parts.symbols f true (length ps)) (term_fits parts (Return p))
    (sym (fits-Frame parts f ps (Return p)) ∙ fits) in
    subst (IsRedexShape parts) (sym (shape-Frame f ps (Return p) ∙
    ap (shapes.Frame f) (shape-Return p)))
    (ReturnShape f (length ps) both.0)
redex_shape parts _ (FailRedex f ps c) fits =
    let both = and_parts (is_declared parts.symbols f true (length ps)) (term_fits parts (Fail c))
    (sym (fits-Frame parts f ps (Fail c)) ∙ fits) in
    subst (IsRedexShape parts) (sym (shape-Frame f ps (Fail c) ∙
    ap (shapes.Frame f) (shape-Fail c)))
    (FailShape f (length ps) c both.0 (sym (fits-Fail parts c) ∙ both.1))

-- the test says whether two shapes are one
pub known_shape : (s t : Shape) → same_shape s t ≡ true → s ≡ t
known_shape shapes.Return shapes.Return h = refl
known_shape shapes.Return (shapes.Fail d) h = cc
known_shape shapes.Return (shapes.Call g) h = cc
known_shape shapes.Return (shapes.Frame g t) h = cc
known_shape (shapes.Fail c) shapes.Return h = cc
known_shape (shapes.Fail c) (shapes.Fail d) h = ap shapes.Fail (eqb-true c d h)
known_shape (shapes.Fail c) (shapes.Call g) h = cc
known_shape (shapes.Fail c) (shapes.Frame g t) h = cc
known_shape (shapes.Call f) shapes.Return h = cc
known_shape (shapes.Call f) (shapes.Fail d) h = cc
known_shape (shapes.Call f) (shapes.Call g) h =
    let e = eqb-true f.0 g.0 h in (λ i. shapes.Call (record { 0 = e i }))
known_shape (shapes.Call f) (shapes.Frame g t) h = cc
known_shape (shapes.Frame f s) shapes.Return h = cc
known_shape (shapes.Frame f s) (shapes.Fail d) h = cc
known_shape (shapes.Frame f s) (shapes.Call g) h = cc
known_shape (shapes.Frame f s) (shapes.Frame g t) h =
    let both = and_parts (nat_eq f.0 g.0) (same_shape s t) h in
    let e = eqb-true f.0 g.0 both.0 in
    let rest = known_shape s t both.1 in
    (λ i. shapes.Frame (record { 0 = e i }) (rest i))

pub shape_itself : (s : Shape) → same_shape s s ≡ true
shape_itself shapes.Return = refl
shape_itself (shapes.Fail c) = eq-eqb c c refl
shape_itself (shapes.Call f) = eq-eqb f.0 f.0 refl
shape_itself (shapes.Frame f s) =
    and_from (nat_eq f.0 f.0) (same_shape s s) (eq-eqb f.0 f.0 refl) (shape_itself s)

-- ---- steps

module _ (rules : List Rule) (a : ℕ → ℤ) (rule : Rule) (ws : List (ℕ × Body)) (t : Term)
    (among : Contains rules rule)
    (left : ground_at a (subst_term ws rule.left) ≡ ground_at a t)
    (holds : AllHold a (subst_rows ws rule.rows)) where
  -- a rule steps a term that means what its left side does, with polynomials in place of variables,
  -- where its rows hold so
  pub instance_steps : Instance rules (ground_at a t) (ground_at a (subst_term ws rule.right))
  instance_steps = record {
    rule = rule;
    among = among;
    at = updated_assignment a ws;
    holds = (subst_rows-hold a ws rule.rows).0 holds;
    left = sym left ∙ ground_in_term a ws rule.left;
    right = ground_in_term a ws rule.right;
  }

  -- so it does under frames
  pub instance_steps_inside : (n : ℕ) (whole : Term) → suffix_at n whole ≡ Some t
      → Step (Instance rules) (ground_at a whole)
      (ground_at a (replace_at n whole (subst_term ws rule.right)))
  instance_steps_inside n whole stands =
      let step = Step-in_context (outer_frames a n whole) (Here instance_steps) in
      rw (ground_after a n whole t stands, ground_replaced a n whole (subst_term ws rule.right))
      step

module _ (parts : RuleParts) (made : IsWellMade parts) where
  -- a rule of the set is well made
  pub rule_made : (rule : Rule) → Contains parts.rules rule → IsMade parts rule
  rule_made rule among = All-contains (IsMade parts) parts.rules rule made among

  -- a rule whose shape a fitting term has, and whose rows hold where the rule's variables are the
  -- term's polynomials, steps it
  pub rule_steps : (a : ℕ → ℤ) (rule : Rule) (t : Term) → Contains parts.rules rule →
      term_fits parts t ≡ true → shape_of rule.left ≡ shape_of t
      → AllHold a (subst_rows (matched t) rule.rows) →
      Instance parts.rules (ground_at a t) (ground_at a (subst_term (matched t) rule.right))
  rule_steps a rule t among fits shape holds =
      let is = rule_made rule among in record {
        rule = rule;
        among = among;
        at = updated_assignment a (matched t);
        holds = (subst_rows-hold a (matched t) rule.rows).0 holds;
        left = sym (left_matches parts a rule.left t is.form is.left_fits fits shape);
        right = ground_in_term a (matched t) rule.right;
      }

  -- so it does under frames
  pub rule_steps_inside : (a : ℕ → ℤ) (rule : Rule) (n : ℕ) (t part : Term) →
      Contains parts.rules rule → suffix_at n t ≡ Some part → term_fits parts part ≡ true
      → shape_of rule.left ≡ shape_of part → AllHold a (subst_rows (matched part) rule.rows)
      → Step (Instance parts.rules) (ground_at a t)
      (ground_at a (replace_at n t (subst_term (matched part) rule.right)))
  rule_steps_inside a rule n t part among stands fits shape holds =
      let step = Step-in_context (outer_frames a n t)
      (Here (rule_steps a rule part among fits shape holds)) in
      rw (
        ground_after a n t part stands,
        ground_replaced a n t
            (subst_term (matched part) rule.right),
      ) step

  pub instance_fits : (s t : Ground) → Fits (signature parts) s → Instance parts.rules s t →
      Fits (signature parts) t
  instance_fits s t fits one =
      subst (Fits (signature parts)) (sym one.right)
      (ground_fits parts one.at one.rule.right (rule_made one.rule one.among).right_fits)

  -- steps lead from fitting terms to fitting terms
  pub steps_fit : ClosedUnder (Fits (signature parts)) (Instance parts.rules)
  steps_fit =
      stays_under_frames (Fits (signature parts)) (Instance parts.rules)
      (Fits-inner (signature parts)) (Fits-exchange (signature parts)) instance_fits

  result_rests : (left : Term) → IsRedex left → (a : ℕ → ℤ) → IsResult (ground_at a left) → ⊥
  result_rests _ (CallRedex f ps) a result = subst IsResult (ground-Call a f ps) result
  result_rests _ (ReturnRedex f ps p) a result =
      subst IsResult (ground-Frame a f ps (Return p)) result
  result_rests _ (FailRedex f ps c) a result = subst IsResult (ground-Frame a f ps (Fail c)) result

  no_instance : (s t : Ground) → IsResult s → Instance parts.rules s t → ⊥
  no_instance s t result one =
      result_rests one.rule.left (left_redex one.rule.left (rule_made one.rule one.among).form)
      one.at (subst IsResult one.left result)

  -- no step starts at a result
  pub results_rest : ResultsAreNormal (Instance parts.rules)
  results_rest = results_rest_under_frames (Instance parts.rules) no_instance

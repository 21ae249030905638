-- Terms with variables in place of polynomials: what they keep, and that they are more general; and
-- the polynomials of the call of a term.
use Rattle.std.proofs.Common.{◌≡◌, ◌∙◌, ap, subst, sym, refl, ℕ, ◌+◌, ◌≤◌, Bool, true, false, ◌&&◌, Option, List, [], ◌∷◌, ◌++◌, length, map}
use Rattle.std.specs.Prelude.{IfSome}
use Rattle.std.specs.List.{list_all}
use Rattle.std.proofs.lemmas.Bool.{and_from, and_parts}
use Rattle.std.proofs.lemmas.List.{length-map}
use Rattle.std.proofs.lemmas.List.Folds.{list_all-append}
use Rattle.rx_poly.specs.Normal.{is_poly}
use Rattle.rx_poly.specs.Variables.{uses_below}
use Rattle.rx_poly.specs.declared.body.Body.{Body}
use Rattle.rx_row.specs.declared.row.Row.{Row}
use Rattle.rx_term.proofs.Equations.{arguments-Return, arguments-Fail, arguments-Call, arguments-Frame, fits-Call, fits-Frame, induct, shape-Call, shape-Frame}
use Rattle.rx_term.specs.Fitting.{is_declared, term_fits}
use Rattle.rx_term.specs.Shapes.{Frame, shape_of}
use Rattle.rx_term.specs.Variables.{arguments_of, polys_use_below}
use Rattle.rx_term.specs.declared.rule_set.RuleParts.{RuleParts}
use Rattle.rx_term.specs.declared.term.Sym.{Sym}
use Rattle.rx_term.specs.declared.term.Term.{Term}
use Rattle.rx_term.specs.declared.term.Term.TheFolds.{fold_out-Term}
use Rattle.rx_term.specs.declared.term.Term.TheVariants as made
use Rattle.rx_term.specs.declared.term.Term.TheVariants.{outs-Return, outs-Fail, outs-Call, outs-Frame}
use Rattle.rx_lemma.specs.Calls.{Applied, call_of}
use Rattle.rx_lemma.specs.Repeated.{new_variables, replaced_by, replaced_in, replaced_level}
use Rattle.rx_lemma.proofs.Common.{AreInstances, Nothing, OneMore, instances_together, is_instance}
use Rattle.rx_lemma.proofs.Polynomials.{are_polys, stays_itself}
use Rattle.rx_lemma.proofs.CallLaws.{call-Return, call-Fail, call-Call, call-Frame}
use Rattle.rx_lemma.proofs.GeneralisingVariables.{all_replaced_below, replace_new_ones, replaced_instances}

-- ---- by their form

module _ (ws : List (ℕ × Body)) where
  in_Return : (p : Body) → replaced_in ws (made.Return p) ≡ made.Return p
  in_Return p = fold_out-Term Term (replaced_level ws) (made.Return p) ∙ rw (outs-Return p) refl

  in_Fail : (c : ℕ) → replaced_in ws (made.Fail c) ≡ made.Fail c
  in_Fail c = fold_out-Term Term (replaced_level ws) (made.Fail c) ∙ rw (outs-Fail c) refl

  in_Call : (f : Sym) (ps : List Body) → replaced_in ws (made.Call f ps) ≡
      made.Call f (map (replaced_by ws) ps)
  in_Call f ps =
      fold_out-Term Term (replaced_level ws) (made.Call f ps) ∙ rw (outs-Call f ps) refl

  in_Frame : (f : Sym) (ps : List Body) (t : Term) → replaced_in ws (made.Frame f ps t) ≡
      made.Frame f (map (replaced_by ws) ps) (replaced_in ws t)
  in_Frame f ps t =
      fold_out-Term Term (replaced_level ws) (made.Frame f ps t) ∙ rw (outs-Frame f ps t) refl

  -- ---- what they keep

  pub replaced_shape : (t : Term) → shape_of (replaced_in ws t) ≡ shape_of t
  replaced_shape = induct (λ t. shape_of (replaced_in ws t) ≡ shape_of t)
      (λ p. ap shape_of (in_Return p))
      (λ c. ap shape_of (in_Fail c))
      (λ f ps. ap shape_of (in_Call f ps) ∙ shape-Call f (map (replaced_by ws) ps) ∙
      sym (shape-Call f ps))
      (λ f ps t inner. ap shape_of (in_Frame f ps t) ∙
      shape-Frame f (map (replaced_by ws) ps) (replaced_in ws t) ∙ ap (Frame f) inner ∙
      sym (shape-Frame f ps t))

  module _ (parts : RuleParts) where
    declared_too : (f : Sym) (b : Bool) (ps : List Body) →
        is_declared parts.symbols f b (length (map (replaced_by ws) ps)) ≡
        is_declared parts.symbols f b (length ps)
    declared_too f b ps = ap (is_declared parts.symbols f b) (length-map ps (replaced_by ws))

    pub replaced_fits : (t : Term) → term_fits parts (replaced_in ws t) ≡ term_fits parts t
    replaced_fits = induct (λ t. term_fits parts (replaced_in ws t) ≡ term_fits parts t)
        (λ p. ap (term_fits parts) (in_Return p))
        (λ c. ap (term_fits parts) (in_Fail c))
        (λ f ps. ap (term_fits parts) (in_Call f ps) ∙
        fits-Call parts f (map (replaced_by ws) ps) ∙ declared_too f false ps ∙
        sym (fits-Call parts f ps))
        (λ f ps t inner. ap (term_fits parts) (in_Frame f ps t) ∙
        fits-Frame parts f (map (replaced_by ws) ps) (replaced_in ws t) ∙
        (λ i. declared_too f true ps i && inner i) ∙ sym (fits-Frame parts f ps t))

-- ---- their polynomials

-- a test of the polynomials of a frame and of what is under it
module _ (test : Body → Bool) where
  pub two_pieces : (f : Sym) (ps : List Body) (t : Term) →
      list_all test (arguments_of (made.Frame f ps t)) ≡ true →
      (list_all test ps ≡ true) × (list_all test (arguments_of t) ≡ true)
  two_pieces f ps t h =
      and_parts (list_all test ps) (list_all test (arguments_of t))
      (sym (list_all-append test ps (arguments_of t)) ∙
      sym (ap (list_all test) (arguments-Frame f ps t)) ∙ h)

module _ (given : List Row) (m : ℕ) (ps : List Body) where
  abbrev ws : List (ℕ × Body)
  ws = new_variables m ps

  abbrev More : Term → Type 0
  More t =
      are_polys (arguments_of t) ≡ true → polys_use_below m (arguments_of t) ≡ true →
      AreInstances ws given (arguments_of (replaced_in ws t)) (arguments_of t)

  abbrev Are : List Body → List Body → Type 0
  Are = AreInstances ws given

  more_return : (p : Body) → More (made.Return p)
  more_return p poly below =
      subst (λ (qs : List Body). Are qs (arguments_of (made.Return p)))
      (sym (ap arguments_of (in_Return ws p) ∙ arguments-Return p))
      (subst (λ (qs : List Body). Are (p ∷ []) qs) (sym (arguments-Return p)) (lone
      (and_parts (is_poly p) true (sym (ap are_polys (arguments-Return p)) ∙ poly)).0
      (and_parts (uses_below m p) true
      (sym (ap (polys_use_below m) (arguments-Return p)) ∙ below)).0))
    where
      lone : is_poly p ≡ true → uses_below m p ≡ true → Are (p ∷ []) (p ∷ [])
      lone h k =
          OneMore p p [] [] (is_instance ws given p p h
          (stays_itself ws m (replace_new_ones m ps) p h k)) Nothing

  more_fail : (c : ℕ) → More (made.Fail c)
  more_fail c poly below =
      subst (λ (qs : List Body). Are qs (arguments_of (made.Fail c)))
      (sym (ap arguments_of (in_Fail ws c) ∙ arguments-Fail c))
      (subst (λ (qs : List Body). Are [] qs) (sym (arguments-Fail c)) Nothing)

  more_call : (f : Sym) (qs : List Body) → More (made.Call f qs)
  more_call f qs poly below =
      subst (λ (rs : List Body). Are rs (arguments_of (made.Call f qs)))
      (sym (ap arguments_of (in_Call ws f qs) ∙ arguments-Call f (map (replaced_by ws) qs)))
      (subst (λ (rs : List Body). Are (map (replaced_by ws) qs) rs) (sym (arguments-Call f qs))
      (replaced_instances given m ps qs (sym (ap are_polys (arguments-Call f qs)) ∙ poly)
      (sym (ap (polys_use_below m) (arguments-Call f qs)) ∙ below)))

  more_frame : (f : Sym) (qs : List Body) (t : Term) → More t → More (made.Frame f qs t)
  more_frame f qs t inner poly below =
      let normal = two_pieces is_poly f qs t poly in
      let low = two_pieces (uses_below m) f qs t below in
      subst (λ (rs : List Body). Are rs (arguments_of (made.Frame f qs t)))
      (sym (ap arguments_of (in_Frame ws f qs t) ∙
      arguments-Frame f (map (replaced_by ws) qs) (replaced_in ws t)))
      (subst (λ (rs : List Body).
      Are (map (replaced_by ws) qs ++ arguments_of (replaced_in ws t)) rs)
      (sym (arguments-Frame f qs t))
      (instances_together ws given (map (replaced_by ws) qs) qs (arguments_of (replaced_in ws t))
      (arguments_of t) (replaced_instances given m ps qs normal.0 low.0)
      (inner normal.1 low.1)))

  -- the term is an instance of what it becomes
  pub more_general : (t : Term) → More t
  more_general = induct More more_return more_fail more_call more_frame

  module _ (limit : ℕ) (enough : m + length ps ≤ limit) where
    abbrev Low : Term → Type 0
    Low t =
        polys_use_below limit (arguments_of t) ≡ true →
        polys_use_below limit (arguments_of (replaced_in ws t)) ≡ true

    low_call : (f : Sym) (qs : List Body) → Low (made.Call f qs)
    low_call f qs h =
        ap (polys_use_below limit) (ap arguments_of (in_Call ws f qs) ∙
        arguments-Call f (map (replaced_by ws) qs)) ∙
        all_replaced_below given m ps limit enough qs
        (sym (ap (polys_use_below limit) (arguments-Call f qs)) ∙ h)

    low_frame : (f : Sym) (qs : List Body) (t : Term) → Low t → Low (made.Frame f qs t)
    low_frame f qs t inner h =
        let both = two_pieces (uses_below limit) f qs t h in
        let rs = map (replaced_by ws) qs in
        ap (polys_use_below limit) (ap arguments_of (in_Frame ws f qs t) ∙
        arguments-Frame f rs (replaced_in ws t))
        ∙ list_all-append (uses_below limit) rs (arguments_of (replaced_in ws t))
        ∙ and_from (polys_use_below limit rs)
        (polys_use_below limit (arguments_of (replaced_in ws t)))
        (all_replaced_below given m ps limit enough qs both.0) (inner both.1)

    -- its variables are below a limit of those of the term and of the new ones
    pub low_after : (t : Term) → Low t
    low_after = induct Low
        (λ p h. ap (λ (t : Term). polys_use_below limit (arguments_of t)) (in_Return ws p) ∙ h)
        (λ c h. ap (λ (t : Term). polys_use_below limit (arguments_of t)) (in_Fail ws c) ∙ h)
        low_call low_frame

-- ---- their calls

-- a call that is declared, and whose polynomials use only variables below a limit
pub record IsCallBelow (parts : RuleParts) (limit : ℕ) (call : Applied) : Type 0 where
  pub declared : is_declared parts.symbols call.symbol false (length call.arguments) ≡ true
  pub below : polys_use_below limit call.arguments ≡ true

module _ (parts : RuleParts) (limit : ℕ) where
  abbrev Calls : Term → Type 0
  Calls t =
      term_fits parts t ≡ true → polys_use_below limit (arguments_of t) ≡ true →
      IfSome (call_of t) (IsCallBelow parts limit)

  abbrev of_call : Option Applied → Type 0
  of_call o = IfSome o (IsCallBelow parts limit)

  frame_calls : (f : Sym) (ps : List Body) (t : Term) → Calls t → Calls (made.Frame f ps t)
  frame_calls f ps t inner fits h =
      let kind = and_parts (is_declared parts.symbols f true (length ps)) (term_fits parts t)
      (sym (fits-Frame parts f ps t) ∙ fits) in
      subst of_call (sym (call-Frame f ps t))
      (inner kind.1 (two_pieces (uses_below limit) f ps t h).1)

  -- so of the call of a fitting term
  pub call_below : (t : Term) → Calls t
  call_below = induct Calls
      (λ p fits h. subst of_call (sym (call-Return p)) tt)
      (λ c fits h. subst of_call (sym (call-Fail c)) tt)
      (λ f ps fits h. subst of_call (sym (call-Call f ps)) (record {
        declared = sym (fits-Call parts f ps) ∙ fits;
        below = sym (ap (polys_use_below limit) (arguments-Call f ps)) ∙ h;
      }))
      frame_calls

-- What substitution and replacing keep of a stack: frames, shape, polynomials in order, and
-- fitting.
use Rattle.std.proofs.Common.{◌≡◌, ◌∙◌, ap, sym, subst, Bool, true, false, ◌&&◌, ℕ, zero, suc, ◌+◌, ◌≤◌, ◌<◌, Option, Some, None, List, ◌++◌, length, arith}
use Rattle.std.proofs.lemmas.Bool.{and_parts, and_from}
use Rattle.std.proofs.lemmas.List.{length-map, map-append}
use Rattle.std.proofs.lemmas.Option.{none-some}
use Rattle.rx_poly.specs.Substitution.{subst_body}
use Rattle.rx_poly.specs.declared.body.Body.{Body}
use Rattle.rx_term.specs.Fitting.{is_declared, term_fits}
use Rattle.rx_term.specs.Shapes.{Frame, shape_of}
use Rattle.rx_term.specs.Stacks.{suffix_at, depth_of, over_frame, replace_at, under_frame}
use Rattle.rx_term.specs.Substitution.{subst_polys, subst_term}
use Rattle.rx_term.specs.Variables.{arguments_of}
use Rattle.rx_term.specs.declared.rule_set.RuleParts.{RuleParts}
use Rattle.rx_term.specs.declared.term.Sym.{Sym}
use Rattle.rx_term.specs.declared.term.Term.{Term, Term-F}
use Rattle.rx_term.specs.declared.term.Term.TheVariants.{outs-Return, outs-Fail, outs-Call}
use Rattle.rx_term.proofs.Equations.{induct, Form, AReturn, AFail, ACall, AFrame, form, depth-Return, depth-Fail, depth-Call, depth-Frame, shape-Return, shape-Call, shape-Frame, arguments-Return, arguments-Fail, arguments-Call, arguments-Frame, fits-Return, fits-Call, fits-Frame, subst_term-Return, subst_term-Fail, subst_term-Call, subst_term-Frame, suffix_at-Frame, replace_at-Frame}

-- ---- substitution

module _ (ws : List (ℕ × Body)) where
  -- the shape stays
  pub shape_in_term : (t : Term) → shape_of (subst_term ws t) ≡ shape_of t
  shape_in_term = induct (λ t. shape_of (subst_term ws t) ≡ shape_of t)
      (λ p. ap shape_of (subst_term-Return ws p) ∙ shape-Return (subst_body ws p).form ∙
      sym (shape-Return p))
      (λ c. ap shape_of (subst_term-Fail ws c))
      (λ f ps. ap shape_of (subst_term-Call ws f ps) ∙ shape-Call f (subst_polys ws ps) ∙
      sym (shape-Call f ps))
      (λ f ps t inner. ap shape_of (subst_term-Frame ws f ps t) ∙
      shape-Frame f (subst_polys ws ps) (subst_term ws t) ∙ ap (Frame f) inner ∙
      sym (shape-Frame f ps t))

  -- the polynomials stay in order, each changed
  pub arguments_in_term : (t : Term) → arguments_of (subst_term ws t) ≡
      subst_polys ws (arguments_of t)
  arguments_in_term = induct (λ t. arguments_of (subst_term ws t) ≡ subst_polys ws (arguments_of t))
      (λ p. ap arguments_of (subst_term-Return ws p) ∙ arguments-Return (subst_body ws p).form ∙
      sym (ap (subst_polys ws) (arguments-Return p)))
      (λ c. ap arguments_of (subst_term-Fail ws c) ∙ arguments-Fail c ∙
      sym (ap (subst_polys ws) (arguments-Fail c)))
      (λ f ps. ap arguments_of (subst_term-Call ws f ps) ∙ arguments-Call f (subst_polys ws ps) ∙
      sym (ap (subst_polys ws) (arguments-Call f ps)))
      (λ f ps t inner. ap arguments_of (subst_term-Frame ws f ps t) ∙
      arguments-Frame f (subst_polys ws ps) (subst_term ws t)
      ∙ ap (λ qs. subst_polys ws ps ++ qs) inner ∙
      sym (map-append (λ (p : Body). (subst_body ws p).form) ps (arguments_of t))
      ∙ sym (ap (subst_polys ws) (arguments-Frame f ps t)))

  -- the frames stay
  pub depth_in_term : (t : Term) → depth_of (subst_term ws t) ≡ depth_of t
  depth_in_term = induct (λ t. depth_of (subst_term ws t) ≡ depth_of t)
      (λ p. ap depth_of (subst_term-Return ws p) ∙ depth-Return (subst_body ws p).form ∙
      sym (depth-Return p))
      (λ c. ap depth_of (subst_term-Fail ws c))
      (λ f ps. ap depth_of (subst_term-Call ws f ps) ∙ depth-Call f (subst_polys ws ps) ∙
      sym (depth-Call f ps))
      (λ f ps t inner. ap depth_of (subst_term-Frame ws f ps t) ∙
      depth-Frame f (subst_polys ws ps) (subst_term ws t) ∙ ap (λ n. 1 + n) inner ∙
      sym (depth-Frame f ps t))

  module _ (parts : RuleParts) where
    declared_too : (f : Sym) (b : Bool) (ps : List Body) →
        is_declared parts.symbols f b (length (subst_polys ws ps)) ≡
        is_declared parts.symbols f b (length ps)
    declared_too f b ps =
        ap (is_declared parts.symbols f b) (length-map ps (λ (p : Body). (subst_body ws p).form))

    -- so does fitting
    pub fits_in_term : (t : Term) → term_fits parts (subst_term ws t) ≡ term_fits parts t
    fits_in_term = induct (λ t. term_fits parts (subst_term ws t) ≡ term_fits parts t)
        (λ p. ap (term_fits parts) (subst_term-Return ws p) ∙
        fits-Return parts (subst_body ws p).form ∙
        sym (fits-Return parts p))
        (λ c. ap (term_fits parts) (subst_term-Fail ws c))
        (λ f ps. ap (term_fits parts) (subst_term-Call ws f ps) ∙
        fits-Call parts f (subst_polys ws ps) ∙
        declared_too f false ps ∙ sym (fits-Call parts f ps))
        (λ f ps t inner. ap (term_fits parts) (subst_term-Frame ws f ps t) ∙
        fits-Frame parts f (subst_polys ws ps) (subst_term ws t)
        ∙ ap (λ b. b && term_fits parts (subst_term ws t)) (declared_too f true ps) ∙
        ap (λ b. is_declared parts.symbols f true (length ps) && b) inner ∙
        sym (fits-Frame parts f ps t))

-- ---- parts under frames

a_part : (s : Term) → ◌≡◌ {A = Option Term} (Some s) None → ⊥
a_part s e = cc

-- under more frames than there are there is nothing, and under fewer something
abbrev Ends : ℕ → Term → Type 0
Ends n t = ((suffix_at n t ≡ None) → depth_of t < n) × (depth_of t < n → suffix_at n t ≡ None)

ends : (n : ℕ) → ((u : Term) → Ends n u) → (t : Term) → Form t → Ends (suc n) t
ends n further _ (AReturn p) = (
  λ e. let d = depth-Return p in omega arith,
  λ h.
      ap (λ (x : Term-F Term). under_frame x (suffix_at n)) (outs-Return p),
)
ends n further _ (AFail c) = (
  λ e. let d = depth-Fail c in omega arith,
  λ h.
      ap (λ (x : Term-F Term). under_frame x (suffix_at n)) (outs-Fail c),
)
ends n further _ (ACall f ps) = (
  λ e. let d = depth-Call f ps in omega arith,
  λ h.
      ap (λ (x : Term-F Term). under_frame x (suffix_at n)) (outs-Call f ps),
)
ends n further _ (AFrame f ps t) =
    let d = depth-Frame f ps t in
    let inner = further t in (
      λ e. let h = inner.0 (sym (suffix_at-Frame n f ps t) ∙ e) in omega arith,
      λ h. suffix_at-Frame n f ps t ∙ inner.1 (omega arith),
    )

pub after_ends : (n : ℕ) (t : Term) → Ends n t
after_ends zero t = (λ e. absurd (a_part t e), λ h. absurd (omega arith))
after_ends (suc n) t = ends n (λ u. after_ends n u) t (form t)

module _ (parts : RuleParts) where
  abbrev Part : ℕ → Term → Type 0
  Part n t =
      (s : Term) → term_fits parts t ≡ true → suffix_at n t ≡ Some s → term_fits parts s ≡ true

  part_fits : (n : ℕ) → ((u : Term) → Part n u) → (t : Term) → Form t → Part (suc n) t
  part_fits n further _ (AReturn p) s fits h =
      absurd (none-some s (sym (ap (λ (x : Term-F Term). under_frame x (suffix_at n)) (outs-Return p))
      ∙
      h))
  part_fits n further _ (AFail c) s fits h =
      absurd (none-some s (sym (ap (λ (x : Term-F Term). under_frame x (suffix_at n)) (outs-Fail c)) ∙
      h))
  part_fits n further _ (ACall f ps) s fits h =
      absurd (none-some s (sym (ap (λ (x : Term-F Term). under_frame x (suffix_at n))
      (outs-Call f ps)) ∙
      h))
  part_fits n further _ (AFrame f ps t) s fits h =
      let both = and_parts (is_declared parts.symbols f true (length ps)) (term_fits parts t)
      (sym (fits-Frame parts f ps t) ∙ fits) in
      further t s both.1 (sym (suffix_at-Frame n f ps t) ∙ h)

  -- a part of a fitting term fits
  pub fits_after : (n : ℕ) (t : Term) → Part n t
  fits_after zero t =
      λ s fits h. let same : t ≡ s = cc in subst (λ u. term_fits parts u ≡ true) same fits
  fits_after (suc n) t = part_fits n (λ u. fits_after n u) t (form t)

  module _ (inner : Term) (inner_fits : term_fits parts inner ≡ true) where
    abbrev Stays : ℕ → Term → Type 0
    Stays n t = term_fits parts t ≡ true → term_fits parts (replace_at n t inner) ≡ true

    stays : (n : ℕ) → ((u : Term) → Stays n u) → (t : Term) → Form t → Stays (suc n) t
    stays n further _ (AReturn p) fits =
        ap (λ (x : Term-F Term). term_fits parts
        (over_frame x inner (λ rest. replace_at n rest inner))) (outs-Return p) ∙ inner_fits
    stays n further _ (AFail c) fits =
        ap (λ (x : Term-F Term). term_fits parts
        (over_frame x inner (λ rest. replace_at n rest inner))) (outs-Fail c) ∙ inner_fits
    stays n further _ (ACall f ps) fits =
        ap (λ (x : Term-F Term). term_fits parts
        (over_frame x inner (λ rest. replace_at n rest inner))) (outs-Call f ps) ∙ inner_fits
    stays n further _ (AFrame f ps t) fits =
        let both = and_parts (is_declared parts.symbols f true (length ps)) (term_fits parts t)
        (sym (fits-Frame parts f ps t) ∙ fits) in
        ap (term_fits parts) (replace_at-Frame n f ps t inner) ∙
        fits-Frame parts f ps (replace_at n t inner)
        ∙ and_from (is_declared parts.symbols f true (length ps))
        (term_fits parts (replace_at n t inner)) both.0 (further t both.1)

    -- and another fitting term may be in its place
    pub fits_replaced : (n : ℕ) (t : Term) → Stays n t
    fits_replaced zero t = λ fits. inner_fits
    fits_replaced (suc n) t = stays n (λ u. fits_replaced n u) t (form t)

-- ---- depths

module _ (inner : Term) where
  abbrev Deep : ℕ → Term → Type 0
  Deep n t = depth_of (replace_at n t inner) ≤ n + depth_of inner

  deep : (n : ℕ) → ((u : Term) → Deep n u) → (t : Term) → Form t → Deep (suc n) t
  deep n further _ (AReturn p) =
      let e = ap (λ (x : Term-F Term). depth_of
      (over_frame x inner (λ rest. replace_at n rest inner))) (outs-Return p) in omega arith
  deep n further _ (AFail c) =
      let e = ap (λ (x : Term-F Term). depth_of
      (over_frame x inner (λ rest. replace_at n rest inner))) (outs-Fail c) in omega arith
  deep n further _ (ACall f ps) =
      let e = ap (λ (x : Term-F Term). depth_of
      (over_frame x inner (λ rest. replace_at n rest inner))) (outs-Call f ps) in omega arith
  deep n further _ (AFrame f ps t) =
      let e = ap depth_of (replace_at-Frame n f ps t inner) ∙
      depth-Frame f ps (replace_at n t inner) in
      let h = further t in
      omega arith

  -- a term over which there are n frames is no deeper than these and the term
  pub depth_replaced : (n : ℕ) (t : Term) → Deep n t
  depth_replaced zero t = omega arith
  depth_replaced (suc n) t = deep n (λ u. depth_replaced n u) t (form t)

abbrev Counted : ℕ → Term → Type 0
Counted n t = (s : Term) → suffix_at n t ≡ Some s → depth_of t ≡ n + depth_of s

counted : (n : ℕ) → ((u : Term) → Counted n u) → (t : Term) → Form t → Counted (suc n) t
counted n further _ (AReturn p) s h =
    absurd (none-some s (sym (ap (λ (x : Term-F Term). under_frame x (suffix_at n)) (outs-Return p)) ∙
    h))
counted n further _ (AFail c) s h =
    absurd (none-some s (sym (ap (λ (x : Term-F Term). under_frame x (suffix_at n)) (outs-Fail c)) ∙
    h))
counted n further _ (ACall f ps) s h =
    absurd (none-some s (sym (ap (λ (x : Term-F Term). under_frame x (suffix_at n)) (outs-Call f ps))
    ∙
    h))
counted n further _ (AFrame f ps t) s h =
    let d = depth-Frame f ps t in
    let inner = further t s (sym (suffix_at-Frame n f ps t) ∙ h) in
    omega arith

-- the part under n frames has n fewer
pub depth_after : (n : ℕ) (t : Term) → Counted n t
depth_after zero t = λ s h. let same : t ≡ s = cc in let e = ap depth_of same in omega arith
depth_after (suc n) t = counted n (λ u. depth_after n u) t (form t)

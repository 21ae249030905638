-- Induction over stacks, and what each definition by recursion on a stack says of each form of it.
use Rattle.std.proofs.Common.{◌≡◌, ◌∙◌, ap, sym, subst, refl, Bool, true, false, ◌&&◌, length, ℕ, suc, ◌+◌, Option, Some, None, List, [], ◌∷◌, ◌++◌, ℤ}
use Rattle.std.specs.Option.{option_map_or}
use Rattle.rx_poly.specs.Substitution.{subst_body}
use Rattle.rx_poly.specs.Value.{value}
use Rattle.rx_poly.specs.declared.body.Body.{Body}
use Rattle.rx_rewriting.specs.Terms as stack
use Rattle.rx_rewriting.specs.Terms.{Ground}
use Rattle.rx_term.specs.declared.term.Sym.{Sym}
use Rattle.rx_term.specs.declared.term.Term.{Term, Term-F}
use Rattle.rx_term.specs.declared.term.Term.TheViews.{roll-Term, rolls-Return, rolls-Fail, rolls-Call, rolls-Frame}
use Rattle.rx_term.specs.declared.term.Term.TheFolds.{fold_out-Term, ind-Term, map-Term}
use Rattle.rx_term.specs.declared.term.Term.TheVariants.{Return, Fail, Call, Frame, outs-Return, outs-Fail, outs-Call, outs-Frame}
use Rattle.rx_term.specs.Meaning.{values, ground_at, ground_level, outer_frames, outer_level}
use Rattle.rx_term.specs.Stacks.{suffix_at, depth_of, depth_level, plug_reversed, plug_reversed_level, redex_place, redex_place_level, replace_at, unwind, unwind_level, under_frame, over_frame}
use Rattle.rx_poly.specs.Variables.{uses_below}
use Rattle.rx_term.specs.Fitting.{code_fits, fits_level, is_declared, term_fits}
use Rattle.rx_term.specs.Shapes.{Shape, shape_level, shape_of}
use Rattle.rx_term.specs.Shapes as shape
use Rattle.rx_term.specs.Variables.{arguments_level, arguments_of, polys_use_below, term_below_level, term_uses_below}
use Rattle.rx_term.specs.declared.rule_set.RuleParts.{RuleParts}
use Rattle.rx_term.specs.Substitution.{subst_polys, polys_within, subst_term, subst_term_level, term_within, term_within_level}

-- a symbol is its number
pub symbols_are : (f g : Sym) → f.0 ≡ g.0 → f ≡ g
symbols_are f g e = (λ i. record { 0 = e i })

-- what holds of each result and call, and of a frame where it holds of the part under it, holds of
-- each term
module _ (P : Term → Type 0)
    (at_return : (p : Body) → P (Return p))
    (at_fail : (c : ℕ) → P (Fail c))
    (at_call : (f : Sym) (ps : List Body) → P (Call f ps))
    (at_frame : (f : Sym) (ps : List Body) (t : Term) → P t → P (Frame f ps t)) where
  abbrev Such : Type 0
  Such = (t : Term) × P t

  shown : (y : Term-F Such) → P (roll-Term (map-Term Such Term (λ (e : Such). e.0) y))
  shown (Term-F.Return p) = subst P (sym (rolls-Return p)) (at_return p)
  shown (Term-F.Fail c) = subst P (sym (rolls-Fail c)) (at_fail c)
  shown (Term-F.Call f ps) = subst P (sym (rolls-Call f ps)) (at_call f ps)
  shown (Term-F.Frame f ps t) = subst P (sym (rolls-Frame f ps t.0)) (at_frame f ps t.0 t.1)

  pub induct : (t : Term) → P t
  induct = ind-Term P (λ x y is. subst (λ (z : Term-F Term). P (roll-Term z)) is (shown y))

-- the number of frames
pub depth-Return : (p : Body) → depth_of (Return p) ≡ 0
depth-Return p = fold_out-Term ℕ depth_level (Return p) ∙ rw (outs-Return p) refl

pub depth-Fail : (c : ℕ) → depth_of (Fail c) ≡ 0
depth-Fail c = fold_out-Term ℕ depth_level (Fail c) ∙ rw (outs-Fail c) refl

pub depth-Call : (f : Sym) (ps : List Body) → depth_of (Call f ps) ≡ 0
depth-Call f ps = fold_out-Term ℕ depth_level (Call f ps) ∙ rw (outs-Call f ps) refl

pub depth-Frame : (f : Sym) (ps : List Body) (t : Term) → depth_of (Frame f ps t) ≡ 1 + depth_of t
depth-Frame f ps t = fold_out-Term ℕ depth_level (Frame f ps t) ∙ rw (outs-Frame f ps t) refl

-- one stack over another
pub plug_reversed-Return : (p : Body) (inner : Term) → plug_reversed (Return p) inner ≡ inner
plug_reversed-Return p inner =
    ap (λ (g : Term → Term). g inner) (fold_out-Term (Term → Term) plug_reversed_level (Return p)) ∙
    rw (outs-Return p) refl

pub plug_reversed-Frame : (f : Sym) (ps : List Body) (t inner : Term) →
    plug_reversed (Frame f ps t) inner ≡
    plug_reversed t (Frame f ps inner)
plug_reversed-Frame f ps t inner =
    ap (λ (g : Term → Term). g inner) (fold_out-Term (Term → Term) plug_reversed_level
    (Frame f ps t)) ∙
    rw (outs-Frame f ps t) refl

-- polynomials in place of variables
pub subst_term-Return : (ws : List (ℕ × Body)) (p : Body) → subst_term ws (Return p) ≡
    Return (subst_body ws p).form
subst_term-Return ws p =
    fold_out-Term Term (subst_term_level ws) (Return p) ∙ rw (outs-Return p) refl

pub subst_term-Fail : (ws : List (ℕ × Body)) (c : ℕ) → subst_term ws (Fail c) ≡ Fail c
subst_term-Fail ws c = fold_out-Term Term (subst_term_level ws) (Fail c) ∙ rw (outs-Fail c) refl

pub subst_term-Call : (ws : List (ℕ × Body)) (f : Sym) (ps : List Body) →
    subst_term ws (Call f ps) ≡
    Call f (subst_polys ws ps)
subst_term-Call ws f ps =
    fold_out-Term Term (subst_term_level ws) (Call f ps) ∙ rw (outs-Call f ps) refl

pub subst_term-Frame : (ws : List (ℕ × Body)) (f : Sym) (ps : List Body) (t : Term) →
    subst_term ws (Frame f ps t) ≡ Frame f (subst_polys ws ps) (subst_term ws t)
subst_term-Frame ws f ps t =
    fold_out-Term Term (subst_term_level ws) (Frame f ps t) ∙ rw (outs-Frame f ps t) refl

-- whether they keep the limits
pub within-Return : (ws : List (ℕ × Body)) (p : Body) → term_within ws (Return p) ≡
    (subst_body ws p).within
within-Return ws p = fold_out-Term Bool (term_within_level ws) (Return p) ∙ rw (outs-Return p) refl

pub within-Fail : (ws : List (ℕ × Body)) (c : ℕ) → term_within ws (Fail c) ≡ true
within-Fail ws c = fold_out-Term Bool (term_within_level ws) (Fail c) ∙ rw (outs-Fail c) refl

pub within-Call : (ws : List (ℕ × Body)) (f : Sym) (ps : List Body) → term_within ws (Call f ps) ≡
    polys_within ws ps
within-Call ws f ps =
    fold_out-Term Bool (term_within_level ws) (Call f ps) ∙ rw (outs-Call f ps) refl

pub within-Frame : (ws : List (ℕ × Body)) (f : Sym) (ps : List Body) (t : Term) →
    term_within ws (Frame f ps t) ≡ polys_within ws ps && term_within ws t
within-Frame ws f ps t =
    fold_out-Term Bool (term_within_level ws) (Frame f ps t) ∙ rw (outs-Frame f ps t) refl

-- the ground term
pub ground-Return : (a : ℕ → ℤ) (p : Body) → ground_at a (Return p) ≡ stack.Return (value a p)
ground-Return a p = fold_out-Term Ground (ground_level a) (Return p) ∙ rw (outs-Return p) refl

pub ground-Fail : (a : ℕ → ℤ) (c : ℕ) → ground_at a (Fail c) ≡ stack.Fail c
ground-Fail a c = fold_out-Term Ground (ground_level a) (Fail c) ∙ rw (outs-Fail c) refl

pub ground-Call : (a : ℕ → ℤ) (f : Sym) (ps : List Body) → ground_at a (Call f ps) ≡
    stack.Call f.0 (values a ps)
ground-Call a f ps = fold_out-Term Ground (ground_level a) (Call f ps) ∙ rw (outs-Call f ps) refl

pub ground-Frame : (a : ℕ → ℤ) (f : Sym) (ps : List Body) (t : Term) → ground_at a (Frame f ps t) ≡
    stack.Frame f.0 (values a ps) (ground_at a t)
ground-Frame a f ps t =
    fold_out-Term Ground (ground_level a) (Frame f ps t) ∙ rw (outs-Frame f ps t) refl

-- how many frames are over the redex
pub redex-Return : (p : Body) → redex_place (Return p) ≡ None
redex-Return p = fold_out-Term (Option ℕ) redex_place_level (Return p) ∙ rw (outs-Return p) refl

pub redex-Fail : (c : ℕ) → redex_place (Fail c) ≡ None
redex-Fail c = fold_out-Term (Option ℕ) redex_place_level (Fail c) ∙ rw (outs-Fail c) refl

pub redex-Call : (f : Sym) (ps : List Body) → redex_place (Call f ps) ≡ Some 0
redex-Call f ps = fold_out-Term (Option ℕ) redex_place_level (Call f ps) ∙ rw (outs-Call f ps) refl

pub redex-Frame : (f : Sym) (ps : List Body) (t : Term) → redex_place (Frame f ps t) ≡
    Some (option_map_or (λ n. 1 + n) (redex_place t) 0)
redex-Frame f ps t =
    fold_out-Term (Option ℕ) redex_place_level (Frame f ps t) ∙ rw (outs-Frame f ps t) refl

-- one step of the walks by number
pub suffix_at-Frame : (n : ℕ) (f : Sym) (ps : List Body) (t : Term) →
    suffix_at (suc n) (Frame f ps t) ≡
    suffix_at n t
suffix_at-Frame n f ps t = ap (λ (x : Term-F Term). under_frame x (suffix_at n)) (outs-Frame f ps t)

pub replace_at-Frame : (n : ℕ) (f : Sym) (ps : List Body) (t inner : Term) →
    replace_at (suc n) (Frame f ps t) inner ≡ Frame f ps (replace_at n t inner)
replace_at-Frame n f ps t inner =
    ap (λ (x : Term-F Term). over_frame x inner (λ rest. replace_at n rest inner))
    (outs-Frame f ps t)

pub unwind-Frame : (f : Sym) (ps : List Body) (t upper : Term) → unwind (Frame f ps t) upper ≡
    (Frame f ps upper, Some t)
unwind-Frame f ps t upper = ap (λ (x : Term-F Term). unwind_level x upper) (outs-Frame f ps t)

-- the polynomials
pub arguments-Return : (p : Body) → arguments_of (Return p) ≡ p ∷ []
arguments-Return p = fold_out-Term (List Body) arguments_level (Return p) ∙ rw (outs-Return p) refl

pub arguments-Fail : (c : ℕ) → arguments_of (Fail c) ≡ []
arguments-Fail c = fold_out-Term (List Body) arguments_level (Fail c) ∙ rw (outs-Fail c) refl

pub arguments-Call : (f : Sym) (ps : List Body) → arguments_of (Call f ps) ≡ ps
arguments-Call f ps =
    fold_out-Term (List Body) arguments_level (Call f ps) ∙ rw (outs-Call f ps) refl

pub arguments-Frame : (f : Sym) (ps : List Body) (t : Term) → arguments_of (Frame f ps t) ≡ ps ++
    arguments_of t
arguments-Frame f ps t =
    fold_out-Term (List Body) arguments_level (Frame f ps t) ∙ rw (outs-Frame f ps t) refl

-- whether only the first variables occur in it
pub below-Return : (n : ℕ) (p : Body) → term_uses_below n (Return p) ≡ uses_below n p
below-Return n p = fold_out-Term Bool (term_below_level n) (Return p) ∙ rw (outs-Return p) refl

pub below-Fail : (n : ℕ) (c : ℕ) → term_uses_below n (Fail c) ≡ true
below-Fail n c = fold_out-Term Bool (term_below_level n) (Fail c) ∙ rw (outs-Fail c) refl

pub below-Call : (n : ℕ) (f : Sym) (ps : List Body) → term_uses_below n (Call f ps) ≡
    polys_use_below n ps
below-Call n f ps = fold_out-Term Bool (term_below_level n) (Call f ps) ∙ rw (outs-Call f ps) refl

pub below-Frame : (n : ℕ) (f : Sym) (ps : List Body) (t : Term) → term_uses_below n (Frame f ps t) ≡
    polys_use_below n ps && term_uses_below n t
below-Frame n f ps t =
    fold_out-Term Bool (term_below_level n) (Frame f ps t) ∙ rw (outs-Frame f ps t) refl

-- whether it fits
pub fits-Return : (parts : RuleParts) (p : Body) → term_fits parts (Return p) ≡ true
fits-Return parts p = fold_out-Term Bool (fits_level parts) (Return p) ∙ rw (outs-Return p) refl

pub fits-Fail : (parts : RuleParts) (c : ℕ) → term_fits parts (Fail c) ≡ code_fits parts.fails c
fits-Fail parts c = fold_out-Term Bool (fits_level parts) (Fail c) ∙ rw (outs-Fail c) refl

pub fits-Call : (parts : RuleParts) (f : Sym) (ps : List Body) → term_fits parts (Call f ps) ≡
    is_declared parts.symbols f false (length ps)
fits-Call parts f ps = fold_out-Term Bool (fits_level parts) (Call f ps) ∙ rw (outs-Call f ps) refl

pub fits-Frame : (parts : RuleParts) (f : Sym) (ps : List Body) (t : Term) →
    term_fits parts (Frame f ps t) ≡ is_declared parts.symbols f true (length ps) &&
    term_fits parts t
fits-Frame parts f ps t =
    fold_out-Term Bool (fits_level parts) (Frame f ps t) ∙ rw (outs-Frame f ps t) refl

-- the shape
pub shape-Return : (p : Body) → shape_of (Return p) ≡ shape.Return
shape-Return p = fold_out-Term Shape shape_level (Return p) ∙ rw (outs-Return p) refl

pub shape-Fail : (c : ℕ) → shape_of (Fail c) ≡ shape.Fail c
shape-Fail c = fold_out-Term Shape shape_level (Fail c) ∙ rw (outs-Fail c) refl

pub shape-Call : (f : Sym) (ps : List Body) → shape_of (Call f ps) ≡ shape.Call f
shape-Call f ps = fold_out-Term Shape shape_level (Call f ps) ∙ rw (outs-Call f ps) refl

pub shape-Frame : (f : Sym) (ps : List Body) (t : Term) → shape_of (Frame f ps t) ≡
    shape.Frame f (shape_of t)
shape-Frame f ps t = fold_out-Term Shape shape_level (Frame f ps t) ∙ rw (outs-Frame f ps t) refl

-- the outer frames
pub outer-Frame : (a : ℕ → ℤ) (n : ℕ) (f : Sym) (ps : List Body) (t : Term) →
    outer_frames a (suc n) (Frame f ps t) ≡ record { symbol = f.0; arguments = values a ps } ∷
    outer_frames a n t
outer-Frame a n f ps t =
    ap (λ (x : Term-F Term). outer_level a x (outer_frames a n)) (outs-Frame f ps t)

-- the four forms of a term
pub data Form : Term → Type 0 where
  AReturn : (p : Body) → Form (Return p)
  AFail : (c : ℕ) → Form (Fail c)
  ACall : (f : Sym) (ps : List Body) → Form (Call f ps)
  AFrame : (f : Sym) (ps : List Body) (t : Term) → Form (Frame f ps t)

-- each term has one of them
pub form : (t : Term) → Form t
form = induct Form AReturn AFail ACall (λ f ps t inner. AFrame f ps t)

-- Terms of one shape that fit: they have equally many polynomials, and where these have equal
-- values they mean one ground term.
use Rattle.std.proofs.Common.{◌≡◌, ◌∙◌, ap, sym, subst, refl, Bool, true, false, ◌&&◌, ℕ, Option, Some, None, List, [], ◌∷◌, ◌++◌, length, take, drop, ℤ, arith}
use Rattle.std.specs.Prelude.{slice_get, nat_eq}
use Rattle.std.specs.Option.{option_map_or}
use Rattle.std.proofs.lemmas.Bool.{and_parts, eqb-true}
use Rattle.std.proofs.lemmas.List.{length-append, length-map, map-append}
use Rattle.std.proofs.Math.Seq.{drop-append_seam, take-append_seam}
use Rattle.rx_poly.specs.Value.{value}
use Rattle.rx_poly.specs.declared.body.Body.{Body}
use Rattle.rx_rewriting.specs.Terms as stack
use Rattle.rx_term.specs.Fitting.{is_alike, is_declared, term_fits}
use Rattle.rx_term.specs.Meaning.{values, ground_at}
use Rattle.rx_term.specs.Shapes.{shape_of}
use Rattle.rx_term.specs.Shapes as shapes
use Rattle.rx_term.specs.Variables.{arguments_of}
use Rattle.rx_term.specs.declared.rule_set.RuleParts.{RuleParts}
use Rattle.rx_term.specs.declared.rule_set.SymInfo.{SymInfo}
use Rattle.rx_term.specs.declared.term.Sym.{Sym}
use Rattle.rx_term.specs.declared.term.Term.{Term}
use Rattle.rx_term.specs.declared.term.Term.TheVariants.{Return, Fail, Call, Frame}
use Rattle.rx_term.proofs.Equations.{ACall, AFail, AFrame, AReturn, Form, arguments-Call, arguments-Fail, arguments-Frame, arguments-Return, fits-Call, fits-Frame, form, ground-Call, ground-Fail, ground-Frame, ground-Return, induct, shape-Call, shape-Fail, shape-Frame, shape-Return, symbols_are}

-- ---- symbols

-- what a symbol is declared as, where it is declared
abbrev pub declared_so : Option SymInfo → Bool → ℕ → Bool
declared_so o frame count =
    option_map_or (λ (s : SymInfo). is_alike s.frame frame && nat_eq s.arity count) o false

pub alike : (b c : Bool) → is_alike b c ≡ true → b ≡ c
alike true true h = refl
alike true false h = sym h
alike false true h = h
alike false false h = refl

one_count : (o : Option SymInfo) (b c : Bool) (m n : ℕ) → declared_so o b m ≡ true →
    declared_so o c n ≡ true → m ≡ n
one_count None b c m n h k = cc
one_count (Some s) b c m n h k =
    let first = and_parts (is_alike s.frame b) (nat_eq s.arity m) h in
    let second = and_parts (is_alike s.frame c) (nat_eq s.arity n) k in
    sym (eqb-true s.arity m first.1) ∙ eqb-true s.arity n second.1

-- a symbol is declared with one number of arguments
pub declared_once : (symbols : List SymInfo) (f : Sym) (b c : Bool) (m n : ℕ) →
    is_declared symbols f b m ≡ true → is_declared symbols f c n ≡ true → m ≡ n
declared_once symbols f b c m n h k = one_count (slice_get symbols f.0) b c m n h k

one_kind : (o : Option SymInfo) (b c : Bool) (m n : ℕ) → declared_so o b m ≡ true →
    declared_so o c n ≡ true → b ≡ c
one_kind None b c m n h k = cc
one_kind (Some s) b c m n h k =
    let first = and_parts (is_alike s.frame b) (nat_eq s.arity m) h in
    let second = and_parts (is_alike s.frame c) (nat_eq s.arity n) k in
    sym (alike s.frame b first.0) ∙ alike s.frame c second.0

-- and either as a frame or as a point
pub declared_kind : (symbols : List SymInfo) (f : Sym) (b c : Bool) (m n : ℕ) →
    is_declared symbols f b m ≡ true → is_declared symbols f c n ≡ true → b ≡ c
declared_kind symbols f b c m n h k = one_kind (slice_get symbols f.0) b c m n h k

-- ---- terms of one shape

-- terms that differ in their polynomials alone
pub data SameParts : Term → Term → Type 0 where
  SameReturn : (p q : Body) → SameParts (Return p) (Return q)
  SameFail : (c : ℕ) → SameParts (Fail c) (Fail c)
  SameCall : (f : Sym) (ps qs : List Body) → length ps ≡ length qs →
      SameParts (Call f ps) (Call f qs)
  SameFrame : (f : Sym) (ps qs : List Body) (s t : Term) → length ps ≡ length qs → SameParts s t →
      SameParts (Frame f ps s) (Frame f qs t)

module _ (parts : RuleParts) where
  abbrev Aligns : Term → Type 0
  Aligns s =
      (t : Term) → term_fits parts s ≡ true → term_fits parts t ≡ true → shape_of s ≡ shape_of t →
      SameParts s t

  return_aligns : (p : Body) (t : Term) → Form t → shape_of (Return p) ≡ shape_of t →
      SameParts (Return p) t
  return_aligns p _ (AReturn q) h = SameReturn p q
  return_aligns p _ (AFail c) h =
      let e : shapes.Return ≡ shapes.Fail c = sym (shape-Return p) ∙ h ∙ shape-Fail c in cc
  return_aligns p _ (ACall f qs) h =
      let e : shapes.Return ≡ shapes.Call f = sym (shape-Return p) ∙ h ∙ shape-Call f qs in cc
  return_aligns p _ (AFrame f qs t) h =
      let e : shapes.Return ≡ shapes.Frame f (shape_of t) = sym (shape-Return p) ∙ h ∙
      shape-Frame f qs t in cc

  fail_aligns : (c : ℕ) (t : Term) → Form t → shape_of (Fail c) ≡ shape_of t → SameParts (Fail c) t
  fail_aligns c _ (AReturn q) h =
      let e : shapes.Fail c ≡ shapes.Return = sym (shape-Fail c) ∙ h ∙ shape-Return q in cc
  fail_aligns c _ (AFail d) h =
      let e : shapes.Fail c ≡ shapes.Fail d = sym (shape-Fail c) ∙ h ∙ shape-Fail d in
      let same : c ≡ d = cc in
      subst (λ k. SameParts (Fail c) (Fail k)) same (SameFail c)
  fail_aligns c _ (ACall f qs) h =
      let e : shapes.Fail c ≡ shapes.Call f = sym (shape-Fail c) ∙ h ∙ shape-Call f qs in cc
  fail_aligns c _ (AFrame f qs t) h =
      let e : shapes.Fail c ≡ shapes.Frame f (shape_of t) = sym (shape-Fail c) ∙ h ∙
      shape-Frame f qs t in cc

  call_aligns : (f : Sym) (ps : List Body) (t : Term) → Form t → term_fits parts (Call f ps) ≡
      true → term_fits parts t ≡ true → shape_of (Call f ps) ≡ shape_of t → SameParts (Call f ps) t
  call_aligns f ps _ (AReturn q) fits also h =
      let e : shapes.Call f ≡ shapes.Return = sym (shape-Call f ps) ∙ h ∙ shape-Return q in cc
  call_aligns f ps _ (AFail c) fits also h =
      let e : shapes.Call f ≡ shapes.Fail c = sym (shape-Call f ps) ∙ h ∙ shape-Fail c in cc
  call_aligns f ps _ (ACall g qs) fits also h =
      let e : shapes.Call f ≡ shapes.Call g = sym (shape-Call f ps) ∙ h ∙ shape-Call g qs in
      let same : f ≡ g = cc in
      let first = sym (fits-Call parts f ps) ∙ fits in
      let second = ap (λ k. is_declared parts.symbols k false (length qs)) same ∙
      sym (fits-Call parts g qs) ∙ also in
      let count = declared_once parts.symbols f false false (length ps) (length qs) first second in
      subst (λ k. SameParts (Call f ps) (Call k qs)) same (SameCall f ps qs count)
  call_aligns f ps _ (AFrame g qs t) fits also h =
      let e : shapes.Call f ≡ shapes.Frame g (shape_of t) = sym (shape-Call f ps) ∙ h ∙
      shape-Frame g qs t in
      cc

  frame_aligns : (f : Sym) (ps : List Body) (s : Term) → Aligns s → (t : Term) → Form t →
      term_fits parts (Frame f ps s) ≡ true → term_fits parts t ≡ true → shape_of (Frame f ps s) ≡
      shape_of t → SameParts (Frame f ps s) t
  frame_aligns f ps s inner _ (AReturn q) fits also h =
      let e : shapes.Frame f (shape_of s) ≡ shapes.Return = sym (shape-Frame f ps s) ∙ h ∙
      shape-Return q in cc
  frame_aligns f ps s inner _ (AFail c) fits also h =
      let e : shapes.Frame f (shape_of s) ≡ shapes.Fail c = sym (shape-Frame f ps s) ∙ h ∙
      shape-Fail c in cc
  frame_aligns f ps s inner _ (ACall g qs) fits also h =
      let e : shapes.Frame f (shape_of s) ≡ shapes.Call g = sym (shape-Frame f ps s) ∙ h ∙
      shape-Call g qs in
      cc
  frame_aligns f ps s inner _ (AFrame g qs t) fits also h =
      let e : shapes.Frame f (shape_of s) ≡ shapes.Frame g (shape_of t) = sym (shape-Frame f ps s) ∙
      h ∙
      shape-Frame g qs t in
      let same : f ≡ g = cc in
      let below : shape_of s ≡ shape_of t = cc in
      let first = and_parts (is_declared parts.symbols f true (length ps)) (term_fits parts s)
      (sym (fits-Frame parts f ps s) ∙ fits) in
      let second = and_parts (is_declared parts.symbols g true (length qs)) (term_fits parts t)
      (sym (fits-Frame parts g qs t) ∙ also) in
      let count = declared_once parts.symbols f true true (length ps) (length qs) first.0
      (ap (λ k. is_declared parts.symbols k true (length qs)) same ∙ second.0) in
      subst (λ k. SameParts (Frame f ps s) (Frame k qs t)) same
      (SameFrame f ps qs s t count (inner t first.1 second.1 below))

  -- fitting terms of one shape differ in their polynomials alone
  pub aligned : (s : Term) → Aligns s
  aligned = induct Aligns
      (λ p t fits also h. return_aligns p t (form t) h)
      (λ c t fits also h. fail_aligns c t (form t) h)
      (λ f ps t fits also h. call_aligns f ps t (form t) fits also h)
      (λ f ps s inner t fits also h. frame_aligns f ps s inner t (form t) fits also h)

-- ---- their polynomials

-- there are equally many
pub same_count : (s t : Term) → SameParts s t → length (arguments_of s) ≡ length (arguments_of t)
same_count _ _ (SameReturn p q) =
    ap length (arguments-Return p) ∙ sym (ap length (arguments-Return q))
same_count _ _ (SameFail c) = refl
same_count _ _ (SameCall f ps qs count) =
    ap length (arguments-Call f ps) ∙ count ∙ sym (ap length (arguments-Call f qs))
same_count _ _ (SameFrame f ps qs s t count inner) =
    let first = ap length (arguments-Frame f ps s) ∙ length-append ps (arguments_of s) in
    let second = ap length (arguments-Frame f qs t) ∙ length-append qs (arguments_of t) in
    let rest = same_count s t inner in
    omega arith

length-values : (a : ℕ → ℤ) (ps : List Body) → length (values a ps) ≡ length ps
length-values a ps = length-map ps (value a)

-- lists that are equal after beginnings of one length are equal in both parts
pub parts_equal : (xs ys us vs : List ℤ) → length xs ≡ length ys → xs ++ us ≡ ys ++ vs → (xs ≡ ys) ×
    (us ≡ vs)
parts_equal xs ys us vs long e = (
  sym (take-append_seam xs us) ∙ ap (take (length xs)) e ∙ ap (λ n. take n (ys ++ vs)) long ∙
      take-append_seam ys vs,
  sym (drop-append_seam xs us) ∙ ap (drop (length xs)) e ∙ ap (λ n. drop n (ys ++ vs)) long ∙
      drop-append_seam ys vs,
)

one_value : (a b : ℕ → ℤ) (p q : Body) → values a (p ∷ []) ≡ values b (q ∷ []) → value a p ≡
    value b q
one_value a b p q e = cc

-- where they have equal values, the ground terms are one
pub same_ground : (a b : ℕ → ℤ) (s t : Term) → SameParts s t → values a (arguments_of s) ≡
    values b (arguments_of t) → ground_at a s ≡ ground_at b t
same_ground a b _ _ (SameReturn p q) e =
    ground-Return a p ∙ ap stack.Return (one_value a b p q
    (sym (ap (values a) (arguments-Return p)) ∙ e ∙ ap (values b) (arguments-Return q))) ∙
    sym (ground-Return b q)
same_ground a b _ _ (SameFail c) e = ground-Fail a c ∙ sym (ground-Fail b c)
same_ground a b _ _ (SameCall f ps qs count) e =
    ground-Call a f ps ∙ ap (stack.Call f.0) (sym (ap (values a) (arguments-Call f ps)) ∙ e ∙
    ap (values b) (arguments-Call f qs)) ∙ sym (ground-Call b f qs)
same_ground a b _ _ (SameFrame f ps qs s t count inner) e =
    let left = ap (values a) (arguments-Frame f ps s) ∙ map-append (value a) ps (arguments_of s) in
    let right = ap (values b) (arguments-Frame f qs t) ∙ map-append (value b) qs (arguments_of t) in
    let long = length-values a ps ∙ count ∙ sym (length-values b qs) in
    let both = parts_equal (values a ps) (values b qs) (values a (arguments_of s))
    (values b (arguments_of t)) long (sym left ∙ e ∙ right) in
    ground-Frame a f ps s ∙ ap (λ zs. stack.Frame f.0 zs (ground_at a s)) both.0 ∙
    ap (stack.Frame f.0 (values b qs)) (same_ground a b s t inner both.1) ∙
    sym (ground-Frame b f qs t)

-- ---- from the ground terms back

-- they have one shape
pub same_parts_shape : (s t : Term) → SameParts s t → shape_of s ≡ shape_of t
same_parts_shape _ _ (SameReturn p q) = shape-Return p ∙ sym (shape-Return q)
same_parts_shape _ _ (SameFail c) = refl
same_parts_shape _ _ (SameCall f ps qs count) = shape-Call f ps ∙ sym (shape-Call f qs)
same_parts_shape _ _ (SameFrame f ps qs s t count inner) =
    shape-Frame f ps s ∙ ap (shapes.Frame f) (same_parts_shape s t inner) ∙ sym (shape-Frame f qs t)

module _ (a b : ℕ → ℤ) where
  -- the two terms differ in their polynomials alone, and these have equal values
  pub record Alike (s t : Term) : Type 0 where
    pub parts : SameParts s t
    pub equal : values a (arguments_of s) ≡ values b (arguments_of t)

  abbrev Back : Term → Type 0
  Back s = (t : Term) → ground_at a s ≡ ground_at b t → Alike s t

  back_return : (p : Body) (t : Term) → Form t → ground_at a (Return p) ≡ ground_at b t →
      Alike (Return p) t
  back_return p _ (AReturn q) h =
      let e : stack.Return (value a p) ≡ stack.Return (value b q) = sym (ground-Return a p) ∙ h ∙
      ground-Return b q in
      let same : value a p ≡ value b q = cc in
      record {
        parts = SameReturn p q;
        equal = ap (values a) (arguments-Return p) ∙
            (λ i. same i ∷ []) ∙ sym (ap (values b) (arguments-Return q));
      }
  back_return p _ (AFail c) h =
      let e : stack.Return (value a p) ≡ stack.Fail c = sym (ground-Return a p) ∙ h ∙
      ground-Fail b c in cc
  back_return p _ (ACall g qs) h =
      let e : stack.Return (value a p) ≡ stack.Call g.0 (values b qs) = sym (ground-Return a p) ∙
      h ∙
      ground-Call b g qs in cc
  back_return p _ (AFrame g qs t) h =
      let e : stack.Return (value a p) ≡ stack.Frame g.0 (values b qs) (ground_at b t) =
      sym (ground-Return a p) ∙ h ∙ ground-Frame b g qs t in cc

  back_fail : (c : ℕ) (t : Term) → Form t → ground_at a (Fail c) ≡ ground_at b t → Alike (Fail c) t
  back_fail c _ (AReturn q) h =
      let e : stack.Fail c ≡ stack.Return (value b q) = sym (ground-Fail a c) ∙ h ∙
      ground-Return b q in cc
  back_fail c _ (AFail d) h =
      let e : stack.Fail c ≡ stack.Fail d = sym (ground-Fail a c) ∙ h ∙ ground-Fail b d in
      let same : c ≡ d = cc in
      subst (λ k. Alike (Fail c) (Fail k)) same
      (record {
        parts = SameFail c;
        equal = ap (values a) (arguments-Fail c) ∙
            sym (ap (values b) (arguments-Fail c));
      })
  back_fail c _ (ACall g qs) h =
      let e : stack.Fail c ≡ stack.Call g.0 (values b qs) = sym (ground-Fail a c) ∙ h ∙
      ground-Call b g qs in cc
  back_fail c _ (AFrame g qs t) h =
      let e : stack.Fail c ≡ stack.Frame g.0 (values b qs) (ground_at b t) = sym (ground-Fail a c) ∙
      h ∙ ground-Frame b g qs t in cc

  counted : (ps qs : List Body) → values a ps ≡ values b qs → length ps ≡ length qs
  counted ps qs e = sym (length-values a ps) ∙ ap length e ∙ length-values b qs

  back_call : (f : Sym) (ps : List Body) (t : Term) → Form t → ground_at a (Call f ps) ≡
      ground_at b t → Alike (Call f ps) t
  back_call f ps _ (AReturn q) h =
      let e : stack.Call f.0 (values a ps) ≡ stack.Return (value b q) = sym (ground-Call a f ps) ∙
      h ∙
      ground-Return b q in cc
  back_call f ps _ (AFail d) h =
      let e : stack.Call f.0 (values a ps) ≡ stack.Fail d = sym (ground-Call a f ps) ∙ h ∙
      ground-Fail b d in cc
  back_call f ps _ (ACall g qs) h =
      let e : stack.Call f.0 (values a ps) ≡ stack.Call g.0 (values b qs) =
      sym (ground-Call a f ps) ∙ h ∙ ground-Call b g qs in
      let number : f.0 ≡ g.0 = cc in
      let listed : values a ps ≡ values b qs = cc in
      subst (λ k. Alike (Call f ps) (Call k qs)) (symbols_are f g number) (record {
        parts = SameCall f ps qs (counted ps qs listed);
        equal =
            ap (values a) (arguments-Call f ps) ∙ listed ∙
            sym (ap (values b) (arguments-Call f qs));
      })
  back_call f ps _ (AFrame g qs t) h =
      let e : stack.Call f.0 (values a ps) ≡ stack.Frame g.0 (values b qs) (ground_at b t) =
      sym (ground-Call a f ps) ∙ h ∙ ground-Frame b g qs t in cc

  back_frame : (f : Sym) (ps : List Body) (s : Term) → Back s → (t : Term) → Form t →
      ground_at a (Frame f ps s) ≡ ground_at b t → Alike (Frame f ps s) t
  back_frame f ps s inner _ (AReturn q) h =
      let e : stack.Frame f.0 (values a ps) (ground_at a s) ≡ stack.Return (value b q) =
      sym (ground-Frame a f ps s) ∙ h ∙ ground-Return b q in cc
  back_frame f ps s inner _ (AFail d) h =
      let e : stack.Frame f.0 (values a ps) (ground_at a s) ≡ stack.Fail d =
      sym (ground-Frame a f ps s) ∙ h ∙ ground-Fail b d in cc
  back_frame f ps s inner _ (ACall g qs) h =
      let e : stack.Frame f.0 (values a ps) (ground_at a s) ≡ stack.Call g.0 (values b qs) =
      sym (ground-Frame a f ps s) ∙ h ∙ ground-Call b g qs in cc
  back_frame f ps s inner _ (AFrame g qs t) h =
      let e : stack.Frame f.0 (values a ps) (ground_at a s) ≡
      stack.Frame g.0 (values b qs) (ground_at b t) = sym (ground-Frame a f ps s) ∙ h ∙
      ground-Frame b g qs t in
      let number : f.0 ≡ g.0 = cc in
      let listed : values a ps ≡ values b qs = cc in
      let below : ground_at a s ≡ ground_at b t = cc in
      let rest = inner t below in
      subst (λ k. Alike (Frame f ps s) (Frame k qs t)) (symbols_are f g number) (record {
        parts = SameFrame f ps qs s t (counted ps qs listed) rest.parts;
        equal = ap (values a) (arguments-Frame f ps s) ∙ map-append (value a) ps (arguments_of s)
            ∙ (λ i. listed i ++ rest.equal i)
            ∙ sym (ap (values b) (arguments-Frame f qs t) ∙
            map-append (value b) qs (arguments_of t));
      })

  -- what one ground term says of two terms
  pub ground_alike : (s t : Term) → ground_at a s ≡ ground_at b t → Alike s t
  ground_alike = induct Back
      (λ p t h. back_return p t (form t) h)
      (λ c t h. back_fail c t (form t) h)
      (λ f ps t h. back_call f ps t (form t) h)
      (λ f ps s inner t h. back_frame f ps s inner t (form t) h)

-- two fitting terms of one shape whose polynomials have equal values mean one ground term
pub one_ground_term : (parts : RuleParts) (a b : ℕ → ℤ) (s t : Term) → term_fits parts s ≡ true →
    term_fits parts t ≡ true → shape_of s ≡ shape_of t
    → values a (arguments_of s) ≡ values b (arguments_of t) → ground_at a s ≡ ground_at b t
one_ground_term parts a b s t fits also shape equal =
    same_ground a b s t (aligned parts s t fits also shape) equal

-- The example is well made and paired, so it is covered, and inside its smaller set of terms too.
use Rattle.std.proofs.Common.{◌≡◌, ◌∙◌, ap, sym, subst, refl, Bool, true, false, true≢false, cond, Option, Some, None, ℕ, zero, suc, List, [], ◌∷◌, length, ℤ, pos, negsuc, arith}
use Rattle.std.specs.Prelude.{◌&&◌, nat_eq, nat_le, nat_lt, slice_get}
use Rattle.std.specs.List.{enumerate_from}
use Rattle.std.proofs.lemmas.Bool.{and_from, and_parts, eq-eqb, leb-true}
use Rattle.std.proofs.lemmas.List.Elements.{All-cons, All-head, All-nil}
use Rattle.rx_poly.specs.Constants.{number, variable}
use Rattle.rx_poly.specs.Limits.{body_sum}
use Rattle.rx_poly.specs.Substitution.{updated_assignment}
use Rattle.rx_poly.specs.Value.{value}
use Rattle.rx_poly.specs.Variables.{uses_below}
use Rattle.rx_poly.specs.declared.body.Body.{Body}
use Rattle.rx_poly_laws.proofs.TestLaws.{passes-body_sum, passes-number, passes-variable}
use Rattle.rx_rewriting.specs.Terms as stack
use Rattle.rx_rewriting.specs.Terms.{Ground, Declares, Fits, Symbol}
use Rattle.rx_rewriting.specs.Premises.{ClosedUnderSubterms, Reducible}
use Rattle.rx_row.specs.declared.row.Row.TheVariants.{Eq}
use Rattle.rx_term.specs.Covered.{IsCoveredOver, KeepsDomains}
use Rattle.rx_term.specs.Example.{f, g, ends, goes_on, adds, fails, example, AtLeastZero, IsInside, counting, negative_call}
use Rattle.rx_term.specs.Fitting.{code_fits, term_fits}
use Rattle.rx_term.specs.Meaning.{Instance, CallRedex, ReturnRedex, FailRedex, matched, signature, values}
use Rattle.rx_term.specs.Paired.{PointShape, ReturnShape, FailShape, IsPair, One, Two, IsPaired}
use Rattle.rx_term.specs.Shapes.{same_shape, shape_of}
use Rattle.rx_term.specs.Shapes as shapes
use Rattle.rx_row.specs.Variables.{rows_use_below}
use Rattle.rx_term.specs.Variables.{polys_use_below, term_uses_below}
use Rattle.rx_term.specs.WellMade.{OfPoint, OverReturn, OverFail, IsMade, IsWellMade, width}
use Rattle.rx_term.specs.declared.rule.Rule.{Rule}
use Rattle.rx_term.specs.declared.term.Sym.{Sym}
use Rattle.rx_term.specs.declared.term.Term.TheVariants.{Return, Fail, Call, Frame}
use Rattle.rx_term.proofs.Equations.{arguments-Return, arguments-Fail, arguments-Call, arguments-Frame, below-Return, below-Fail, below-Call, below-Frame, fits-Return, fits-Fail, fits-Call, fits-Frame, ground-Call, shape-Return, shape-Fail, shape-Call, shape-Frame}
use Rattle.rx_term.proofs.CoveredLaws.{covered_moves}
use Rattle.rx_term.proofs.PairedLaws.{paired_covers}
use Rattle.rx_term.proofs.ShapeLaws.{declared_so}

abbrev x0 : List Body
x0 = variable 0 ∷ []

-- ---- well made

point_width : width (Call f x0) ≡ 1
point_width = ap length (arguments-Call f x0)

value_width : width (Frame g x0 (Return (variable 1))) ≡ 2
value_width =
    ap length (arguments-Frame g x0 (Return (variable 1))) ∙
    ap (λ qs. length (variable 0 ∷ qs)) (arguments-Return (variable 1))

failure_width : width (Frame g x0 (Fail 1)) ≡ 1
failure_width =
    ap length (arguments-Frame g x0 (Fail 1)) ∙
    ap (λ qs. length (variable 0 ∷ qs)) (arguments-Fail 1)

-- a variable below the number is one of those that may be used
below-variable : (n v : ℕ) → nat_lt v n ≡ true → uses_below n (variable v) ≡ true
below-variable n v h = passes-variable (λ w. nat_lt w n) v h

below-x0 : (n : ℕ) → nat_lt 0 n ≡ true → polys_use_below n x0 ≡ true
below-x0 n h = and_from (uses_below n (variable 0)) true (below-variable n 0 h) refl

ends_made : IsMade example ends
ends_made = record {
  form = OfPoint f 1;
  few = omega (arith, point_width);
  left_fits = fits-Call example f x0;
  right_fits = fits-Return example (number (pos 0));
  right_variables =
      below-Return (width ends.left) (number (pos 0)) ∙
      passes-number (λ w. nat_lt w (width ends.left)) (pos 0);
  row_variables = ap (λ n. rows_use_below n ends.rows) point_width ∙ below-x0 1 refl;
}

goes_on_fits : term_fits example goes_on.right ≡ true
goes_on_fits =
    fits-Frame example g x0 (Call f (number (pos 0) ∷ [])) ∙
    fits-Call example f (number (pos 0) ∷ [])

below-zero : (n : ℕ) → polys_use_below n (number (pos 0) ∷ []) ≡ true
below-zero n =
    and_from (uses_below n (number (pos 0))) true (passes-number (λ w. nat_lt w n) (pos 0)) refl

goes_on_below : (n : ℕ) → nat_lt 0 n ≡ true → term_uses_below n goes_on.right ≡ true
goes_on_below n h =
    below-Frame n g x0 (Call f (number (pos 0) ∷ []))
    ∙ and_from (polys_use_below n x0) (term_uses_below n (Call f (number (pos 0) ∷ [])))
    (below-x0 n h)
    (below-Call n f (number (pos 0) ∷ []) ∙ below-zero n)

goes_on_made : IsMade example goes_on
goes_on_made = record {
  form = OfPoint f 1;
  few = omega (arith, point_width);
  left_fits = fits-Call example f x0;
  right_fits = goes_on_fits;
  right_variables = ap (λ n. term_uses_below n goes_on.right) point_width ∙ goes_on_below 1 refl;
  row_variables = ap (λ n. rows_use_below n goes_on.rows) point_width ∙ below-x0 1 refl;
}

adds_made : IsMade example adds
adds_made = record {
  form = OverReturn g 1;
  few = omega (arith, value_width);
  left_fits = fits-Frame example g x0 (Return (variable 1)) ∙ fits-Return example (variable 1);
  right_fits = fits-Return example (body_sum (variable 0) (variable 1));
  right_variables =
      ap (λ n. term_uses_below n adds.right) value_width ∙
      below-Return 2 (body_sum (variable 0) (variable 1))
      ∙ passes-body_sum (λ w. nat_lt w 2) (variable 0) (variable 1) (below-variable 2 0 refl)
      (below-variable 2 1 refl);
  row_variables = refl;
}

fails_made : IsMade example fails
fails_made = record {
  form = OverFail g 1 1;
  few = omega (arith, failure_width);
  left_fits = fits-Frame example g x0 (Fail 1) ∙ fits-Fail example 1;
  right_fits = fits-Fail example 1;
  right_variables = below-Fail (width fails.left) 1;
  row_variables = refl;
}

pub example_made : IsWellMade example
example_made =
    let none = All-nil (IsMade example) in
    let one = All-cons (IsMade example) fails [] fails_made none in
    let two = All-cons (IsMade example) adds (fails ∷ []) adds_made one in
    let three = All-cons (IsMade example) goes_on (adds ∷ fails ∷ []) goes_on_made two in
    All-cons (IsMade example) ends (goes_on ∷ adds ∷ fails ∷ []) ends_made three

-- ---- paired

one_point : (k n : ℕ) → declared_so (slice_get example.symbols k) false n ≡ true → 0 ≡ k
one_point zero n h = refl
one_point (suc zero) n h = cc
one_point (suc (suc k)) n h = cc

one_frame : (k n : ℕ) → declared_so (slice_get example.symbols k) true n ≡ true → 1 ≡ k
one_frame zero n h = cc
one_frame (suc zero) n h = refl
one_frame (suc (suc k)) n h = cc

one_code : (c : ℕ) → code_fits 1 c ≡ true → 1 ≡ c
one_code c h =
    let both = and_parts (nat_le 1 c) (nat_le c 1) h in
    let low = leb-true 1 c both.0 in
    let high = leb-true c 1 both.1 in
    omega (arith, low, high)

-- the rule in front of the others, where it is one of the shape
abbrev kept_if : Bool → Rule → List Rule → List Rule
kept_if b r rs = cond b (r ∷ rs) rs

abbrev Picked : Bool → Bool → Bool → Bool → Type 0
Picked a b c d = IsPair (kept_if a ends (kept_if b goes_on (kept_if c adds (kept_if d fails []))))

-- the rules of a shape by the four tests
picked : {a b c d : Bool} (a' b' c' d' : Bool) → a ≡ a' → b ≡ b' → c ≡ c' → d ≡ d' →
    Picked a' b' c' d' → Picked a b c d
picked {a} {b} {c} {d} a' b' c' d' ea eb ec ed pair =
    subst (λ x. Picked x b c d) (sym ea) (subst (λ x. Picked a' x c d) (sym eb)
    (subst (λ x. Picked a' b' x d) (sym ec) (subst (Picked a' b' c') (sym ed) pair)))

shape-value : shape_of adds.left ≡ shapes.Frame g shapes.Return
shape-value =
    shape-Frame g x0 (Return (variable 1)) ∙ ap (shapes.Frame g) (shape-Return (variable 1))

shape-failure : shape_of fails.left ≡ shapes.Frame g (shapes.Fail 1)
shape-failure = shape-Frame g x0 (Fail 1) ∙ ap (shapes.Frame g) (shape-Fail 1)

pub example_paired : IsPaired example
example_paired _ (PointShape s n h) =
    let point : same_shape (shape_of (Call f x0)) (shapes.Call s) ≡ true =
    ap (λ z. same_shape z (shapes.Call s)) (shape-Call f x0) ∙ eq-eqb 0 s.0 (one_point s.0 n h) in
    let value = ap (λ z. same_shape z (shapes.Call s)) shape-value in
    let failure = ap (λ z. same_shape z (shapes.Call s)) shape-failure in
    picked true true false false point point value failure
    (Two ends goes_on (Eq (variable 0)) refl refl refl)
example_paired _ (ReturnShape s n h) =
    let shape = shapes.Frame s shapes.Return in
    let point = ap (λ z. same_shape z shape) (shape-Call f x0) in
    let same : nat_eq 1 s.0 ≡ true = eq-eqb 1 s.0 (one_frame s.0 n h) in
    let value = ap (λ z. same_shape z shape) shape-value ∙ ap (λ b. b && true) same in
    let failure = ap (λ z. same_shape z shape) shape-failure ∙ ap (λ b. b && false) same in
    picked false false true false point point value failure (One adds refl)
example_paired _ (FailShape s n c h k) =
    let shape = shapes.Frame s (shapes.Fail c) in
    let point = ap (λ z. same_shape z shape) (shape-Call f x0) in
    let same : nat_eq 1 s.0 ≡ true = eq-eqb 1 s.0 (one_frame s.0 n h) in
    let code : nat_eq 1 c ≡ true = eq-eqb 1 c (one_code c k) in
    let value = ap (λ z. same_shape z shape) shape-value ∙ ap (λ b. b && false) same in
    let failure = ap (λ z. same_shape z shape) shape-failure ∙ (λ i. same i && code i) in
    picked false false false true point point value failure (One fails refl)

-- ---- inside

pub inside_fits : (s : Ground) → IsInside s → Fits (signature example) s
inside_fits s in_s = in_s.0

pub inside_inner : ClosedUnderSubterms IsInside
inside_inner s xs t whole = (whole.0.1, whole.1)

-- what a declaration says, also of a symbol that is not declared
abbrev arity_of : Option Symbol → ℕ
arity_of (Some symbol) = symbol.arity
arity_of None = 0

abbrev stands_as_frame : Option Symbol → Bool
stands_as_frame (Some symbol) = symbol.is_frame
stands_as_frame None = false

abbrev is_there : Option Symbol → Bool
is_there (Some symbol) = true
is_there None = false

-- a fitting call has an argument
no_argument : (k : ℕ) → Declares (signature example) k false 0 → ⊥
no_argument zero fits = let wrong : 1 ≡ 0 = ap arity_of fits in omega (arith, wrong)
no_argument (suc zero) fits = true≢false (ap stands_as_frame fits)
no_argument (suc (suc k)) fits = true≢false (sym (ap is_there fits))

call_counts : (a : ℕ → ℤ) (s : Sym) (ps : List Body) → IsInside (stack.Call s.0 (values a ps)) →
    AtLeastZero (updated_assignment a (enumerate_from 0 ps) 0)
call_counts a s [] in_s = absurd (no_argument s.0 in_s.0)
call_counts a s (p ∷ ps) in_s = All-head AtLeastZero (value a p) (values a ps) in_s.1

pub inside_domains : KeepsDomains IsInside counting
inside_domains _ (CallRedex s ps) a in_s =
    subst (λ z. counting z (updated_assignment a (matched (Call s ps)))) (sym (shape-Call s ps))
    (subst (λ qs. AtLeastZero (updated_assignment a (enumerate_from 0 qs) 0))
    (sym (arguments-Call s ps))
    (call_counts a s ps (subst IsInside (ground-Call a s ps) in_s)))
inside_domains _ (ReturnRedex s ps p) a in_s =
    subst (λ z. counting z (updated_assignment a (matched (Frame s ps (Return p)))))
    (sym (shape-Frame s ps (Return p))) tt
inside_domains _ (FailRedex s ps c) a in_s =
    subst (λ z. counting z (updated_assignment a (matched (Frame s ps (Fail c)))))
    (sym (shape-Frame s ps (Fail c))) tt

-- ---- what the laws then say

pub example_covered : IsCoveredOver counting example
example_covered shape is a domain = paired_covers example example_paired shape is a tt

pub negative_outside : Fits (signature example) negative_call × (IsInside negative_call → ⊥)
negative_outside = (refl, λ in_s. All-head AtLeastZero (negsuc 0) [] in_s.1)

pub inside_moves : Reducible IsInside (Instance example.rules)
inside_moves =
    covered_moves example counting example_covered example_made IsInside inside_fits inside_domains
    inside_inner

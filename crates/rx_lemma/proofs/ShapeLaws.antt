-- Naming keeps the shapes of both sides.
use Rattle.std.proofs.Common.{◌≡◌, ◌∙◌, ap, sym, refl, Bool, true, false, ℕ, zero, suc, ◌+◌, Option, Some, None, List, [], IfSome, ℤ, arith}
use Rattle.std.specs.Prelude.{if◌then◌else◌, nat_lt, length, slice_set, ◌||◌}
use Rattle.std.specs.Option.{option_map_or}
use Rattle.std.proofs.lemmas.Option.{IfSome_then}
use Rattle.rx_poly.specs.Constants.{variable}
use Rattle.rx_poly.specs.declared.body.Body.{Body}
use Rattle.rx_row.specs.Naming.{named}
use Rattle.rx_solve.specs.Attempts.{Tried, applies, beyond, fails}
use Rattle.rx_term.specs.Bounds.{equation_bound}
use Rattle.rx_term.specs.Shapes.{shape_of}
use Rattle.rx_term.specs.Shapes as shapes_spec
use Rattle.rx_term.specs.Stacks.{redex_place, replace_redex, replace_at}
use Rattle.rx_term.specs.declared.rule.Equation.{Equation}
use Rattle.rx_term.specs.declared.rule_set.RuleParts.{RuleParts}
use Rattle.rx_term.specs.declared.term.Sym.{Sym}
use Rattle.rx_term.specs.declared.term.Term.{Term}
use Rattle.rx_term.specs.declared.term.Term.TheVariants.{Call, Frame}
use Rattle.rx_term.proofs.Equations.{induct, redex-Call, redex-Frame, replace_at-Frame, shape-Call, shape-Frame}
use Rattle.rx_inference.specs.Pieces.{side_of, other_side}
use Rattle.rx_inference.specs.declared.step.Side.{Side}
use Rattle.rx_inference.specs.declared.step.Side.TheVariants.{Left, Right}
use Rattle.rx_lemma.proofs.CallLaws.{call-Return, call-Fail, call-Call, call-Frame}
use Rattle.rx_lemma.specs.Calls.{Applied, call_of}
use Rattle.rx_lemma.specs.NamingCalls.{constant_at, variable_at, with_variable, with_variable_in}
use Rattle.rx_lemma.specs.Naming.{gives, goal_with, named_arguments, named_as, named_goal, named_new, naming_at, naming_both, naming_by, naming_constant, naming_from, naming_if, naming_new, naming_of, has_constant}
use Rattle.rx_lemma.specs.Lemmas.{variables_end}
use Rattle.rx_lemma.specs.Shapes.{HasShapesOf, NamingKeepsShapes}
use Rattle.rx_lemma.specs.declared.constants.Naming.{Naming}
use Rattle.rx_lemma.specs.Lemmas.{Generalisation}

no_call : (c : Applied) → ◌≡◌ {A = Option Applied} None (Some c) → ⊥
no_call c e = cc

-- the call is the redex, and another one of its symbol in its place keeps the shape
module _ (c : Applied) (qs : List Body) where
  record Keeping (t : Term) : Type 0 where
    place : ℕ
    there : redex_place t ≡ Some place
    shape : shape_of (replace_at place t (Call c.symbol qs)) ≡ shape_of t

  abbrev Keeps : Term → Type 0
  Keeps t = call_of t ≡ Some c → Keeping t

  at_call : (f : Sym) (ps : List Body) → Keeps (Call f ps)
  at_call f ps e =
      let same : f ≡ c.symbol = cc (call-Call f ps) in record {
        place = 0;
        there = redex-Call f ps;
        shape =
            shape-Call c.symbol qs ∙ sym (ap (λ g. shape_of (Call g ps)) same ∙
            shape-Call c.symbol ps);
      }

  at_frame : (f : Sym) (ps : List Body) (t : Term) → Keeps t → Keeps (Frame f ps t)
  at_frame f ps t inner e =
      let k = inner (sym (call-Frame f ps t) ∙ e) in
      let next : 1 + k.place ≡ suc k.place = omega arith in record {
        place = suc k.place;
        there =
            redex-Frame f ps t ∙ ap (λ (o : Option ℕ). Some (option_map_or (λ n. 1 + n) o 0))
            k.there ∙ ap (λ (n : ℕ). Some n) next;
        shape =
            ap shape_of (replace_at-Frame k.place f ps t (Call c.symbol qs)) ∙
            shape-Frame f ps (replace_at k.place t (Call c.symbol qs))
            ∙ ap (shapes_spec.Frame f) k.shape ∙ sym (shape-Frame f ps t);
      }

  keeps : (t : Term) → Keeps t
  keeps =
      induct Keeps (λ p e. absurd (no_call c (sym (call-Return p) ∙ e)))
      (λ n e. absurd (no_call c (sym (call-Fail n) ∙ e))) at_call at_frame

  replacing_keeps : (t : Term) → call_of t ≡ Some c →
      shape_of (replace_redex t (Call c.symbol qs)) ≡ shape_of t
  replacing_keeps t e =
      let k = keeps t e in
      ap (λ (o : Option ℕ). shape_of (option_map_or (λ n. replace_at n t (Call c.symbol qs)) o t))
      k.there ∙ k.shape

shape_with_variable : (place v : ℕ) (t : Term) → shape_of (with_variable place v t) ≡ shape_of t
unfolding with_variable
shape_with_variable place v t = by (call_of t) refl where
  by : (o : Option Applied) → call_of t ≡ o → shape_of (with_variable_in place v o t) ≡ shape_of t
  by None e = refl
  by (Some c) e = replacing_keeps c (slice_set c.arguments place (variable v)) t e

-- ---- naming

goal_with_keeps : (side : Side) (place v : ℕ) (goal : Equation) →
    HasShapesOf goal (goal_with side place v goal)
goal_with_keeps Left place v goal =
    record { left = shape_with_variable place v goal.left; right = refl }
goal_with_keeps Right place v goal =
    record { left = refl; right = shape_with_variable place v goal.right }

abbrev Kept : Naming → Tried Naming → Type 0
Kept n t = IfSome t.made (λ (m : Naming). HasShapesOf n.goal m.goal)

kept_if : (n : Naming) (b : Bool) (t u : Tried Naming) → Kept n t → Kept n u →
    Kept n (if b then t else u)
kept_if n true t u k l = k
kept_if n false t u k l = l

kept_new : (side : Side) (place : ℕ) (c : ℤ) (n : Naming) → Kept n (naming_new side place c n)
unfolding naming_new
kept_new side place c n =
    let f = named n.fresh c in
    let t = applies (named_new side place c f.form n) in
    let shapes = goal_with_keeps side place n.fresh n.goal in
    kept_if n (nat_lt n.fresh variables_end) (if f.within then t else beyond) fails
    (kept_if n f.within t beyond (record { left = shapes.left; right = shapes.right }) tt) tt

kept_by : (side : Side) (place : ℕ) (c : ℤ) (n : Naming) (o : Option ℕ) →
    Kept n (naming_by side place c n o)
kept_by side place c n None = kept_new side place c n
kept_by side place c n (Some v) =
    let f = gives v c n.goal.rows in
    let t = applies (named_as side place v n) in
    let u = naming_new side place c n in
    kept_if n f.within (if f.form then t else u) beyond
    (kept_if n f.form t u (goal_with_keeps side place v n.goal) (kept_new side place c n)) tt

kept_constant : (side : Side) (place : ℕ) (c : ℤ) (n : Naming) →
    Kept n (naming_constant side place c n)
unfolding naming_constant
kept_constant side place c n =
    kept_by side place c n (variable_at place (side_of side n.goal) (other_side side n.goal))

kept_where : (side : Side) (place : ℕ) (n : Naming) (o : Option ℤ) →
    Kept n (naming_if side place n o)
kept_where side place n None = record { left = refl; right = refl }
kept_where side place n (Some c) = kept_constant side place c n

kept_at : (side : Side) (place : ℕ) (n : Naming) → Kept n (naming_at side place n)
unfolding naming_at
kept_at side place n = kept_where side place n (constant_at place (side_of side n.goal))

further : (e f g : Equation) → HasShapesOf e f → HasShapesOf f g → HasShapesOf e g
further e f g k l = record { left = l.left ∙ k.left; right = l.right ∙ k.right }

kept_after : (n : Naming) (o : Option Naming) (other : Tried Naming) (next : Naming → Tried Naming)
    → IfSome o (λ (m : Naming). HasShapesOf n.goal m.goal) → Kept n other →
    ((m : Naming) → Kept m (next m)) → Kept n (option_map_or next o other)
kept_after n None other next k l each = l
kept_after n (Some m) other next k l each =
    IfSome_then (next m).made (each m) (λ r s. further n.goal m.goal r.goal k s)

kept_from : (side : Side) (count place : ℕ) (n : Naming) → Kept n (naming_from side place count n)
unfolding naming_from
kept_from side zero place n = record { left = refl; right = refl }
kept_from side (suc count) place n =
    kept_after n (naming_at side place n).made
    (record { made = None; noted = (naming_at side place n).noted })
    (naming_from side (place + 1) count)
    (kept_at side place n) tt (λ m. kept_from side count (place + 1) m)

abbrev started : Equation → Naming
started goal = record { goal = goal; subst = []; fresh = equation_bound goal }

kept_both : (parts : RuleParts) (goal : Equation) → Kept (started goal) (naming_both parts goal)
kept_both parts goal =
    let n = started goal in
    let left = naming_from Left 0 (length (named_arguments parts Left goal)) n in
    let count = length (named_arguments parts Right goal) in
    kept_after n left.made (record { made = None; noted = left.noted }) (naming_from Right 0 count)
    (kept_from Left (length (named_arguments parts Left goal)) 0 n) tt
    (λ m. kept_from Right count 0 m)

-- what is found has the shapes
abbrev FoundKept : Equation → Tried Generalisation → Type 0
FoundKept goal t = IfSome t.made (λ (found : Generalisation). HasShapesOf goal found.goal)

found_after : (parts : RuleParts) (goal : Equation) (o : Option Naming)
    (other : Tried Generalisation)
    → IfSome o (λ (m : Naming). HasShapesOf goal m.goal) → FoundKept goal other
    → FoundKept goal (option_map_or (λ (n : Naming). applies (named_goal parts n)) o other)
found_after parts goal None other k l = l
found_after parts goal (Some m) other k l = k

found_if : (goal : Equation) (b : Bool) (t : Tried Generalisation) → FoundKept goal t →
    FoundKept goal (if b then t else fails)
found_if goal true t k = k
found_if goal false t k = tt

pub naming_shapes : NamingKeepsShapes
unfolding naming_of
naming_shapes parts goal =
    let both = naming_both parts goal in
    let other : Tried Generalisation = record { made = None; noted = both.noted } in
    found_if goal (has_constant parts Left goal || has_constant parts Right goal)
    (option_map_or (λ (n : Naming). applies (named_goal parts n)) both.made other)
    (found_after parts goal both.made other (kept_both parts goal) tt)

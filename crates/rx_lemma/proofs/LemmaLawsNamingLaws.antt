-- Naming keeps what a step asks, place by place.
use Rattle.std.proofs.Common.{◌≡◌, ◌∙◌, ap, subst, sym, refl, ℕ, zero, suc, ◌+◌, ◌<◌, ◌≤◌, ◌==◌, Bool, true, false, ◌&&◌, ◌||◌, Option, Some, None, IfSome, List, [], ◌∷◌, ◌++◌, length, All, slice_get, slice_set, option_and_then, ℤ, arith}
use Rattle.std.specs.Prelude.{if◌then◌else◌, nat_le, nat_lt}
use Rattle.std.specs.List.{list_all}
use Rattle.std.specs.Option.{option_map_or}
use Rattle.std.proofs.lemmas.Bool.{and_from, and_parts, le-leb, leb-true, ltb-true}
use Rattle.std.proofs.lemmas.Bool.Decides.{nat_tests}
use Rattle.std.proofs.lemmas.List.{length-set}
use Rattle.std.proofs.lemmas.List.Folds.{list_all-append}
use Rattle.std.proofs.lemmas.Option.{none-some}
use Rattle.rx_poly.specs.Constants.{number, variable}
use Rattle.rx_poly.specs.Limits.{fits_i128}
use Rattle.rx_poly.specs.Normal.{is_poly}
use Rattle.rx_poly.specs.Reading.{constant_of}
use Rattle.rx_poly.specs.Substitution.{replaced}
use Rattle.rx_poly.specs.declared.body.Body.{Body, out-Body}
use Rattle.rx_row.specs.Membership.{pushed}
use Rattle.rx_row.specs.Naming.{named}
use Rattle.rx_row.specs.Variables.{rows_use_below}
use Rattle.rx_row.specs.declared.row.Row.{Row}
use Rattle.rx_solve.specs.Attempts.{Tried, applies, beyond, fails}
use Rattle.rx_term.specs.Bounds.{equation_bound}
use Rattle.rx_term.specs.Fitting.{term_fits}
use Rattle.rx_term.specs.Shapes.{Shape, same_shape, shape_of}
use Rattle.rx_term.specs.Stacks.{replace_redex}
use Rattle.rx_term.specs.Variables.{arguments_of, polys_use_below, term_uses_below}
use Rattle.rx_term.specs.declared.rule.Equation.{Equation}
use Rattle.rx_term.specs.declared.rule_set.RuleParts.{RuleParts}
use Rattle.rx_term.specs.declared.term.Term.{Term}
use Rattle.rx_term.specs.declared.term.Term.TheVariants.{Call}
use Rattle.rx_term.proofs.BoundLaws.{equation_below}
use Rattle.rx_term.proofs.RuleLaws.{shape_itself}
use Rattle.rx_inference.specs.Pieces.{is_equation, is_substitution, other_side, side_of, variable_limit, with_side}
use Rattle.rx_inference.specs.declared.step.Side.{Side}
use Rattle.rx_inference.specs.declared.step.Side.TheVariants.{Left, Right}
use Rattle.rx_lemma.specs.Calls.{Applied, call_of, constant}
use Rattle.rx_lemma.specs.Lemmas.{Generalisation, variables_end}
use Rattle.rx_lemma.specs.NamingCalls.{constant_at, constant_in, variable_at, with_variable, with_variable_in}
use Rattle.rx_lemma.specs.Naming.{gives, goal_with, has_constant, named_arguments, named_as, named_goal, named_new, naming_at, naming_both, naming_by, naming_constant, naming_from, naming_if, naming_new, naming_of, with_row}
use Rattle.rx_lemma.specs.Shapes.{HasShapesOf}
use Rattle.rx_lemma.proofs.ShapeLaws.{naming_shapes}
use Rattle.rx_lemma.proofs.SubstitutionLaws.{naming_substitutes}
use Rattle.rx_lemma.specs.Lawful.{IsGoal, IsLawfulInside}
use Rattle.rx_lemma.specs.LawfulNaming.{NamingIsLawful}
use Rattle.rx_lemma.proofs.Common.{lawful}
use Rattle.rx_lemma.proofs.NamingRows.{all_instances, rows_instances}
use Rattle.rx_lemma.proofs.NamingStanding.{Aligned, NewRow, New, RowStands, Stands, aligned_below, aligned_itself, aligned_more, gives_new, known_stands, number_at, passed_more, rows_below, rows_more, rows_pushed, rows_themselves, set_after, number_stands}
use Rattle.rx_lemma.proofs.NamingTerms.{replaced_call}
use Rattle.rx_lemma.proofs.Polynomials.{replaces_from}
use Rattle.rx_lemma.proofs.Terms.{below_by_arguments}

-- ---- what naming goes on with

-- what a function of two arguments takes second
abbrev taken_by : {A B C : Type 0} → (A → B → C) → Type 0
taken_by {A} {B} {C} f = B

-- a goal of which some constants are named
abbrev Naming : Type 0
Naming = taken_by named_goal

-- ---- sides

-- what holds of both sides, where one of them is another term
changed : (P : Side → Term → Type 0) (side : Side) (g : Equation) (t : Term) →
    ((other : Side) → P other (side_of other g)) → P side t →
    (other : Side) → P other (side_of other (with_side side g t))
changed P Left g t all here Left = here
changed P Left g t all here Right = all Right
changed P Right g t all here Left = all Left
changed P Right g t all here Right = here

with_row_too : (P : Side → Term → Type 0) (r : Row) (g : Equation) →
    ((other : Side) → P other (side_of other g)) →
    (other : Side) → P other (side_of other (with_row r g))
with_row_too P r g all Left = all Left
with_row_too P r g all Right = all Right

same_rows : (side : Side) (g : Equation) (t : Term) → (with_side side g t).rows ≡ g.rows
same_rows Left g t = refl
same_rows Right g t = refl

-- ---- a variable in place of a number

-- a number at a place of the call that a term ends in
record Placed (place : ℕ) (c : ℤ) (t : Term) : Type 0 where
  call : Applied
  is : call_of t ≡ Some call
  poly : Body
  there : slice_get call.arguments place ≡ Some poly
  value : constant_of (out-Body poly).terms ≡ Some c

module _ (place : ℕ) (c : ℤ) (t : Term) where
  placed_in : (call : Applied) → call_of t ≡ Some call → (o : Option Body) →
      slice_get call.arguments place ≡ o → option_and_then constant o ≡ Some c → Placed place c t
  placed_in call e None s h = absurd (none-some c h)
  placed_in call e (Some p) s h =
      record { call = call; is = e; poly = p; there = s; value = h }

  placed_by : (o : Option Applied) → call_of t ≡ o → constant_in place o ≡ Some c →
      Placed place c t
  placed_by None e h = absurd (none-some c h)
  placed_by (Some call) e h = placed_in call e (slice_get call.arguments place) refl h

  placed : constant_at place t ≡ Some c → Placed place c t
  unfolding constant_at
  placed h = placed_by (call_of t) refl h

with_is : (place v : ℕ) (t : Term) (call : Applied) → call_of t ≡ Some call →
    with_variable place v t ≡
    replace_redex t (Call call.symbol (slice_set call.arguments place (variable v)))
unfolding with_variable
with_is place v t call e = ap (λ (o : Option Applied). with_variable_in place v o t) e

module _ (parts : RuleParts) (goal : Equation) (holds : IsGoal parts goal) where
  abbrev bound : ℕ
  bound = equation_bound goal

  -- ---- the goal itself

  goal_polys : (side : Side) → list_all is_poly (arguments_of (side_of side goal)) ≡ true
  goal_polys Left = holds.left
  goal_polys Right = holds.right

  abbrev both_fit : Bool
  both_fit = term_fits parts goal.left && term_fits parts goal.right

  goal_fits : (side : Side) → term_fits parts (side_of side goal) ≡ true
  goal_fits Left =
      (and_parts (term_fits parts goal.left) (term_fits parts goal.right)
      (and_parts both_fit (nat_le bound variable_limit) holds.equation).0).0
  goal_fits Right =
      (and_parts (term_fits parts goal.left) (term_fits parts goal.right)
      (and_parts both_fit (nat_le bound variable_limit) holds.equation).0).1

  goal_limit : bound ≤ variable_limit
  goal_limit = leb-true bound variable_limit
      (and_parts both_fit (nat_le bound variable_limit) holds.equation).1

  module _ (n : ℕ) (le : bound ≤ n) where
    abbrev both_below : Bool
    both_below = term_uses_below n goal.left && term_uses_below n goal.right

    all_below : (both_below && rows_use_below n goal.rows) ≡ true
    all_below = (equation_below n goal).1 le

    goal_rows_below : rows_use_below n goal.rows ≡ true
    goal_rows_below = (and_parts both_below (rows_use_below n goal.rows) all_below).1

    goal_below : (side : Side) → polys_use_below n (arguments_of (side_of side goal)) ≡ true
    goal_below Left =
        sym (below_by_arguments n goal.left) ∙
        (and_parts (term_uses_below n goal.left) (term_uses_below n goal.right)
        (and_parts both_below (rows_use_below n goal.rows) all_below).0).0
    goal_below Right =
        sym (below_by_arguments n goal.right) ∙
        (and_parts (term_uses_below n goal.left) (term_uses_below n goal.right)
        (and_parts both_below (rows_use_below n goal.rows) all_below).0).1

  -- ---- what is kept

  abbrev OnSide : List (ℕ × Body) → ℕ → Side → Term → Type 0
  OnSide ws fresh side t =
      Aligned goal.rows bound ws fresh (arguments_of t) (arguments_of (side_of side goal)) ×
      (term_fits parts t ≡ true)

  record Ready (n : Naming) : Type 0 where
    base : bound ≤ n.fresh
    limit : n.fresh ≤ variable_limit
    above : replaces_from bound n.subst ≡ true
    ahead : (v : ℕ) → n.fresh ≤ v → (us : List (ℕ × Body)) → replaced (n.subst ++ us) v ≡
        replaced us v
    sides : (side : Side) → OnSide n.subst n.fresh side (side_of side n.goal)
    rows : All (RowStands goal.rows n.subst n.fresh) n.goal.rows

  -- a variable that stands in place of the number
  written : (ws : List (ℕ × Body)) (fresh : ℕ) (side : Side) (place v : ℕ) (c : ℤ) (t : Term) →
      Placed place c t → OnSide ws fresh side t →
      ((q : Body) → q ≡ number c → Stands goal.rows bound ws fresh (variable v) q) →
      OnSide ws fresh side (with_variable place v t)
  written ws fresh side place v c t k o make =
      let olds = arguments_of (side_of side goal) in
      let args = slice_set k.call.arguments place (variable v) in
      let count = length-set k.call.arguments place (variable v) in
      let r = replaced_call parts k.call args count t k.is in
      let same = with_is place v t k.call k.is in
      let change : (q : Body) → is_poly q ≡ true →
      Stands goal.rows bound ws fresh k.poly q →
      Stands goal.rows bound ws fresh (variable v) q =
      λ q poly s. make q (number_stands goal.rows bound ws fresh k.poly q c k.value poly s) in
      let before = subst (λ (xs : List Body). Aligned goal.rows bound ws fresh xs olds) r.old o.0 in
      let after = set_after goal.rows bound ws fresh k.poly (variable v) change r.front
      k.call.arguments olds place before (goal_polys side) k.there in (
        subst (λ (xs : List Body). Aligned goal.rows bound ws fresh xs olds)
            (sym (ap arguments_of same ∙ r.new)) after,
        ap (term_fits parts) same ∙ r.fits ∙ o.1,
      )

  -- the number is one of the goal's
  fits_there : (ws : List (ℕ × Body)) (fresh : ℕ) (side : Side) (place : ℕ) (c : ℤ) (t : Term) →
      Placed place c t → OnSide ws fresh side t → fits_i128 c ≡ true
  fits_there ws fresh side place c t k o =
      let olds = arguments_of (side_of side goal) in
      let r = replaced_call parts k.call k.call.arguments refl t k.is in
      let before = subst (λ (xs : List Body). Aligned goal.rows bound ws fresh xs olds) r.old o.0 in
      number_at goal.rows bound ws fresh r.front k.call.arguments olds place k.poly c before
      (goal_polys side) k.there k.value

  abbrev Kept : Tried Naming → Type 0
  Kept t = IfSome t.made Ready

  kept_if : (b : Bool) (t u : Tried Naming) → (b ≡ true → Kept t) → Kept u →
      Kept (if b then t else u)
  kept_if true t u k l = k refl
  kept_if false t u k l = l

  module _ (side : Side) (place : ℕ) (c : ℤ) (n : Naming) (ready : Ready n)
      (at : constant_at place (side_of side n.goal) ≡ Some c) where
    abbrev old_side : Term
    old_side = side_of side n.goal

    abbrev ws : List (ℕ × Body)
    ws = n.subst

    here : Placed place c old_side
    here = placed place c old_side at

    -- the variable that a row gives the value
    with_known : (v : ℕ) → (gives v c n.goal.rows).within ≡ true →
        (gives v c n.goal.rows).form ≡ true → Ready (named_as side place v n)
    with_known v within among =
        let le : bound ≤ bound = omega arith in
        let make : (q : Body) → q ≡ number c → Stands goal.rows bound ws n.fresh (variable v) q =
        known_stands goal.rows bound ws n.fresh v c within (goal_rows_below bound le) n.goal.rows
        ready.rows among in
        record {
          base = ready.base;
          limit = ready.limit;
          above = ready.above;
          ahead = ready.ahead;
          sides = changed (OnSide ws n.fresh) side n.goal (with_variable place v old_side)
              ready.sides
              (written ws n.fresh side place v c old_side here (ready.sides side) make);
          rows = subst (All (RowStands goal.rows ws n.fresh))
              (sym (same_rows side n.goal (with_variable place v old_side))) ready.rows;
        }

    -- a new variable, with its row
    with_new : nat_lt n.fresh variables_end ≡ true →
        Ready (named_new side place c (named n.fresh c).form n)
    with_new few =
        let v = n.fresh in
        let w : ℕ × Body = (v, number c) in
        let more = ws ++ w ∷ [] in
        let lt = ltb-true v variables_end few in
        let same : v ≤ v = omega arith in
        let next : v < v + 1 = omega arith in
        let gives_it = gives_new ws v c (ready.ahead v same) in
        let sides : (other : Side) → OnSide more (v + 1) other (side_of other n.goal) = λ other.
        let o = ready.sides other in (
          aligned_more goal.rows bound ws w v (arguments_of (side_of other n.goal))
              (arguments_of (side_of other goal)) o.0,
          o.1,
        ) in
        let make : (q : Body) → q ≡ number c →
        Stands goal.rows bound more (v + 1) (variable v) q =
        λ q e. New v c refl e next gives_it in
        let row = (named v c).form in
        let made = with_variable place v old_side in
        let fits = fits_there ws v side place c old_side here (ready.sides side) in
        record {
          base = let le = ready.base in omega (arith, le);
          limit = omega (arith, lt);
          above =
              let le = ready.base in
              let test : nat_le bound v ≡ true = grind (arith, nat_tests) in
              list_all-append (λ (x : ℕ × Body). nat_le bound x.0) ws (w ∷ [])
              ∙ and_from (replaces_from bound ws) (replaces_from bound (w ∷ [])) ready.above
              (and_from (nat_le bound v) true test refl);
          ahead = λ x le us.
              let other : (v == x) ≡ false = grind (arith, nat_tests) in
              let less : v ≤ x = omega (arith, le) in
              passed_more ws w x other (ready.ahead x less) us;
          sides = with_row_too (OnSide more (v + 1)) row (goal_with side place v n.goal)
              (changed (OnSide more (v + 1)) side n.goal made sides
              (written more (v + 1) side place v c old_side here (sides side) make));
          rows = subst (λ (rs : List Row). All (RowStands goal.rows more (v + 1)) (pushed rs row))
              (sym (same_rows side n.goal made))
              (rows_pushed goal.rows bound more (v + 1) n.goal.rows row
              (rows_more goal.rows bound ws w v n.goal.rows ready.rows)
              (NewRow v c refl next fits gives_it));
        }

    kept_new : Kept (naming_new side place c n)
    unfolding naming_new
    kept_new =
        let f = named n.fresh c in
        let t = applies (named_new side place c f.form n) in
        kept_if (nat_lt n.fresh variables_end) (if f.within then t else beyond) fails
        (λ few. kept_if f.within t beyond (λ _. with_new few) tt) tt

    kept_by : (o : Option ℕ) → Kept (naming_by side place c n o)
    kept_by None = kept_new
    kept_by (Some v) =
        let f = gives v c n.goal.rows in
        let t = applies (named_as side place v n) in
        let u = naming_new side place c n in
        kept_if f.within (if f.form then t else u) beyond
        (λ within. kept_if f.form t u (λ among. with_known v within among) kept_new) tt

    kept_constant : Kept (naming_constant side place c n)
    unfolding naming_constant
    kept_constant = kept_by (variable_at place (side_of side n.goal) (other_side side n.goal))

  kept_where : (side : Side) (place : ℕ) (n : Naming) → Ready n → (o : Option ℤ) →
      constant_at place (side_of side n.goal) ≡ o → Kept (naming_if side place n o)
  kept_where side place n ready None e = ready
  kept_where side place n ready (Some c) e = kept_constant side place c n ready e

  kept_at : (side : Side) (place : ℕ) (n : Naming) → Ready n → Kept (naming_at side place n)
  unfolding naming_at
  kept_at side place n ready =
      kept_where side place n ready (constant_at place (side_of side n.goal)) refl

  kept_after : (o : Option Naming) (other : Tried Naming) (next : Naming → Tried Naming) →
      IfSome o Ready → Kept other → ((m : Naming) → Ready m → Kept (next m)) →
      Kept (option_map_or next o other)
  kept_after None other next k l each = l
  kept_after (Some m) other next k l each = each m k

  kept_from : (side : Side) (count place : ℕ) (n : Naming) → Ready n →
      Kept (naming_from side place count n)
  unfolding naming_from
  kept_from side zero place n ready = ready
  kept_from side (suc count) place n ready =
      kept_after (naming_at side place n).made (record
      { made = None; noted = (naming_at side place n).noted })
      (naming_from side (place + 1) count)
      (kept_at side place n ready) tt (λ m now. kept_from side count (place + 1) m now)

  abbrev started : Naming
  started = record { goal = goal; subst = []; fresh = equation_bound goal }

  start_ready : Ready started
  start_ready = record {
    base = omega arith;
    limit = goal_limit;
    above = refl;
    ahead = λ v le us. refl;
    sides = λ side. (
      aligned_itself goal.rows bound [] bound (arguments_of (side_of side goal)),
      goal_fits side,
    );
    rows = rows_themselves goal.rows bound [] bound;
  }

  kept_both : Kept (naming_both parts goal)
  kept_both =
      let left = naming_from Left 0 (length (named_arguments parts Left goal)) started in
      let count = length (named_arguments parts Right goal) in
      kept_after left.made (record { made = None; noted = left.noted })
      (naming_from Right 0 count)
      (kept_from Left (length (named_arguments parts Left goal)) 0 started start_ready) tt
      (λ m now. kept_from Right count 0 m now)

  -- ---- what is found

  module _ (m : Naming) (ready : Ready m) where
    side_below : (side : Side) → term_uses_below m.fresh (side_of side m.goal) ≡ true
    side_below side =
        below_by_arguments m.fresh (side_of side m.goal)
        ∙ aligned_below goal.rows bound m.subst m.fresh (arguments_of (side_of side m.goal))
        (arguments_of (side_of side goal)) ready.base (goal_below m.fresh ready.base side)
        (ready.sides side).0

    found_bound : equation_bound m.goal ≤ m.fresh
    found_bound =
        let left = term_uses_below m.fresh m.goal.left in
        let right = term_uses_below m.fresh m.goal.right in
        (equation_below m.fresh m.goal).0
        (and_from (left && right) (rows_use_below m.fresh m.goal.rows)
        (and_from left right (side_below Left) (side_below Right))
        (rows_below goal.rows bound m.subst m.fresh m.goal.rows ready.base
        (goal_rows_below m.fresh ready.base) ready.rows))

    found_equation : is_equation parts m.goal ≡ true
    found_equation =
        let least = found_bound in
        let most = ready.limit in
        let test : nat_le (equation_bound m.goal) variable_limit ≡ true = le-leb
        (equation_bound m.goal) variable_limit (omega (arith, least, most)) in
        and_from (term_fits parts m.goal.left && term_fits parts m.goal.right)
        (nat_le (equation_bound m.goal) variable_limit)
        (and_from (term_fits parts m.goal.left) (term_fits parts m.goal.right)
        (ready.sides Left).1 (ready.sides Right).1) test

    found_lawful : is_substitution m.subst ≡ true → HasShapesOf goal m.goal →
        IsLawfulInside parts goal (named_goal parts m)
    found_lawful substitutes shapes =
        let le : bound ≤ bound = omega arith in
        lawful parts goal (named_goal parts m) (record {
          fits = found_equation;
          substitutes = substitutes;
          left_shape =
              ap (λ (s : Shape). same_shape s (shape_of goal.left)) shapes.left ∙
              shape_itself (shape_of goal.left);
          right_shape =
              ap (λ (s : Shape). same_shape s (shape_of goal.right)) shapes.right ∙
              shape_itself (shape_of goal.right);
          left = all_instances goal.rows bound m.subst m.fresh ready.above
              (arguments_of m.goal.left) (arguments_of goal.left) holds.left
              (goal_below bound le Left) (ready.sides Left).0;
          right = all_instances goal.rows bound m.subst m.fresh ready.above
              (arguments_of m.goal.right) (arguments_of goal.right) holds.right
              (goal_below bound le Right) (ready.sides Right).0;
          rows = rows_instances goal.rows bound m.subst m.fresh ready.above holds.rows
              (goal_rows_below bound le) m.goal.rows ready.rows;
        })

  -- a lawful step, where what it is replaced by is a substitution and the shapes are kept
  abbrev Lawful : Generalisation → Type 0
  Lawful found =
      is_substitution found.subst ≡ true → HasShapesOf goal found.goal → IsLawfulInside parts goal found

  found_after : (o : Option Naming) (other : Tried Generalisation) → IfSome o Ready →
      IfSome other.made Lawful →
      IfSome (option_map_or (λ (n : Naming). applies (named_goal parts n)) o other).made Lawful
  found_after None other k l = l
  found_after (Some m) other k l = found_lawful m k

  found_if : (b : Bool) (t : Tried Generalisation) → IfSome t.made Lawful →
      IfSome (if b then t else fails).made Lawful
  found_if true t k = k
  found_if false t k = tt

  all_found : IfSome (naming_of parts goal).made Lawful
  unfolding naming_of
  all_found =
      let both = naming_both parts goal in
      let other : Tried Generalisation = record { made = None; noted = both.noted } in
      found_if (has_constant parts Left goal || has_constant parts Right goal)
      (option_map_or (λ (n : Naming). applies (named_goal parts n)) both.made other)
      (found_after both.made other kept_both tt)

-- three facts of what is found
if_all : (P Q R : Generalisation → Type 0) (o : Option Generalisation) → IfSome o P → IfSome o Q →
    IfSome o (λ x. P x → Q x → R x) → IfSome o R
if_all P Q R None p q r = tt
if_all P Q R (Some x) p q r = r p q

pub naming_lawful : NamingIsLawful
naming_lawful parts goal holds =
    if_all (λ (found : Generalisation). is_substitution found.subst ≡ true)
    (λ (found : Generalisation). HasShapesOf goal found.goal) (IsLawfulInside parts goal)
    (naming_of parts goal).made (naming_substitutes parts goal) (naming_shapes parts goal)
    (all_found parts goal holds)

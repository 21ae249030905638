-- From steps as they apply to what they make: what a step asks follows, and its form is as asked.
use Rattle.std.proofs.Common.{◌≡◌, ℕ, Bool, true, false, if◌then◌else◌, Option, Some, None, Ok, Err, List, [], ◌∷◌, ◌++◌, refl, sym, ap, subst, ◌∙◌, ℤ}
use Rattle.std.specs.Prelude.{◌&&◌, nat_eq, nat_le, nat_lt, not, slice_get}
use Rattle.std.proofs.lemmas.Bool.{and_parts, eqb-true}
use Rattle.std.proofs.lemmas.List.Elements.{All-head, All-tail}
use Rattle.rx_plain.specs.Formed.{Formed}
use Rattle.rx_poly.specs.declared.body.Body.{Body}
use Rattle.rx_cert.specs.declared.cert.Cert.{Cert}
use Rattle.rx_row.specs.Holds.{AllHold}
use Rattle.rx_row.specs.Variables.{row_bound}
use Rattle.rx_row.specs.declared.row.Row.{Row}
use Rattle.rx_term.specs.Bounds.{equation_bound}
use Rattle.rx_term.specs.Domains.{inside_of}
use Rattle.rx_term.specs.Fitting.{term_fits}
use Rattle.rx_term.specs.Meaning.{redex_of}
use Rattle.rx_term.specs.Shapes.{shape_of}
use Rattle.rx_term.specs.Stacks.{suffix_at, ends_in_call}
use Rattle.rx_term.specs.declared.rule.Equation.{Equation}
use Rattle.rx_term.specs.declared.rule.Rule.{Rule}
use Rattle.rx_term.specs.declared.rule_set.RuleParts.{RuleParts}
use Rattle.rx_term.specs.declared.term.Sym.{Sym}
use Rattle.rx_term.specs.declared.term.Term.{Term}
use Rattle.rx_term.specs.declared.term.Term.TheVariants.{Frame, outs-Return, outs-Fail, outs-Call, outs-Frame}
use Rattle.rx_term.proofs.Equations.{ACall, AFail, AFrame, AReturn, Form, form, symbols_are}
use Rattle.rx_term.proofs.Places.{at_place}
use Rattle.rx_term.proofs.RuleLaws.{known_shape}
use Rattle.rx_inference.specs.Forming.{Forming, found_or, limited, provided, ◌>>=◌}
use Rattle.rx_inference.specs.Judging.{Judgement, Shown, Fault, certificates, first_rows, given_to, judged}
use Rattle.rx_inference.specs.Kinds.{are_common, formed_on}
use Rattle.rx_inference.specs.Making.{decomposed_by, different_by, equal_by, expanded_by_all, generalised_by, hypothesis_with, instance_rows, postulated_by, resulting_by, simplified_by, split_by, used_by}
use Rattle.rx_inference.specs.Pieces.{TopFrame, asking, have_one_shape, is_equation, is_substitution, side_of, top_frame, top_frame_level, variable_limit}
use Rattle.rx_inference.specs.States.{State, applied, carried_out, taken, taken_if}
use Rattle.rx_inference.specs.declared.form_end.FormEnd.{FormEnd}
use Rattle.rx_inference.specs.declared.form_end.FormEnd.TheVariants.{WrongShape, NoSuchRule, Large}
use Rattle.rx_inference.specs.declared.formed_step.Asked.TheVariants as asked
use Rattle.rx_inference.specs.declared.formed_step.FormedStep.{FormedStep}
use Rattle.rx_inference.specs.declared.formed_step.Group.{Group}
use Rattle.rx_inference.specs.declared.formed_step.Under.TheVariants as under
use Rattle.rx_inference.specs.declared.step.Delete.TheVariants as delete
use Rattle.rx_inference.specs.declared.step.Side.{Side}
use Rattle.rx_inference.specs.declared.step.Step.{Step}
use Rattle.rx_inference.specs.declared.step.Step.TheVariants as step
use Rattle.rx_inference.proofs.JudgingLaws.{shown_follow, shown_refuted}
use Rattle.rx_proofs.specs.Goals.{IsFitting}
use Rattle.rx_proofs.proofs.Making.{Follow, Makes, Simplified, Used, Expanded, Contradictory, Equal, Apart, Generalised, Postulated, SplitBy, Decomposed, WithResults}

-- ---- back from what is formed

found_back : {A : Type 0} (end : FormEnd) (o : Option A) (x : A) → found_or end o ≡ Ok x → o ≡
    Some x
found_back end None x e = absurd cc
found_back end (Some y) x e = let same : y ≡ x = cc in ap Some same

pub record First {A B : Type 0} (o : Forming A) (next : A → Forming B) (y : B) : Type 0 where
  pub first : A
  pub is : o ≡ Ok first
  pub rest : next first ≡ Ok y

first_back : {A B : Type 0} (o : Forming A) (next : A → Forming B) (y : B) → (o >>= next) ≡ Ok y →
    First o next y
first_back (Ok x) next y e = record { first = x; is = refl; rest = e }
first_back (Err end) next y e = absurd cc

provided_back : {A : Type 0} (b : Bool) (next : Forming A) (y : A) → provided b next ≡ Ok y →
    (b ≡ true) × (next ≡ Ok y)
provided_back true next y e = (refl, e)
provided_back false next y e = absurd cc

limited_by : {A : Type 0} (f : Formed A) (y : A) (b : Bool) → f.within ≡ b → limited f ≡ Ok y →
    f.form ≡ y
limited_by f y true is e =
    let same : Ok f.form ≡ Ok y = sym (ap (λ b. if b then Ok f.form else Err Large) is) ∙ e in cc
limited_by f y false is e =
    let same : Err Large ≡ Ok y = sym (ap (λ b. if b then Ok f.form else Err Large) is) ∙ e in
    absurd cc

limited_back : {A : Type 0} (f : Formed A) (y : A) → limited f ≡ Ok y → f.form ≡ y
limited_back f y e = limited_by f y f.within refl e

-- the top frame of a term
pub record OnTop (t : Term) (top : TopFrame) : Type 0 where
  pub symbol : Sym
  pub number : symbol.0 ≡ top.symbol
  pub is : t ≡ Frame symbol top.arguments top.inner

on_top_by : (t : Term) (top : TopFrame) → Form t → top_frame t ≡ Some top → OnTop t top
on_top_by _ top (AReturn p) e =
    let no_ : ◌≡◌ {A = Option TopFrame} None (Some top) = sym (ap top_frame_level (outs-Return p)) ∙
    e in absurd cc
on_top_by _ top (AFail c) e =
    let no_ : ◌≡◌ {A = Option TopFrame} None (Some top) = sym (ap top_frame_level (outs-Fail c)) ∙
    e in absurd cc
on_top_by _ top (ACall f ps) e =
    let no_ : ◌≡◌ {A = Option TopFrame} None (Some top) =
    sym (ap top_frame_level (outs-Call f ps)) ∙ e in absurd cc
on_top_by _ top (AFrame f ps t) e =
    let both : Some (record { symbol = f.0; arguments = ps; inner = t }) ≡ Some top =
    sym (ap top_frame_level (outs-Frame f ps t)) ∙ e in
    let same : record { symbol = f.0; arguments = ps; inner = t } ≡ top = cc in
    subst (OnTop (Frame f ps t)) same (record { symbol = f; number = refl; is = refl })

on_top : (t : Term) (top : TopFrame) → top_frame t ≡ Some top → OnTop t top
on_top t top e = on_top_by t top (form t) e

equation_fits : (parts : RuleParts) (e : Equation) → is_equation parts e ≡ true → IsFitting parts e
equation_fits parts e is =
    let sides = and_parts (term_fits parts e.left && term_fits parts e.right)
    (nat_le (equation_bound e) variable_limit) is in
    let both = and_parts (term_fits parts e.left) (term_fits parts e.right) sides.0 in
    record { left = both.0; right = both.1 }

one_shape : (s t : Term) → have_one_shape s t ≡ true → shape_of s ≡ shape_of t
one_shape s t is = known_shape (shape_of s) (shape_of t) is

module _ (parts : RuleParts) (hypotheses : List Rule) (goal : Equation) (f : FormedStep) where
  abbrev MakesIt : FormedStep → Type 0
  MakesIt g = Makes parts hypotheses goal g.goals g.kept

  abbrev ShownBy : List Cert → FormedStep → Type 0
  ShownBy certs g = judged goal.rows (first_rows g.goals) g.asked certs ≡ Shown

  -- rows that are asked under those of the goal follow from them
  asked_follow : (rows : List Row) (goals : List Equation) (certs : List Cert) → asking rows goals ≡
      f → ShownBy certs f → Follow goal.rows rows
  asked_follow rows goals certs is shown =
      let group : Group = record { under = under.Goal; rows = rows } in
      All-head (λ (g : Group). (a : ℕ → ℤ) → AllHold a
      (given_to goal.rows (first_rows goals) g.under) → AllHold a g.rows) group []
      (shown_follow goal.rows (first_rows goals) (group ∷ []) certs
      (subst (ShownBy certs) (sym is) shown))

  -- the rows of a group follow from those that it is given
  abbrev Led : List Row → List Row → Group → Type 0
  Led old new g = Follow (given_to old new g.under) g.rows

  simplified_makes : (side : Side) (number : ℕ) (certs : List Cert) →
      formed_on parts goal hypotheses (step.Simplify side number certs) ≡ Ok f → ShownBy certs f →
      MakesIt f
  simplified_makes side number certs e shown =
      let one = first_back (found_or WrongShape (redex_of (side_of side goal))) _ f e in
      let two = first_back (found_or NoSuchRule (slice_get parts.rules number)) _ f one.rest in
      let redex = one.first in
      let rule = two.first in
      let (shape, limits) = provided_back (have_one_shape rule.left redex) _ f two.rest in
      let is = limited_back (simplified_by goal side redex rule) f limits in
      subst MakesIt is (Simplified side rule redex
      (at_place parts.rules number rule (found_back NoSuchRule (slice_get parts.rules number)
      rule two.is))
      (found_back WrongShape (redex_of (side_of side goal)) redex one.is)
      (one_shape rule.left redex shape) (asked_follow _ _ certs is shown))

  used_makes : (side : Side) (place number : ℕ) (ws : List (ℕ × Body)) (certs : List Cert) →
      formed_on parts goal hypotheses (step.Hyp side place number ws certs) ≡ Ok f →
      ShownBy certs f → MakesIt f
  used_makes side place number ws certs e shown =
      let one = first_back (found_or WrongShape (suffix_at place (side_of side goal))) _ f e in
      let part = one.first in
      let two = first_back (provided (is_substitution ws)
      (found_or NoSuchRule (slice_get hypotheses number))) _ f one.rest in
      let h = two.first in
      let there = provided_back (is_substitution ws)
      (found_or NoSuchRule (slice_get hypotheses number)) h two.is in
      let (shape, limits) = provided_back (have_one_shape part h.left) _ f two.rest in
      let is = limited_back (used_by goal side place (hypothesis_with ws part h)) f limits in
      subst MakesIt is (Used side h ws place part
      (at_place hypotheses number h (found_back NoSuchRule (slice_get hypotheses number) h
      there.1))
      (found_back WrongShape (suffix_at place (side_of side goal)) part one.is)
      (one_shape part h.left shape) (asked_follow _ _ certs is shown))

  expanded_makes : (side : Side) (keep : Bool) →
      formed_on parts goal hypotheses (step.Expand side keep) ≡ Ok f → MakesIt f
  expanded_makes side keep e =
      let one = first_back (found_or WrongShape (redex_of (side_of side goal))) _ f e in
      let redex = one.first in
      let is = limited_back (expanded_by_all parts.rules goal side keep redex) f one.rest in
      subst MakesIt is (Expanded side keep redex
      (found_back WrongShape (redex_of (side_of side goal)) redex one.is))

  absurd_makes : (cert : Cert) → formed_on parts goal hypotheses (step.Delete (delete.Absurd cert))
      ≡ Ok f → ShownBy (cert ∷ []) f → MakesIt f
  absurd_makes cert e shown =
      let is : record { asked = asked.Refuted; goals = []; kept = [] } ≡ f = cc in
      subst MakesIt is (Contradictory (shown_refuted goal.rows [] (cert ∷ [])
      (subst (ShownBy (cert ∷ [])) (sym is) shown)))

  equal_makes : (certs : List Cert) → formed_on parts goal hypotheses
      (step.Delete (delete.Equal certs)) ≡ Ok f → ShownBy certs f → MakesIt f
  equal_makes certs e shown =
      let (shape, limits) = provided_back (have_one_shape goal.left goal.right) _ f e in
      let is = limited_back (equal_by goal) f limits in
      subst MakesIt is (Equal (one_shape goal.left goal.right shape)
      (asked_follow _ _ certs is shown))

  different_makes : formed_on parts goal hypotheses step.EqDelete ≡ Ok f → MakesIt f
  different_makes e =
      let (shape, limits) = provided_back (have_one_shape goal.left goal.right) _ f e in
      subst MakesIt (limited_back (different_by goal) f limits)
      (Apart (one_shape goal.left goal.right shape))

  generalised_makes : (new : Equation) (ws : List (ℕ × Body)) (certs : List Cert) →
      formed_on parts goal hypotheses (step.Generalise new.left new.right new.rows ws certs) ≡
      Ok f → ShownBy certs f → MakesIt f
  generalised_makes new ws certs e shown =
      let lefts = have_one_shape new.left goal.left in
      let rights = have_one_shape new.right goal.right in
      let (tests, limits) = provided_back (is_equation parts new &&
      (is_substitution ws && (lefts && rights))) _ f e in
      let some_ = and_parts (is_equation parts new) (is_substitution ws && (lefts && rights)) tests
      in
      let more = and_parts (is_substitution ws) (lefts && rights) some_.1 in
      let shapes = and_parts lefts rights more.1 in
      let is = limited_back (generalised_by parts goal new ws) f limits in
      let rows = (instance_rows ws new goal).form in
      let inside = (inside_of parts new).form in
      let first : Group = record { under = under.Goal; rows = rows } in
      let second : Group = record { under = under.New; rows = inside } in
      let all = shown_follow goal.rows new.rows (first ∷ second ∷ []) certs
      (subst (ShownBy certs) (sym is) shown) in
      subst MakesIt is (Generalised new ws (equation_fits parts new some_.0)
      (one_shape new.left goal.left shapes.0) (one_shape new.right goal.right shapes.1)
      (All-head (Led goal.rows new.rows) first (second ∷ []) all)
      (All-head (Led goal.rows new.rows) second []
      (All-tail (Led goal.rows new.rows) first (second ∷ []) all)))

  postulated_makes : (new : Equation) (certs : List Cert) → formed_on parts goal hypotheses
      (step.Postulate new.left new.right new.rows certs) ≡ Ok f → ShownBy certs f → MakesIt f
  postulated_makes new certs e shown =
      let (test, limits) = provided_back (is_equation parts new) _ f e in
      let is = limited_back (postulated_by parts goal new) f limits in
      let inside = (inside_of parts new).form in
      let group : Group = record { under = under.New; rows = inside } in
      subst MakesIt is (Postulated new (equation_fits parts new test)
      (All-head (Led goal.rows new.rows) group []
      (shown_follow goal.rows new.rows (group ∷ []) certs
      (subst (ShownBy certs) (sym is) shown))))

  split_makes : (row : Row) → formed_on parts goal hypotheses (step.Split row) ≡ Ok f → MakesIt f
  split_makes row e =
      let (test, limits) = provided_back (nat_le (row_bound row) variable_limit) _ f e in
      subst MakesIt (limited_back (split_by goal row) f limits) (SplitBy row)

  decomposed_makes : (certs : List Cert) → formed_on parts goal hypotheses (step.Decompose certs) ≡
      Ok f → ShownBy certs f → MakesIt f
  decomposed_makes certs e shown =
      let one = first_back (found_or WrongShape (top_frame goal.left)) _ f e in
      let two = first_back (found_or WrongShape (top_frame goal.right)) _ f one.rest in
      let left = one.first in
      let right = two.first in
      let (test, limits) = provided_back (nat_eq left.symbol right.symbol) _ f two.rest in
      let is = limited_back (decomposed_by goal left.arguments right.arguments left.inner
      right.inner) f limits in
      let on_left = on_top goal.left left (found_back WrongShape (top_frame goal.left) left one.is)
      in
      let on_right = on_top goal.right right (found_back WrongShape (top_frame goal.right) right
      two.is) in
      let same = symbols_are on_left.symbol on_right.symbol
      (on_left.number ∙ eqb-true left.symbol right.symbol test ∙ sym on_right.number) in
      subst MakesIt is (Decomposed on_left.symbol on_right.symbol left.arguments right.arguments
      left.inner right.inner on_left.is on_right.is same (asked_follow _ _ certs is shown))

  results_make : (left right : ℕ) (certs : List Cert) →
      formed_on parts goal hypotheses (step.Results left right certs) ≡ Ok f → ShownBy certs f →
      MakesIt f
  results_make left right certs e shown =
      let one = first_back (found_or WrongShape (suffix_at left goal.left)) _ f e in
      let two = first_back (found_or WrongShape (suffix_at right goal.right)) _ f one.rest in
      let s = one.first in
      let t = two.first in
      let (tests, limits) = provided_back (are_common s t left right &&
      nat_lt (equation_bound goal) variable_limit) _ f two.rest in
      let common = and_parts (are_common s t left right)
      (nat_lt (equation_bound goal) variable_limit) tests in
      let shape = and_parts (have_one_shape s t)
      (ends_in_call s && not (nat_eq left 0 && nat_eq right 0)) common.0 in
      let is = limited_back (resulting_by parts.fails goal left right s t) f limits in
      subst MakesIt is (WithResults left right s t
      (found_back WrongShape (suffix_at left goal.left) s one.is)
      (found_back WrongShape (suffix_at right goal.right) t two.is)
      (one_shape s t shape.0) (asked_follow _ _ certs is shown))

  -- what is formed and shown is made
  pub formed_makes : (s : Step) → formed_on parts goal hypotheses s ≡ Ok f →
      ShownBy (certificates s) f → MakesIt f
  formed_makes (step.Simplify side rule certs) e shown = simplified_makes side rule certs e shown
  formed_makes (step.Hyp side place hyp ws certs) e shown =
      used_makes side place hyp ws certs e shown
  formed_makes (step.Expand side keep) e shown = expanded_makes side keep e
  formed_makes (step.Delete (delete.Absurd cert)) e shown = absurd_makes cert e shown
  formed_makes (step.Delete (delete.Equal certs)) e shown = equal_makes certs e shown
  formed_makes step.EqDelete e shown = different_makes e
  formed_makes (step.Generalise left right rows ws certs) e shown =
      generalised_makes (record { left = left; right = right; rows = rows }) ws certs e shown
  formed_makes (step.Postulate left right rows certs) e shown =
      postulated_makes (record { left = left; right = right; rows = rows }) certs e shown
  formed_makes (step.Split row) e shown = split_makes row e
  formed_makes (step.Decompose certs) e shown = decomposed_makes certs e shown
  formed_makes (step.Results left right certs) e shown = results_make left right certs e shown

-- ---- states

-- what a step that applies makes of a state
pub record Made (parts : RuleParts) (state next : State) : Type 0 where
  pub goal : Equation
  pub rest : List Equation
  pub new : List Equation
  pub kept : List Rule
  pub was : state.goals ≡ goal ∷ rest
  pub makes : Makes parts state.hypotheses goal new kept
  pub goals : next.goals ≡ new ++ rest
  pub hypotheses : next.hypotheses ≡ state.hypotheses ++ kept

taken_back : (state next : State) (f : FormedStep) (j : Judgement) → taken_if state f j ≡ Ok next →
    (j ≡ Shown) × (taken state f ≡ next)
taken_back state next f Shown e = (refl, cc)
taken_back state next f (Fault fault) e = absurd cc

carried_makes : (parts : RuleParts) (goal : Equation) (rest : List Equation)
    (hypotheses : List Rule) (next : State) (s : Step) (o : Forming FormedStep)
    → formed_on parts goal hypotheses s ≡ o →
    carried_out (record { goals = goal ∷ rest; hypotheses = hypotheses }) (certificates s) o ≡
    Ok next
    → Made parts (record { goals = goal ∷ rest; hypotheses = hypotheses }) next
carried_makes parts goal rest hypotheses next s (Err end) is e = absurd cc
carried_makes parts goal rest hypotheses next s (Ok f) is e =
    let state : State = record { goals = goal ∷ rest; hypotheses = hypotheses } in
    let (shown, becomes) = taken_back state next f
    (judged goal.rows (first_rows f.goals) f.asked (certificates s)) e in
    record {
      goal = goal;
      rest = rest;
      new = f.goals;
      kept = f.kept;
      was = refl;
      makes = formed_makes parts hypotheses goal f s is shown;
      goals = ap (λ (n : State). n.goals) (sym becomes);
      hypotheses = ap (λ (n : State). n.hypotheses) (sym becomes);
    }

by_goals : (parts : RuleParts) (goals : List Equation) (hypotheses : List Rule) (next : State)
    (s : Step) → applied parts (record { goals = goals; hypotheses = hypotheses }) s ≡ Ok next
    → Made parts (record { goals = goals; hypotheses = hypotheses }) next
by_goals parts [] hypotheses next s e = absurd cc
by_goals parts (goal ∷ rest) hypotheses next s e =
    carried_makes parts goal rest hypotheses next s (formed_on parts goal hypotheses s) refl e

pub applied_makes : (parts : RuleParts) (state next : State) (s : Step) → applied parts state s ≡
    Ok next → Made parts state next
applied_makes parts state next s e = by_goals parts state.goals state.hypotheses next s e

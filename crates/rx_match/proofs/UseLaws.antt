-- What comes of trying a use, by what is found on the way.
use Rattle.std.proofs.Common.{◌≡◌, ◌∙◌, ap, subst, sym, refl, cond, ℕ, true, false, Option, Some, None, Result, Ok, Err, List, [], ◌∷◌}
use Rattle.std.specs.Option.{option_map_or}
use Rattle.std.specs.Prelude.{IfOk, IfSome, slice_get}
use Rattle.std.proofs.lemmas.Bool.{and_parts}
use Rattle.rx_plain.specs.Formed.{Formed}
use Rattle.rx_poly.specs.declared.body.Body.{Body}
use Rattle.rx_row.specs.declared.row.Row.{Row}
use Rattle.rx_cert.specs.Showing.{all_shown}
use Rattle.rx_fm.specs.declared.fm_end.FmEnd.{FmEnd}
use Rattle.rx_term.specs.Stacks.{suffix_at}
use Rattle.rx_term.specs.declared.rule.Equation.{Equation}
use Rattle.rx_term.specs.declared.rule.Rule.{Rule}
use Rattle.rx_term.specs.declared.rule_set.RuleParts.{RuleParts}
use Rattle.rx_term.specs.declared.term.Term.{Term}
use Rattle.rx_solve.specs.Attempts.{Tried, beyond, fails, where_shown}
use Rattle.rx_solve.specs.Refuter.{refuted}
use Rattle.rx_inference.specs.Forming.{Forming, found_or, limited, provided, ◌>>=◌}
use Rattle.rx_inference.specs.Kinds.{used}
use Rattle.rx_inference.specs.Making.{hypothesis_with, used_by}
use Rattle.rx_inference.specs.Pieces.{have_one_shape, is_substitution, side_of, with_side}
use Rattle.rx_inference.specs.declared.form_end.FormEnd.TheVariants.{Large, NoSuchRule, WrongShape}
use Rattle.rx_inference.specs.declared.formed_step.FormedStep.{FormedStep}
use Rattle.rx_inference.specs.declared.step.Side.{Side}
use Rattle.rx_term.specs.Stacks.{replace_at}
use Rattle.rx_match.specs.Beside.{matching_beside, use_beside}
use Rattle.rx_match.specs.Matching.{asked_rows, is_matched, is_place, matching, use_matched, use_of, use_with, where_within}
use Rattle.rx_match.specs.Settings.{is_set}
use Rattle.rx_match.specs.Uses.{IsLawful, IsShown, IsShownAt, UseAnswers}
use Rattle.rx_match.specs.Variables.{rule_passes}
use Rattle.rx_match.specs.declared.finding.Use.{Use}

-- ---- what is formed first

pub within_is : {A B : Type 0} (f : Formed A) (next : A → Tried B) → f.within ≡ true →
    where_within f next ≡ next f.form
within_is f next h = ap (λ b. cond b (next f.form) beyond) h

pub within_beyond : {A B : Type 0} (f : Formed A) (next : A → Tried B) → f.within ≡ false →
    where_within f next ≡ beyond
within_beyond f next h = ap (λ b. cond b (next f.form) beyond) h

-- ---- a use with a substitution

module _ (goal : Equation) (hypothesis : Rule) (part : Term) (ws : List (ℕ × Body)) where
  abbrev asked : Formed (List Row)
  asked = asked_rows ws part hypothesis

  abbrev shown_then : List Row → Tried (List (ℕ × Body))
  shown_then rows = where_shown (all_shown refuted goal.rows rows) ws

  pub with_matched : is_matched hypothesis ws ≡ true → use_with goal hypothesis part ws ≡
      where_within asked shown_then
  with_matched h = ap (λ b. cond b (where_within asked shown_then) fails) h

  pub with_fails : is_matched hypothesis ws ≡ false → use_with goal hypothesis part ws ≡ fails
  with_fails h = ap (λ b. cond b (where_within asked shown_then) fails) h

  pub with_beyond : is_matched hypothesis ws ≡ true → asked.within ≡ false →
      use_with goal hypothesis part ws ≡ beyond
  with_beyond h k = with_matched h ∙ within_beyond asked shown_then k

  pub with_shown : is_matched hypothesis ws ≡ true → asked.within ≡ true
      → use_with goal hypothesis part ws ≡ where_shown (all_shown refuted goal.rows asked.form) ws
  with_shown h k = with_matched h ∙ within_is asked shown_then k

  -- the answer of asking for the rows that are formed
  pub answer_with : (rows : List Row) (r : Result (Option Use) FmEnd) → is_matched hypothesis ws ≡
      true → asked.within ≡ true → rows ≡ asked.form
      → UseAnswers (where_shown (all_shown refuted goal.rows rows) ws) r →
      UseAnswers (use_with goal hypothesis part ws) r
  answer_with rows r h k e a =
      subst (λ t. UseAnswers t r) (sym (with_shown h k))
      (subst (λ (rs : List Row). UseAnswers (where_shown (all_shown refuted goal.rows rs) ws) r) e
      a)

  pub shown_with : (rows : List Row) (r : Result (Option Use) FmEnd) → is_matched hypothesis ws ≡
      true → asked.within ≡ true → rows ≡ asked.form
      → IfOk r (λ a. IfSome a (IsShown goal.rows rows ws)) →
      IfOk r (λ a. IfSome a (IsShownAt goal hypothesis part ws))
  shown_with rows (Ok None) h k e a = tt
  shown_with rows (Ok (Some u)) h k e a = record {
    matched = h;
    within = k;
    shown = subst (λ (rs : List Row). IsShown goal.rows rs ws u) e a;
  }
  shown_with rows (Err end) h k e a = tt

-- ---- a use at a part

module _ (goal : Equation) (hypothesis : Rule) (part : Term) (settings : Formed (List (ℕ × Body)))
  where
    abbrev matched_then : Tried (List (ℕ × Body))
    matched_then = where_within settings (use_with goal hypothesis part)

    at_shape : have_one_shape part hypothesis.left ≡ true →
        use_matched goal hypothesis part settings ≡ matched_then
    at_shape h = ap (λ b. cond b matched_then fails) h

    pub at_fails : have_one_shape part hypothesis.left ≡ false →
        use_matched goal hypothesis part settings ≡ fails
    at_fails h = ap (λ b. cond b matched_then fails) h

    pub at_beyond : have_one_shape part hypothesis.left ≡ true → settings.within ≡ false →
        use_matched goal hypothesis part settings ≡ beyond
    at_beyond h k = at_shape h ∙ within_beyond settings (use_with goal hypothesis part) k

    -- the answer of the use with what is matched
    pub answer_at : (ws : List (ℕ × Body)) (r : Result (Option Use) FmEnd) →
        have_one_shape part hypothesis.left ≡ true → settings.within ≡ true → ws ≡ settings.form →
        UseAnswers (use_with goal hypothesis part ws) r →
        UseAnswers (use_matched goal hypothesis part settings) r
    answer_at ws r h k e a =
        subst (λ t. UseAnswers t r)
        (sym (at_shape h ∙ within_is settings (use_with goal hypothesis part) k))
        (subst (λ (vs : List (ℕ × Body)). UseAnswers (use_with goal hypothesis part vs) r) e a)

-- ---- where the part hasn't the shape

module _ (goal : Equation) (hypothesis : Rule) where
  no_use_by : (settings : Term → Formed (List (ℕ × Body))) (o : Option Term) →
      option_map_or (λ part. have_one_shape part hypothesis.left) o false ≡ false →
      option_map_or (λ part. use_matched goal hypothesis part (settings part)) o fails ≡ fails
  no_use_by settings None h = refl
  no_use_by settings (Some part) h = at_fails goal hypothesis part (settings part) h

  module _ (side : Side) (place : ℕ) (h : is_place goal hypothesis side place ≡ false) where
    -- there is no use
    pub no_use_elsewhere : use_of goal hypothesis side place ≡ fails
    no_use_elsewhere =
        no_use_by (λ part. matching hypothesis part) (suffix_at place (side_of side goal)) h

    pub no_use_beside_elsewhere : (parts : RuleParts) →
        use_beside parts goal hypothesis side place ≡ fails
    no_use_beside_elsewhere parts =
        no_use_by (matching_beside parts.rules goal hypothesis side place)
        (suffix_at place (side_of side goal)) h

-- a fact of a use, wherever there is one
pub if_use : (P : Use → Type 0) (r : Result (Option Use) FmEnd) → ((u : Use) → P u) →
    IfOk r (λ a. IfSome a P)
if_use P (Ok None) h = tt
if_use P (Ok (Some u)) h = h u
if_use P (Err end) h = tt

pub if_use_then : (P Q : Use → Type 0) (r : Result (Option Use) FmEnd) → ((u : Use) → P u → Q u) →
    IfOk r (λ a. IfSome a P) → IfOk r (λ a. IfSome a Q)
if_use_then P Q (Ok None) h a = tt
if_use_then P Q (Ok (Some u)) h a = h u a
if_use_then P Q (Err end) h a = tt

-- two facts of it
pub if_use_both : (P Q R : Use → Type 0) (r : Result (Option Use) FmEnd) →
    ((u : Use) → P u → Q u → R u)
    → IfOk r (λ a. IfSome a P) → IfOk r (λ a. IfSome a Q) → IfOk r (λ a. IfSome a R)
if_use_both P Q R (Ok None) h a b = tt
if_use_both P Q R (Ok (Some u)) h a b = h u a b
if_use_both P Q R (Err end) h a b = tt

-- ---- the step

module _ (goal : Equation) (hypothesis : Rule) (side : Side) (place : ℕ) (part : Term)
    (ws : List (ℕ × Body)) where
  abbrev made : Formed FormedStep
  made = used_by goal side place (hypothesis_with ws part hypothesis)

  abbrev with_hypothesis : Term → Rule → Forming FormedStep
  with_hypothesis t h =
      provided (have_one_shape t h.left) (limited
      (used_by goal side place (hypothesis_with ws t h)))

  abbrev with_part : Term → Forming FormedStep
  with_part t =
      provided (is_substitution ws) (found_or NoSuchRule (slice_get (hypothesis ∷ []) 0)) >>=
      with_hypothesis t

  -- the step is formed at the part
  pub step_formed : suffix_at place (side_of side goal) ≡ Some part → is_substitution ws ≡ true →
      have_one_shape part hypothesis.left ≡ true
      → (hypothesis_with ws part hypothesis).within ≡ true →
      used (hypothesis ∷ []) goal side place 0 ws ≡ Ok made.form
  step_formed at sub shape within =
      ap (λ (o : Option Term). found_or WrongShape o >>= with_part) at
      ∙ ap (λ b. provided b (found_or NoSuchRule (slice_get (hypothesis ∷ []) 0)) >>=
      with_hypothesis part) sub
      ∙ ap (λ b. provided b (limited made)) shape
      ∙ ap (λ b. cond b (Ok made.form) (Err Large)) within

  -- a use that is shown there is lawful
  pub lawful_at : suffix_at place (side_of side goal) ≡ Some part → (u : Use) →
      IsShownAt goal hypothesis part ws u
      → have_one_shape part hypothesis.left ≡ true → IsLawful goal hypothesis side place u
  lawful_at at u s shape = record {
    rows = (hypothesis_with ws part hypothesis).form.rows;
    new =
        with_side side goal (replace_at place (side_of side goal)
        (hypothesis_with ws part hypothesis).form.right);
    formed = ap (used (hypothesis ∷ []) goal side place 0) s.shown.same
        ∙ step_formed at (and_parts (rule_passes (is_set ws) hypothesis) (is_substitution ws)
        s.matched).1 shape s.within;
    follows = s.shown.follows;
    shown = s.shown.shown;
  }

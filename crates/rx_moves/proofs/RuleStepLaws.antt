-- What comes of a rule at a redex, by its instance and by what is shown of its rows.
use Rattle.std.proofs.Common.{◌≡◌, ◌∙◌, ap, subst, sym, cond, ℕ, Bool, true, false, Option, Some, None, Ok, Err, List, [], ◌∷◌}
use Rattle.std.specs.Prelude.{IfOk, Result, slice_get}
use Rattle.std.specs.Option.{option_map_or}
use Rattle.rx_plain.specs.Formed.{Formed}
use Rattle.rx_poly.specs.declared.poly_end.PolyEnd.{PolyEnd}
use Rattle.rx_poly.specs.declared.poly_end.PolyEnd.TheVariants as poly_end
use Rattle.rx_cert.proofs.FindingLaws.{and_yes}
use Rattle.rx_cert.specs.Findings.{Yes}
use Rattle.rx_cert.specs.Showing.{all_shown}
use Rattle.rx_cert.specs.declared.cert.Cert.{Cert}
use Rattle.rx_row.specs.declared.row.Row.{Row}
use Rattle.rx_term.specs.Meaning.{matched, redex_of}
use Rattle.rx_term.specs.declared.rule.Equation.{Equation}
use Rattle.rx_term.specs.declared.rule.Rule.{Rule}
use Rattle.rx_term.specs.declared.rule_set.RuleParts.{RuleParts}
use Rattle.rx_term.specs.declared.term.Term.{Term}
use Rattle.rx_inference.proofs.FormingLaws.{shown_taken}
use Rattle.rx_inference.proofs.JudgingLaws.{one_group}
use Rattle.rx_inference.specs.Forming.{Forming, limited, provided}
use Rattle.rx_inference.specs.Judging.{first_rows, of_conditions}
use Rattle.rx_inference.specs.Kinds.{formed}
use Rattle.rx_inference.specs.Making.{simplified_by}
use Rattle.rx_inference.specs.Pieces.{have_one_shape, rule_with, side_of}
use Rattle.rx_inference.specs.States.{State, applied, taken}
use Rattle.rx_inference.specs.declared.form_end.FormEnd.TheVariants.{Large}
use Rattle.rx_inference.specs.declared.formed_step.Asked.TheVariants.{Rows}
use Rattle.rx_inference.specs.declared.formed_step.FormedStep.{FormedStep}
use Rattle.rx_inference.specs.declared.formed_step.Under.TheVariants.{Goal}
use Rattle.rx_inference.specs.declared.pieces.RuleInstance.{RuleInstance}
use Rattle.rx_inference.specs.declared.step.Side.{Side}
use Rattle.rx_inference.specs.declared.step.Step.{Step}
use Rattle.rx_inference.specs.declared.step.Step.TheVariants as step
use Rattle.rx_solve.specs.Attempts.{Tried, applies}
use Rattle.rx_solve.specs.Refuter.{refuted}
use Rattle.rx_solve.specs.Shown.{IsAllShown}
use Rattle.rx_solve.specs.declared.showing.AllShown.{AllShown}
use Rattle.rx_solve.specs.declared.showing.AllShown.TheVariants as all
use Rattle.rx_moves.specs.Answers.{IsFound}
use Rattle.rx_moves.specs.Moves.{Simplify}
use Rattle.rx_moves.specs.Outcomes.{Follows, IsOutcome}
use Rattle.rx_moves.specs.Parts.{AreProofs, IsAskedShown, ShownBy, formed_first}
use Rattle.rx_moves.specs.RuleSteps.{FollowsNumber, FollowsRule, rule_made}
use Rattle.rx_moves.specs.Trying.{Next, asked_shown, attempt}
use Rattle.rx_moves.specs.declared.found.Found.{Found}
use Rattle.rx_moves.specs.declared.outcome.Outcome.{Outcome}
use Rattle.rx_moves.specs.declared.outcome.Outcome.TheVariants as out
use Rattle.rx_moves.proofs.FoundLaws.{beyond_found, failed_found}
use Rattle.rx_moves.proofs.MoveForms.{as_move}
use Rattle.rx_moves.proofs.OutcomeLaws.{by_said, large_outcome, outcome_for, shown_follows}
use Rattle.rx_moves.proofs.RedexLaws.{is_at_first, is_at_redex, refused, simplified_at}

-- ---- rows under those of the goal

-- rows that are asked alone are shown as a list of rows is
pub rows_asked : (old new rows : List Row) (a : AllShown) → IsAllShown old rows a →
    IsAskedShown old new (Rows (record { under = Goal; rows = rows } ∷ [])) a
unfolding asked_shown ShownBy
rows_asked old new rows (all.Shown certs) found = record {
  said = and_yes (all_shown refuted old rows) ∙ found.0;
  shows = one_group old new rows certs ∙ ap of_conditions found.1.shows;
  deep = found.1.deep;
}
rows_asked old new rows all.NotShown found = and_yes (all_shown refuted old rows) ∙ found
rows_asked old new rows all.TooLarge found = and_yes (all_shown refuted old rows) ∙ found

-- ---- the instance

module _ (goal : Equation) (side : Side) (redex : Term) (rule : Rule) where
  abbrev instance : Formed RuleInstance
  instance = rule_with (matched redex) rule

  by_within : (b : Bool) → instance.within ≡ b → limited (simplified_by goal side redex rule) ≡
      (let x : Forming FormedStep =
      cond b (Ok (rule_made goal side instance.form)) (Err Large) in x)
  by_within b e =
      ap (λ (w : Bool). let x : Forming FormedStep =
      cond w (Ok (rule_made goal side instance.form)) (Err Large) in x) e

  made_so : (i : RuleInstance) → i ≡ instance.form → instance.within ≡ true →
      limited (simplified_by goal side redex rule) ≡ Ok (rule_made goal side i)
  made_so i is within =
      by_within true within ∙
      ap (λ j. let x : Forming FormedStep = Ok (rule_made goal side j) in x) (sym is)

  -- the instance passes the limits
  pub rule_large : (e : PolyEnd) (state : State) →
      (e ≡ poly_end.Large → instance.within ≡ false) → e ≡ poly_end.Large →
      FollowsRule state goal side redex rule out.TooLarge
  unfolding FollowsRule
  rule_large e state of is parts s so =
      large_outcome parts state s (so ∙ by_within false (of is))

  -- or it doesn't
  pub rule_follows : {E : Type 0} (i : RuleInstance) (r : Result Outcome E) → i ≡ instance.form →
      instance.within ≡ true →
      IfOk r (λ o. (state : State) → Some goal ≡ slice_get state.goals 0 →
      Follows state (rule_made goal side i) o) →
      IfOk r (λ o. (state : State) → Some goal ≡ slice_get state.goals 0 →
      FollowsRule state goal side redex rule o)
  unfolding Follows FollowsRule
  rule_follows i (Ok o) is within follows =
      λ state first parts s so. follows state first parts s (so ∙ made_so i is within)
  rule_follows i (Err e) is within follows = tt

-- ---- its rows

module _ (goal : Equation) (side : Side) (i : RuleInstance) (a : AllShown) (rows : List Row)
    (same : rows ≡ i.rows) (shown : IsAllShown goal.rows rows a) where
  asked_so : (new : List Row) → IsAskedShown goal.rows new (rule_made goal side i).asked a
  asked_so new =
      rows_asked goal.rows new i.rows a (subst (λ rs. IsAllShown goal.rows rs a) same shown)

  -- what is shown of its rows follows
  pub rows_follow : (x : AllShown) → a ≡ x → (state : State) → Some goal ≡
      slice_get state.goals 0 →
      Follows state (rule_made goal side i) (outcome_for (rule_made goal side i) x)
  rows_follow x is state first =
      shown_follows state (rule_made goal side i) goal a x first
      (asked_so (first_rows (rule_made goal side i).goals)) is

  -- so where they are shown, with what is made of it
  pub shown_made : (certs : List Cert) (made : FormedStep) → a ≡ all.Shown certs → made ≡
      rule_made goal side i → (state : State) → Some goal ≡ slice_get state.goals 0 →
      Follows state (rule_made goal side i) (out.Shown made certs)
  shown_made certs made is made_is state first =
      subst (λ (m : FormedStep). Follows state (rule_made goal side i) (out.Shown m certs))
      (sym made_is) (rows_follow (all.Shown certs) is state first)

-- ---- the redex

module _ (state : State) (side : Side) (rule : Rule) where
  -- no step is formed
  not_there : is_at_first rule side state ≡ false → FollowsNumber state side rule out.Fails
  unfolding FollowsNumber IsOutcome
  not_there other parts n there = refused parts state side n rule there other

  module _ (goal : Equation) (first : Some goal ≡ slice_get state.goals 0) where
    at_this : is_at_first rule side state ≡ is_at_redex rule side goal
    at_this =
        ap (λ (o : Option Equation).
        option_map_or (λ (g : Equation). is_at_redex rule side g) o false) (sym first)

    pub no_redex_there : redex_of (side_of side goal) ≡ None →
        FollowsNumber state side rule out.Fails
    no_redex_there none =
        not_there (at_this ∙ ap (λ (o : Option Term).
        option_map_or (λ (t : Term). have_one_shape rule.left t) o false) none)

    module _ (redex : Term) (is : redex_of (side_of side goal) ≡ Some redex) where
      pub other_shape_there : have_one_shape rule.left redex ≡ false →
          FollowsNumber state side rule out.Fails
      other_shape_there other =
          not_there (at_this ∙ ap (λ (o : Option Term).
          option_map_or (λ (t : Term). have_one_shape rule.left t) o false) is ∙ other)

      formed_there : have_one_shape rule.left redex ≡ true → (parts : RuleParts) (n : ℕ) →
          slice_get parts.rules n ≡ Some rule →
          formed_first parts state (step.Simplify side n []) ≡
          limited (simplified_by goal side redex rule)
      unfolding formed_first
      formed_there shape parts n there =
          ap (λ (o : Option Equation). formed parts o state.hypotheses (step.Simplify side n []))
          (sym first)
          ∙ ap (λ (o : Option Term). simplified_at side goal o (slice_get parts.rules n)) is
          ∙ ap (λ (r : Option Rule). simplified_at side goal (Some redex) r) there
          ∙ ap (λ (b : Bool). provided b (limited (simplified_by goal side redex rule))) shape

      follows_there : (o : Outcome) → have_one_shape rule.left redex ≡ true →
          FollowsRule state goal side redex rule o → FollowsNumber state side rule o
      unfolding FollowsRule FollowsNumber
      follows_there o shape follows parts n there =
          follows parts (step.Simplify side n []) (formed_there shape parts n there)

-- the redex has the shape of the rule's left side
pub shape_follows : {E : Type 0} (goal : Equation) (side : Side) (rule : Rule) (redex : Term) →
    redex_of (side_of side goal) ≡ Some redex → (r : Result Outcome E) →
    have_one_shape rule.left redex ≡ true →
    IfOk r (λ o. (state : State) → Some goal ≡ slice_get state.goals 0 →
    FollowsRule state goal side redex rule o) →
    IfOk r (λ o. (state : State) → Some goal ≡ slice_get state.goals 0 →
    FollowsNumber state side rule o)
shape_follows goal side rule redex is (Ok o) shape follows =
    λ state first. follows_there state side rule goal first redex is o shape (follows state first)
shape_follows goal side rule redex is (Err e) shape follows = tt

-- ---- what is found

module _ (parts : RuleParts) (state : State) (side : Side) (rule : Rule) (n : ℕ)
    (there : slice_get parts.rules n ≡ Some rule) (o : Outcome)
    (of : FollowsNumber state side rule o) where
  here : (x : Outcome) → o ≡ x → IsOutcome parts state (step.Simplify side n []) x
  unfolding FollowsNumber
  here x is = subst (λ y. IsOutcome parts state (step.Simplify side n []) y) is (of parts n there)

  -- the rule isn't found to apply
  pub rule_failed : (f : Found) → o ≡ out.Fails → f ≡ record { ready = None; noted = false } →
      IsFound parts state (attempt parts state (Simplify side n)) f
  unfolding IsOutcome
  rule_failed f is made =
      failed_found parts state (attempt parts state (Simplify side n)) f (here out.Fails is) made

  -- something passes the limits
  pub rule_beyond : (f : Found) → o ≡ out.TooLarge → f ≡ record { ready = None; noted = true } →
      IsFound parts state (attempt parts state (Simplify side n)) f
  unfolding IsOutcome
  rule_beyond f is made =
      beyond_found parts state (attempt parts state (Simplify side n)) f (here out.TooLarge is) made

  module _ (made : FormedStep) (certs : List Cert) (is : o ≡ out.Shown made certs) where
    formed_so : formed_first parts state (step.Simplify side n []) ≡ Ok made
    unfolding IsOutcome
    formed_so = (here (out.Shown made certs) is).0

    proofs_of : AreProofs (first_rows state.goals) (first_rows made.goals) made.asked certs
    unfolding IsOutcome ShownBy
    proofs_of = (here (out.Shown made certs) is).1

    applies_so : attempt parts state (Simplify side n) ≡
        applies (record { move = Simplify side n; state = taken state made })
    applies_so =
        by_said parts state (step.Simplify side n []) made formed_so Yes proofs_of.said

    makes_so : applied parts state (step.Simplify side n certs) ≡ Ok (taken state made)
    unfolding formed_first
    makes_so = shown_taken parts state (step.Simplify side n certs) made
        (as_move parts state.hypotheses (slice_get state.goals 0) (step.Simplify side n certs)
        ∙ formed_so) proofs_of.shows

    -- or its step is found
    pub rule_found : (s : Step) (f : Found) → s ≡ step.Simplify side n certs → f ≡
        record { ready = Some (record { step = s; made = made }); noted = false } →
        IsFound parts state (attempt parts state (Simplify side n)) f
    rule_found s f same found =
        subst (λ u. IsFound parts state (attempt parts state (Simplify side n)) u)
        (sym (found ∙ ap (λ x. let u : Found =
        record { ready = Some (record { step = x; made = made }); noted = false } in u) same))
        (record {
          noted = sym (ap (λ (t : Tried Next). t.noted) applies_so);
          gives = (
            ap (λ (t : Tried Next). t.made) applies_so,
            record { applies = makes_so; deep = proofs_of.deep },
          );
        })

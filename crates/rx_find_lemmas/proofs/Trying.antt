-- The lemmas so far, with what comes of one more step.
use Rattle.std.proofs.Common.{◌≡◌, ◌∙◌, Bool, true, false, ◌||◌, if◌then◌else◌, Option, Some, None, Result, Ok, Err, List, [], ◌∷◌, ◌++◌, All, map, refl, sym, ap, subst}
use Rattle.std.specs.Prelude.{IfOk, option_and_then, option_to_list}
use Rattle.std.specs.Option.{option_map}
use Rattle.std.proofs.lemmas.List.{map-append}
use Rattle.std.proofs.lemmas.List.Elements.{All-append, All-cons, All-nil, filter_map-append}
use Rattle.std.proofs.lemmas.List.Folds.{list_any-append}
use Rattle.rx_plain.proofs.Booleans.{or_false}
use Rattle.rx_solve.specs.Attempts.{Tried, applies, applying, is_noted}
use Rattle.rx_term.specs.declared.rule.Equation.{Equation}
use Rattle.rx_term.specs.declared.rule_set.RuleParts.{RuleParts}
use Rattle.rx_inference.specs.States.{State}
use Rattle.rx_inference.specs.declared.step.Delete.TheVariants as delete
use Rattle.rx_inference.specs.declared.step.Step.{Step}
use Rattle.rx_inference.specs.declared.step.Step.TheVariants as step
use Rattle.rx_steps.specs.Alone.{alone}
use Rattle.rx_lemma.specs.Generalising.{generalisations}
use Rattle.rx_lemma.specs.Lemmas.{Generalisation}
use Rattle.rx_moves.specs.Answers.{IsTaken}
use Rattle.rx_moves.specs.Moves.{Generalise, move_of}
use Rattle.rx_moves.specs.Trying.{Next, attempt}
use Rattle.rx_settle.specs.Answers.{IsTrial, Takes}
use Rattle.rx_settle.specs.declared.trial.Trial.{Trial}
use Rattle.rx_find_lemmas.specs.Finders.{AreLemmas, IsShown}
use Rattle.rx_find_lemmas.specs.Finding.{attempted, lemmas_among, lemmas_at, tried}
use Rattle.rx_find_lemmas.specs.Lemmas.{bare_step, general, lemma_of, lemma_taken, step_to, with_trial}
use Rattle.rx_find_lemmas.specs.Trials.{AreTried, IsTriedAlone}
use Rattle.rx_find_lemmas.specs.declared.lemma.Found.{Found}
use Rattle.rx_find_lemmas.specs.declared.lemma.Lemma.{Lemma}
use Rattle.rx_find_lemmas.proofs.Steps.{applies_to_new, to_new}

same_some : {A : Type 0} (x y : A) → Some x ≡ Some y → x ≡ y
same_some x y e = cc

module _ (parts : RuleParts) (goal : Equation) where
  -- ---- one step

  -- of a call
  pub tried_alone : {E : Type 0} (g : Generalisation) (start after : State) (copy : Equation)
      (s : Step) (result : Result Trial E) → start ≡ alone copy → copy ≡ goal → s ≡ bare_step g →
      IfOk result (IsTrial parts start after (attempt parts start (move_of s))) →
      IfOk result (IsTriedAlone parts goal g)
  tried_alone g start after copy s (Ok t) starts same bare is = record {
    after = after;
    is =
        subst (λ m. IsTrial parts (alone goal) after (attempt parts (alone goal) m) t)
        (ap move_of bare)
        (subst (λ old. IsTrial parts old after (attempt parts old (move_of s)) t)
        (starts ∙ ap alone same) is);
  }
  tried_alone g start after copy s (Err e) starts same bare is = tt

  module _ (g : Generalisation) (after : State) where
    -- the lemma that a step is the one to: the generalisation, shown
    record Takes-lemma (s : Step) : Type 0 where
      lemma : Lemma
      is : lemma_of g.kind s ≡ Some lemma
      same : general lemma ≡ g
      shown : IsShown parts goal lemma

    abbrev IsApplied : Generalisation → Type 0
    IsApplied h = attempted parts goal h ≡ applies (to_new parts goal h.goal h.subst)

    module _ (applied : IsApplied g) (alone_after : after ≡ alone g.goal) where
      by_step : (s : Step) → move_of s ≡ Generalise g.goal g.subst →
          IsTaken parts (alone goal) after s → Takes-lemma s
      by_step (step.Generalise left right rows ws certs) e taken =
          let new : Equation = record { left = left; right = right; rows = rows } in
          let goal_is : new ≡ g.goal = cc in
          let ws_is : ws ≡ g.subst = cc in
          let lemma : Lemma =
          record { kind = g.kind; goal = new; subst = ws; certs = certs } in
          let same : general lemma ≡ g =
          λ i. record { kind = g.kind; goal = goal_is i; subst = ws_is i } in
          record {
            lemma = lemma;
            is = refl;
            same = same;
            shown = record {
              shown = subst IsApplied (sym same) applied;
              taken =
                  subst (λ s. IsTaken parts (alone goal) s (step_to lemma))
                  (alone_after ∙ ap alone (sym goal_is)) taken;
            };
          }
      by_step (step.Simplify side rule certs) e taken = absurd cc
      by_step (step.Hyp side place hyp ws certs) e taken = absurd cc
      by_step (step.Expand side keep) e taken = absurd cc
      by_step (step.Delete (delete.Absurd cert)) e taken = absurd cc
      by_step (step.Delete (delete.Equal certs)) e taken = absurd cc
      by_step step.EqDelete e taken = absurd cc
      by_step (step.Postulate left right rows certs) e taken = absurd cc
      by_step (step.Split row) e taken = absurd cc
      by_step (step.Decompose certs) e taken = absurd cc
      by_step (step.Results left right certs) e taken = absurd cc

    taken_by : (s : Step) → Takes parts (alone goal) after (attempted parts goal g).made (Some s) →
        Takes-lemma s
    taken_by s takes =
        let next : Next = record { move = move_of s; state = after } in
        let applied = applies_to_new parts goal g.goal g.subst next takes.0 in
        let same = same_some next (to_new parts goal g.goal g.subst)
        (sym takes.0 ∙ ap (λ (t : Tried Next). t.made) applied) in
        by_step applied (ap (λ (n : Next). n.state) same) s (ap (λ (n : Next). n.move) same)
        takes.1

    -- ---- what is found of it

    abbrev lemma_now : Option Step → List Lemma
    lemma_now o = option_to_list (lemma_taken g.kind o)

    abbrev is_now : Option Next → List Generalisation
    is_now made = option_to_list (option_map (λ (next : Next). g) made)

    general_now : (o : Option Step) →
        Takes parts (alone goal) after (attempted parts goal g).made o →
        map general (lemma_now o) ≡ is_now (attempted parts goal g).made
    general_now None takes = sym (ap is_now takes.0)
    general_now (Some s) takes =
        let one = taken_by s takes in
        ap (λ l. map general (option_to_list l)) one.is ∙ ap (λ h. h ∷ []) one.same ∙
        sym (ap is_now takes.0)

    shown_now : (o : Option Step) →
        Takes parts (alone goal) after (attempted parts goal g).made o →
        All (IsShown parts goal) (lemma_now o)
    shown_now None takes = All-nil (IsShown parts goal)
    shown_now (Some s) takes =
        let one = taken_by s takes in
        subst (λ l. All (IsShown parts goal) (option_to_list l)) (sym one.is)
        (All-cons (IsShown parts goal) one.lemma [] one.shown (All-nil (IsShown parts goal)))

  alone_applies : (made : Option Generalisation) (noted : Bool) →
      applying (record { made = made; noted = noted } ∷ []) ≡ option_to_list made
  alone_applies None noted = refl
  alone_applies (Some g) noted = refl

  -- ---- all of them

  pub none_tried : (found : Found) → found ≡ record { lemmas = []; noted = false } →
      AreTried parts goal [] found
  none_tried found none =
      subst (AreTried parts goal []) (sym none)
      (record { lemmas = refl; noted = refl; shown = All-nil (IsShown parts goal) })

  module _ (gs : List Generalisation) (g : Generalisation) (old : Found) (trial : Trial)
      (one : IsTriedAlone parts goal g trial) (are : AreTried parts goal gs old) where
    abbrev before : List (Tried Generalisation)
    before = map (tried parts goal) gs

    abbrev last : Tried Generalisation
    last = tried parts goal g

    grown : AreTried parts goal (gs ++ g ∷ []) (with_trial old g.kind trial)
    grown =
        let all = map-append (tried parts goal) gs (g ∷ []) in
        record {
          lemmas =
              map-append general old.lemmas (lemma_now g one.after trial.taken)
              ∙ (λ i. are.lemmas i ++ general_now g one.after trial.taken one.is.taken i)
              ∙ ap (λ more. applying before ++ more) (sym (alone_applies last.made last.noted))
              ∙ sym (filter_map-append (λ (t : Tried Generalisation). t.made) before (last ∷ []))
              ∙ sym (ap applying all);
          noted =
              (λ i. are.noted i || (one.is.noted ∙ sym (or_false last.noted)) i)
              ∙ sym (list_any-append (λ (t : Tried Generalisation). t.noted) before (last ∷ []))
              ∙ sym (ap is_noted all);
          shown =
              All-append (IsShown parts goal) old.lemmas (lemma_now g one.after trial.taken)
              are.shown (shown_now g one.after trial.taken one.is.taken);
        }

    pub tried_grow : (new : Found) → new ≡ with_trial old g.kind trial →
        AreTried parts goal (gs ++ g ∷ []) new
    tried_grow new same = subst (AreTried parts goal (gs ++ g ∷ [])) (sym same) grown

  -- ---- the answer

  module _ (gs : List Generalisation) (found : Found)
      (made : generalisations parts goal ≡ Some gs) (are : AreTried parts goal gs found) where
    abbrev by_noted : Bool → Option (List Generalisation)
    by_noted b = if b then None else Some (applying (map (tried parts goal) gs))

    of_made : lemmas_at parts goal ≡ by_noted (is_noted (map (tried parts goal) gs))
    unfolding lemmas_at
    of_made = ap (option_and_then (lemmas_among parts goal)) made

    of_found : lemmas_at parts goal ≡ by_noted found.noted
    of_found = of_made ∙ sym (ap by_noted are.noted)

    pub all_lemmas : found.noted ≡ false → AreLemmas parts goal found.lemmas
    all_lemmas none = record {
      all = of_found ∙ ap by_noted none ∙ ap Some (sym are.lemmas);
      shown = are.shown;
    }

    pub no_lemmas : found.noted ≡ true → lemmas_at parts goal ≡ None
    no_lemmas noted = of_found ∙ ap by_noted noted

  pub none_made : generalisations parts goal ≡ None → lemmas_at parts goal ≡ None
  unfolding lemmas_at
  none_made none = ap (option_and_then (lemmas_among parts goal)) none

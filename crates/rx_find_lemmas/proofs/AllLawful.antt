-- The step to a lawful generalisation applies, so it is a lemma.
use Rattle.std.proofs.Common.{◌≡◌, ◌∙◌, ap, refl, false, Option, Some, None, List, [], ◌∷◌, map}
use Rattle.std.specs.Prelude.{IfSome, if◌then◌else◌, option_and_then}
use Rattle.std.specs.List.{All}
use Rattle.std.proofs.lemmas.List.Elements.{All-head, All-tail}
use Rattle.rx_cert.specs.Findings.{Yes, and_also}
use Rattle.rx_cert.specs.Showing.{all_shown}
use Rattle.rx_solve.specs.Attempts.{applies, applying, is_noted, where_shown}
use Rattle.rx_solve.specs.Refuter.{refuted}
use Rattle.rx_term.specs.declared.rule.Equation.{Equation}
use Rattle.rx_term.specs.declared.rule_set.RuleParts.{RuleParts}
use Rattle.rx_inference.specs.Making.{asking_inside}
use Rattle.rx_steps.specs.Alone.{alone}
use Rattle.rx_lemma.specs.Generalising.{generalisations}
use Rattle.rx_lemma.specs.Lawful.{IsLawful}
use Rattle.rx_lemma.specs.Lemmas.{Generalisation}
use Rattle.rx_lemma.proofs.GeneralisingLaws.{generalisations_lawful}
use Rattle.rx_moves.specs.Moves.{Generalise}
use Rattle.rx_moves.specs.Trying.{asked_shown, attempt, next_if_formed}
use Rattle.rx_find_lemmas.specs.AllLemmas.{GeneralisationsAreLemmas}
use Rattle.rx_find_lemmas.specs.Finding.{attempted, lemmas_among, lemmas_at, tried, unless_noted, where_applies}
use Rattle.rx_find_lemmas.proofs.Steps.{to_new}

module _ (parts : RuleParts) (goal : Equation) where
  module _ (g : Generalisation) (is : IsLawful parts goal g) where
    asked_yes : asked_shown goal.rows g.goal.rows (asking_inside is.rows is.inside g.goal).asked ≡
        Yes
    unfolding asked_shown
    asked_yes =
        ap (λ s. and_also s (and_also (all_shown refuted g.goal.rows is.inside) Yes)) is.follows
        ∙ ap (λ s. and_also s Yes) is.stays

    lawful_applies : attempted parts goal g ≡ applies (to_new parts goal g.goal g.subst)
    unfolding attempt
    lawful_applies =
        ap (next_if_formed (alone goal) (Generalise g.goal g.subst)) is.formed
        ∙ ap (λ s. where_shown s (to_new parts goal g.goal g.subst)) asked_yes

    lawful_tried : tried parts goal g ≡ applies g
    lawful_tried = ap (where_applies g) lawful_applies

  -- nothing is noted, and all apply
  all_tried : (gs : List Generalisation) → All (IsLawful parts goal) gs →
      map (tried parts goal) gs ≡ map applies gs
  all_tried [] all = refl
  all_tried (g ∷ gs) all =
      let first = lawful_tried g (All-head (IsLawful parts goal) g gs all) in
      let rest = all_tried gs (All-tail (IsLawful parts goal) g gs all) in
      λ i. first i ∷ rest i

  none_noted : (gs : List Generalisation) → is_noted (map applies gs) ≡ false
  none_noted [] = refl
  none_noted (g ∷ gs) = none_noted gs

  all_apply : (gs : List Generalisation) → applying (map applies gs) ≡ gs
  all_apply [] = refl
  all_apply (g ∷ gs) = ap (λ hs. g ∷ hs) (all_apply gs)

  among_lawful : (gs : List Generalisation) → All (IsLawful parts goal) gs →
      lemmas_among parts goal gs ≡ Some gs
  among_lawful gs all =
      ap unless_noted (all_tried gs all)
      ∙ (λ i. if none_noted gs i then None else Some (all_apply gs i))

  by_made : (made : Option (List Generalisation)) → IfSome made (All (IsLawful parts goal)) →
      option_and_then (lemmas_among parts goal) made ≡ made
  by_made None all = refl
  by_made (Some gs) all = among_lawful gs all

pub generalisations_are_lemmas : GeneralisationsAreLemmas
unfolding lemmas_at
generalisations_are_lemmas parts goal made domains is =
    by_made parts goal (generalisations parts goal)
    (generalisations_lawful parts goal made domains is)

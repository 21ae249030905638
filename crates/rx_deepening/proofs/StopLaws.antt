-- Where another visit isn't made: nothing of the visits that would come is counted.
use Rattle.std.proofs.Common.{◌≡◌, ◌∙◌, ap, refl, subst, sym, arith, ℕ, zero, suc, ◌+◌, ◌<◌, List, [], ◌∷◌}
use Rattle.rx_deepening.specs.Keeping.{IsVisited, StandsForVisits}
use Rattle.rx_deepening.specs.Counters.{GoesOn, counted, stopped}
use Rattle.rx_deepening.specs.Views.{IfFound, seen_counter}
use Rattle.rx_deepening.specs.Visits.{Visit, choosing, visits, visits_of}
use Rattle.rx_deepening.specs.declared.kept.Kept.{Kept}
use Rattle.rx_deepening.specs.declared.kept.Kept.TheVariants.{Expanded, Frontier}
use Rattle.rx_deepening.specs.declared.kept.Progress.{Progress}
use Rattle.rx_deepening.specs.declared.counter.Ended.{Ended}
use Rattle.rx_deepening.specs.declared.counter.Ended.TheVariants.{Going, Found, Over}
use Rattle.rx_deepening.specs.declared.counter.Counter.{Counter}
use Rattle.rx_deepening.specs.declared.tree.Menu.{Menu}
use Rattle.rx_deepening.specs.declared.tree.Settled.{Settled}
use Rattle.rx_deepening.proofs.CountLaws.{budget-ends, ended-stays}
use Rattle.rx_deepening.proofs.SeenLaws.{ended_seen, going_seen}
use Rattle.rx_deepening.proofs.VisitedLaws.{visited_ending}
use Rattle.rx_deepening.proofs.WalkLaws.{visits-first}

none_left : (n : ℕ) → (0 < n → ⊥) → n ≡ 0
none_left zero h = refl
none_left (suc n) h = absurd (h (omega arith))

module _ {N V R : Type 0} (view : N → V) where
  stopped_by : (e : Ended N) (t : Counter N R) (v : Visit V R) (vs : List (Visit V R)) → t.ended ≡ e
      → (GoesOn t → ⊥) → seen_counter view (stopped e t) ≡ counted (seen_counter view t) (v ∷ vs)
  stopped_by Going t v vs is not =
      sym (budget-ends (seen_counter view t) v vs (going_seen view t.ended is)
      (none_left t.left (λ some. not (record { going = is; left = some }))))
  stopped_by (Found node) t v vs is not =
      sym (ended-stays (seen_counter view t) (v ∷ vs) (ended_seen view t.ended
      (λ goes. let no : Found node ≡ Going = sym is ∙ goes in cc)))
  stopped_by Over t v vs is not =
      sym (ended-stays (seen_counter view t) (v ∷ vs) (ended_seen view t.ended
      (λ goes. let no : Over ≡ Going = sym is ∙ goes in cc)))

  -- none of the visits from a node on is counted
  pub stopped_node : (settled : V → Settled V R) (menu : V → Menu V R) (t : Counter N R) (more : ℕ)
      (path : List ℕ) (node : V) → (GoesOn t → ⊥) → seen_counter view (stopped t.ended t) ≡
      counted (seen_counter view t) (visits settled menu more path node)
  stopped_node settled menu t more path node not =
      let first = visits-first settled menu more path node in
      stopped_by t.ended t first.0 first.1 refl not
      ∙ ap (counted (seen_counter view t)) (sym first.2)

  -- visits don't go on after that
  stops_by : (e : Ended N) (t : Counter N R) → t.ended ≡ e → (stopped e t).ended ≡ Going → ⊥
  stops_by Going t is goes = cc
  stops_by (Found node) t is goes = let no : Found node ≡ Going = sym is ∙ goes in cc
  stops_by Over t is goes = let no : Over ≡ Going = sym is ∙ goes in cc

  pub stopped_visited : (settled : V → Settled V R) (menu : V → Menu V R) (a b : Progress N R)
      (lists : ℕ → List (Visit V R)) (v : Visit V R) (vs : List (Visit V R)) → lists 0 ≡ v ∷ vs
      → (GoesOn a.counter → ⊥) → b.counter ≡ stopped a.counter.ended a.counter
      → IsVisited view settled menu a lists b
  stopped_visited settled menu a b lists v vs first not is =
      visited_ending view settled menu a b lists
      (ap (seen_counter view) is ∙ stopped_by a.counter.ended a.counter v vs refl not
      ∙ ap (counted (seen_counter view a.counter)) (sym first))
      (λ goes. stops_by a.counter.ended a.counter refl
      (ap (λ (t : Counter N R). t.ended) (sym is) ∙ goes))

  -- so of a node that is new, and of a kept one
  pub stopped_new : (settled : V → Settled V R) (menu : V → Menu V R) (a b : Progress N R)
      (path : List ℕ) (node : V) → (GoesOn a.counter → ⊥)
      → b.counter ≡ stopped a.counter.ended a.counter
      → IsVisited view settled menu a (λ n. visits settled menu n path node) b
  stopped_new settled menu a b path node not is =
      let first = visits-first settled menu 0 path node in
      stopped_visited settled menu a b (λ n. visits settled menu n path node) first.0 first.1
      first.2 not is

  pub stopped_kept : (settled : V → Settled V R) (menu : V → Menu V R) (a b : Progress N R)
      (k : Kept N) (lists : ℕ → List (Visit V R)) → StandsForVisits view settled menu a.counter.note
      k
      lists → (GoesOn a.counter → ⊥) → b.counter ≡ stopped a.counter.ended a.counter
      → IsVisited view settled menu a lists b
  stopped_kept settled menu a b Expanded lists (v, unclosed, noted, are) not is =
      stopped_visited settled menu a b lists v [] (are 0) not is
  stopped_kept settled menu a b (Frontier leaf) lists (s, at, are) not is =
      stopped_visited settled menu a b lists (choosing leaf.path s (menu s.node))
      (visits_of settled menu (0 + leaf.below) leaf.path (menu s.node).choices) (are 0) not is

module _ {N R : Type 0} (P : N → Type 0) where
  found_by : (e : Ended N) (t : Counter N R) → t.ended ≡ e → IfFound P t.ended
      → IfFound P (stopped e t).ended
  found_by Going t is h = tt
  found_by (Found node) t is h = h
  found_by Over t is h = h

  -- a node that was found is so still
  pub stopped_found : (t u : Counter N R) → u ≡ stopped t.ended t → IfFound P t.ended
      → IfFound P u.ended
  stopped_found t u is h =
      subst (λ (x : Counter N R). IfFound P x.ended) (sym is) (found_by t.ended t refl h)

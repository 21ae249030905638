-- A step of the walk: the visit of a settled node, and of those that its choices lead to.
use Rattle.std.proofs.Common.{subst, ◌≡◌, ◌∙◌, ap, sym, ℕ, ◌-◌, ◌<◌, ◌⊎◌, inl, inr, true, false, Option, Some, None, refl, Result, Ok, Err, IfOk, List, map}
use Rattle.std.specs.Option.{option_or}
use Rattle.rx_deepening.specs.Counters.{GoesOn, counted, visited}
use Rattle.rx_deepening.specs.Views.{IfFound, seen_choice, seen_menu, seen_settled, seen_counter}
use Rattle.rx_deepening.specs.Visits.{Visit, alone, choosing, visits, visits_of}
use Rattle.rx_deepening.specs.declared.counter.Counter.{Counter}
use Rattle.rx_deepening.specs.declared.tree.Choice.{Choice}
use Rattle.rx_deepening.specs.declared.tree.Menu.{Menu}
use Rattle.rx_deepening.specs.declared.tree.Settled.{Settled}
use Rattle.rx_deepening.proofs.SeenLaws.{found_if, going_seen, visited_seen}
use Rattle.rx_deepening.proofs.WalkLaws.{last-counts, settled-counts}

nothing_more : {R : Type 0} (o : Option R) → option_or o None ≡ o
nothing_more None = refl
nothing_more (Some note) = refl

module _ {N V R : Type 0} (view : N → V) where
  -- a settled node with what was noted there, or else so
  abbrev noting : List ℕ → Settled N R → Option R → Visit N R
  noting path s note =
      record { path = path; node = s.node; closed = s.closed; note = option_or s.note note }

  -- the visit of a node whose choices are found
  pub choice_counted : (t u : Counter N R) (path : List ℕ) (s : Settled N R) (m : Menu N R)
      (is : Menu V R) → seen_menu view m ≡ is → u ≡ visited (t.left - 1) t (noting path s m.note)
      → seen_counter view u ≡
      visited (t.left - 1) (seen_counter view t) (choosing path (seen_settled view s) is)
  choice_counted t u path s m is same counts =
      ap (seen_counter view) counts
      ∙ visited_seen view (t.left - 1) t (noting path s m.note)
      ∙ ap (λ (m : Menu V R). visited (t.left - 1) (seen_counter view t)
      (choosing path (seen_settled view s) m)) same

  -- a node that is found is so
  pub step_found : {E : Type 0} (P : N → Type 0) (t : Counter N R) (path : List ℕ) (s : Settled N R)
      (more : Option R) (r : Result (Counter N R) E) → P s.node
      → IfOk r (λ u. u ≡ visited (t.left - 1) t (noting path s more))
      → IfOk r (λ u. IfFound P u.ended)
  step_found P t path s more (Ok u) h is =
      subst (λ (t : Counter N R). IfFound P t.ended) (sym is) (found_if P s.closed s.node h)
  step_found P t path s more (Err e) h is = tt

  module _ {W E : Type 0} (settled : W → V → Settled V R) (menu : W → V → Menu V R) where
    -- the only visit of a node
    pub walked_last : (w : W) (t : Counter N R) (more : ℕ) (path : List ℕ) (node : V)
        (s : Settled N R) (r : Result (Counter N R) E) → seen_settled view s ≡ settled w node
        → GoesOn t → (more ≡ 0) ⊎ (s.closed ≡ true)
        → IfOk r (λ u. u ≡ visited (t.left - 1) t (noting path s None))
        → IfOk r (λ u. seen_counter view u ≡
        counted (seen_counter view t) (visits (settled w) (menu w) more path node))
    walked_last w t more path node s (Err e) is goes last counts = tt
    walked_last w t more path node s (Ok u) is goes last counts =
        ap (seen_counter view) counts
        ∙ visited_seen view (t.left - 1) t (noting path s None)
        ∙ ap (λ (o : Option R). visited (t.left - 1) (seen_counter view t)
        (record { path = path; node = view s.node; closed = s.closed; note = o }))
        (nothing_more s.note)
        ∙ ap (λ (r : Settled V R). visited (t.left - 1) (seen_counter view t) (alone path r)) is
        ∙ sym (last-counts (settled w) (menu w) (seen_counter view t) more path node
        (going_seen view t.ended goes.going) goes.left
        (elim last [
          | inl e ↦ inl e
          | inr e ↦ inr (sym (ap (λ (r : Settled V R). r.closed) is) ∙ e)
        ]))

    -- the visits of those that its choices lead to come after it
    pub walked_on : (w u x : W) (t d : Counter N R) (more : ℕ) (path : List ℕ) (node : V)
        (s : Settled N R) (cs : List (Choice N)) (r : Result (Counter N R) E) → u ≡ w → x ≡ u
        → seen_settled view s ≡ settled w node → GoesOn t → 0 < more → s.closed ≡ false
        → seen_counter view d ≡ visited (t.left - 1) (seen_counter view t)
        (choosing path (seen_settled view s) (menu u (view s.node)))
        → map (seen_choice view) cs ≡ (menu u (view s.node)).choices
        → IfOk r (λ y. seen_counter view y ≡ counted (seen_counter view d)
        (visits_of (settled x) (menu x) (more - 1) path (map (seen_choice view) cs)))
        → IfOk r (λ y. seen_counter view y ≡
        counted (seen_counter view t) (visits (settled w) (menu w) more path node))
    walked_on w u x t d more path node s cs (Err e) at then is goes some unclosed counts same
        below = tt
    walked_on w u x t d more path node s cs (Ok y) at then is goes some unclosed counts same
        below =
        let left = t.left - 1 in
        let r = seen_settled view s in
        let all : x ≡ w = then ∙ at in
        below
        ∙ (λ i. counted (counts i)
        (visits_of (settled (all i)) (menu (all i)) (more - 1) path (same i)))
        ∙ (λ i. counted
        (visited left (seen_counter view t) (choosing path r (menu (at i) (view s.node))))
        (visits_of (settled w) (menu w) (more - 1) path (menu (at i) (view s.node)).choices))
        ∙ settled-counts (settled w) (menu w) (seen_counter view t) more path node r is
        (going_seen view t.ended goes.going) goes.left some unclosed

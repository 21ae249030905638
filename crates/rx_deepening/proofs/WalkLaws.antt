-- The visits from a node on, and how a walk counts them.
use Rattle.std.proofs.Common.{◌≡◌, ◌∙◌, ap, refl, sym, subst, cond, arith, inl, inr, ◌⊎◌, ℕ, zero, suc, ◌+◌, ◌-◌, ◌<◌, Bool, true, false, List, [], ◌∷◌}
use Rattle.rx_deepening.specs.Counters.{counted, visited}
use Rattle.rx_deepening.specs.Visits.{Visit, alone, choosing, lists, visits, visits_of}
use Rattle.rx_deepening.specs.declared.counter.Ended.TheVariants.{Going}
use Rattle.rx_deepening.specs.declared.counter.Counter.{Counter}
use Rattle.rx_deepening.specs.declared.tree.Menu.{Menu}
use Rattle.rx_deepening.specs.declared.tree.Settled.{Settled}
use Rattle.rx_deepening.proofs.CountLaws.{counted-append, visit-counts}

module _ {N R : Type 0} (settled : N → Settled N R) (menu : N → Menu N R) where
  abbrev here : List ℕ → N → Visit N R
  here path node = alone path (settled node)

  abbrev trying : List ℕ → N → Visit N R
  trying path node = choosing path (settled node) (menu (settled node).node)

  -- a visit without choices to come is the only one
  pub visits-last : (more : ℕ) (path : List ℕ) (node : N) → (more ≡ 0) ⊎
      ((settled node).closed ≡ true) → visits settled menu more path node ≡ here path node ∷ []
  unfolding visits
  visits-last zero path node h = refl
  visits-last (suc more) path node (inl e) = absurd (omega (arith, e))
  visits-last (suc more) path node (inr e) =
      ap (λ b. cond b (here path node ∷ []) (trying path node ∷
      visits_of settled menu more path (menu (settled node).node).choices)) e

  -- one with choices is followed by theirs
  pub visits-more : (more : ℕ) (path : List ℕ) (node : N) → 0 < more → (settled node).closed ≡ false
      → visits settled menu more path node ≡ trying path node ∷
      visits_of settled menu (more - 1) path (menu (settled node).node).choices
  unfolding visits
  visits-more zero path node h e = absurd (omega (arith, h))
  visits-more (suc more) path node h e =
      let less : more ≡ suc more - 1 = omega arith in
      ap (λ b. cond b (here path node ∷ []) (trying path node ∷
      visits_of settled menu more path (menu (settled node).node).choices)) e
      ∙ ap (λ n. trying path node ∷ visits_of settled menu n path
      (menu (settled node).node).choices) less

  -- there is always a first visit
  first_by : (b : Bool) (more : ℕ) (path : List ℕ) (node : N) → 0 < more → (settled node).closed ≡ b
      → (v : Visit N R) × (vs : List (Visit N R)) × (visits settled menu more path node ≡ v ∷ vs)
  first_by true more path node h e = (here path node, [], visits-last more path node (inr e))
  first_by false more path node h e = (
    trying path node,
    visits_of settled menu (more - 1) path (menu (settled node).node).choices,
    visits-more more path node h e,
  )

  pub visits-first : (more : ℕ) (path : List ℕ) (node : N) → (v : Visit N R) × (vs : List (Visit N R)) ×
      (visits settled menu more path node ≡ v ∷ vs)
  visits-first zero path node = (here path node, [], visits-last 0 path node (inl refl))
  visits-first (suc more) path node =
      first_by (settled node).closed (suc more) path node (omega arith) refl

  -- the only visit of a node is counted
  pub last-counts : (t : Counter N R) (more : ℕ) (path : List ℕ) (node : N) → t.ended ≡ Going → 0 <
      t.left → (more ≡ 0) ⊎ ((settled node).closed ≡ true)
      → counted t (visits settled menu more path node) ≡ visited (t.left - 1) t (here path node)
  last-counts t more path node g h e =
      ap (counted t) (visits-last more path node e) ∙ visit-counts t (here path node) [] g h

  -- a node, and then those that its choices lead to
  pub node-counts : (t : Counter N R) (more : ℕ) (path : List ℕ) (node : N) → t.ended ≡ Going → 0 <
      t.left → 0 < more → (settled node).closed ≡ false
      → counted (visited (t.left - 1) t (trying path node))
      (visits_of settled menu (more - 1) path (menu (settled node).node).choices)
      ≡ counted t (visits settled menu more path node)
  node-counts t more path node g h k e =
      sym (visit-counts t (trying path node) (visits_of settled menu (more - 1) path
      (menu (settled node).node).choices) g h)
      ∙ ap (counted t) (sym (visits-more more path node k e))

  -- so by the node as it is settled
  pub settled-counts : (t : Counter N R) (more : ℕ) (path : List ℕ) (node : N) (s : Settled N R) → s
      ≡
      settled node → t.ended ≡ Going → 0 < t.left → 0 < more → s.closed ≡ false
      → counted (visited (t.left - 1) t (choosing path s (menu s.node)))
      (visits_of settled menu (more - 1) path (menu s.node).choices)
      ≡ counted t (visits settled menu more path node)
  settled-counts t more path node s is g h k e =
      subst (λ (r : Settled N R). counted (visited (t.left - 1) t (choosing path r (menu r.node)))
      (visits_of settled menu (more - 1) path (menu r.node).choices)
      ≡ counted t (visits settled menu more path node)) (sym is)
      (node-counts t more path node g h k (sym (ap (λ (r : Settled N R). r.closed) is) ∙ e))

  -- one round more
  pub list-counts : (t u : Counter N R) (n more : ℕ) (start : N) → 0 < n → u ≡
      counted t (visits settled menu more [] start)
      → counted u (lists settled menu (n - 1) (more + 1) start) ≡
      counted t (lists settled menu n more start)
  unfolding lists
  list-counts t u zero more start h e = absurd (omega (arith, h))
  list-counts t u (suc n) more start h e =
      let less : suc n - 1 ≡ n = omega arith in
      let next : more + 1 ≡ suc more = omega arith in
      ap (λ (x : Counter N R). counted x (lists settled menu (suc n - 1) (more + 1) start)) e
      ∙ ap (λ k. counted (counted t (visits settled menu more [] start))
      (lists settled menu k (more + 1) start)) less
      ∙ ap (λ k. counted (counted t (visits settled menu more [] start))
      (lists settled menu n k start)) next
      ∙ sym (counted-append t (visits settled menu more [] start)
      (lists settled menu n (suc more) start))

  -- where no round is left
  pub no-list : (t : Counter N R) (n more : ℕ) (start : N) → n ≡ 0 →
      counted t (lists settled menu n more start) ≡ t
  unfolding lists
  no-list t zero more start h = refl
  no-list t (suc n) more start h = absurd (omega (arith, h))

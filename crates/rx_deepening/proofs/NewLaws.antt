-- The visit of a node that is new: it is closed, or it is kept as a leaf.
use Rattle.std.proofs.Common.{All, cond, ◌≡◌, ◌∙◌, ap, refl, sym, subst, inl, arith, ℕ, ◌+◌, ◌-◌, ◌<◌, Bool, true, false, Result, Ok, Err, IfOk, List, [], ◌∷◌, ◌++◌, append-nil}
use Rattle.std.specs.Prelude.{map}
use Rattle.std.proofs.lemmas.Grind.{flat_map-append}
use Rattle.std.proofs.lemmas.List.{map-append}
use Rattle.std.proofs.lemmas.Result.{IfOk-weaker}
use Rattle.rx_deepening.specs.Keeping.{IsAfterNote, IsVisited, visits_from}
use Rattle.rx_deepening.specs.Outcomes.{note_of}
use Rattle.rx_deepening.specs.Counters.{GoesOn, counted, visited}
use Rattle.rx_deepening.specs.Views.{IfFound, seen_choice, seen_settled, seen_counter}
use Rattle.rx_deepening.specs.Visits.{Visit, alone, visits, visits_of}
use Rattle.rx_deepening.specs.declared.kept.Kept.{Kept}
use Rattle.rx_deepening.specs.declared.kept.Kept.TheVariants.{Frontier}
use Rattle.rx_deepening.specs.declared.kept.Progress.{Progress}
use Rattle.rx_deepening.specs.declared.counter.Ended.TheVariants.{Going, Found}
use Rattle.rx_deepening.specs.declared.counter.Counter.{Counter}
use Rattle.rx_deepening.specs.declared.tree.Choice.{Choice}
use Rattle.rx_deepening.specs.declared.tree.Menu.{Menu}
use Rattle.rx_deepening.specs.declared.tree.Settled.{Settled}
use Rattle.rx_deepening.proofs.CountLaws.{counted-append}
use Rattle.rx_deepening.proofs.KeepingLaws.{all_push, note_counts}
use Rattle.rx_deepening.proofs.SeenLaws.{found_if, going_seen, visited_seen}
use Rattle.rx_deepening.proofs.VisitedLaws.{visited_ending, visited_push}
use Rattle.rx_deepening.proofs.WalkLaws.{last-counts, visits-more}

module _ {N V R : Type 0} (view : N → V) (settled : V → Settled V R) (menu : V → Menu V R) where
  -- the visit is counted
  new_counted : (a b : Progress N R) (path : List ℕ) (v : V) (s : Settled N R) →
      seen_settled view s ≡ settled v → GoesOn a.counter
      → b.counter ≡ visited (a.counter.left - 1) a.counter (alone path s)
      → seen_counter view b.counter ≡ counted (seen_counter view a.counter)
      (visits settled menu 0 path v)
  new_counted a b path v s is goes counter =
      let t = seen_counter view a.counter in
      let left = a.counter.left - 1 in
      ap (seen_counter view) counter
      ∙ visited_seen view left a.counter (alone path s)
      ∙ ap (λ (r : Settled V R). visited left t (alone path r)) is
      ∙ sym (last-counts settled menu t 0 path v (going_seen view a.counter.ended goes.going)
      goes.left (inl refl))

  -- a leaf, as the node is kept unless it is closed
  abbrev new_leaf : List ℕ → Settled N R → Kept N
  new_leaf path s = Frontier (record { path = path; node = s.node; below = 0 })

  new_by : (closed : Bool) (a b : Progress N R) (path : List ℕ) (v : V) (s : Settled N R) →
      s.closed ≡ closed → seen_settled view s ≡ settled v → GoesOn a.counter
      → b.counter ≡ visited (a.counter.left - 1) a.counter (alone path s)
      → (s.closed ≡ false → b.kept ≡ a.kept ++ new_leaf path s ∷ [])
      → IsVisited view settled menu a (λ n. visits settled menu n path v) b
  new_by true a b path v s closed is goes counter kept =
      visited_ending view settled menu a b (λ n. visits settled menu n path v)
      (new_counted a b path v s is goes counter)
      (λ going. let no : Found s.node ≡ Going =
      ap (λ (b : Bool). cond b (Found s.node) Going) (sym closed)
      ∙ ap (λ (t : Counter N R). t.ended) (sym counter) ∙ going in
      cc)
  new_by false a b path v s unclosed is goes counter kept =
      let r = seen_settled view s in
      let ends : (settled v).closed ≡ false = ap (λ (r : Settled V R). r.closed) (sym is) ∙
      unclosed in
      let noted : IsAfterNote b.counter.note (alone path r) =
      subst (λ (u : Counter N R). IsAfterNote u.note (alone path r)) (sym counter)
      (note_counts a.counter.note (note_of (alone path r))) in
      let from : (n : ℕ) → visits settled menu (n + 1) path v ≡
      visits_from settled menu (n + 0) path r = λ n.
      let less : (n + 1) - 1 ≡ n + 0 = omega arith in
      let more : 0 < n + 1 = omega arith in
      visits-more settled menu (n + 1) path v more ends
      ∙ ap (λ k. visits_from settled menu k path (settled v)) less
      ∙ ap (visits_from settled menu (n + 0) path) (sym is) in
      visited_push view settled menu a b (new_leaf path s) (λ n. visits settled menu n path v)
      goes.going (new_counted a b path v s is goes counter) (kept unclosed)
      (r, record { seen = refl; unclosed = unclosed; noted = noted }, from)

  -- so where there was memory
  pub new_visited : {E : Type 0} (a : Progress N R) (r : Result (Progress N R) E) (path : List ℕ)
      (v : V) (s : Settled N R) → seen_settled view s ≡ settled v → GoesOn a.counter
      → IfOk r (λ b. b.counter ≡ visited (a.counter.left - 1) a.counter (alone path s))
      → (s.closed ≡ false → IfOk r (λ b. b.kept ≡ a.kept ++ new_leaf path s ∷ []))
      → IfOk r (IsVisited view settled menu a (λ n. visits settled menu n path v))
  new_visited a (Ok b) path v s is goes counter kept =
      new_by s.closed a b path v s refl is goes counter kept
  new_visited a (Err e) path v s is goes counter kept = tt

module _ {N R E : Type 0} (a : Progress N R) (r : Result (Progress N R) E) (path : List ℕ)
    (s : Settled N R) where
  -- a node that is found is so
  pub new_found : (P : N → Type 0) → P s.node
      → IfOk r (λ b. b.counter ≡ visited (a.counter.left - 1) a.counter (alone path s))
      → IfOk r (λ b. IfFound P b.counter.ended)
  new_found P h counter =
      IfOk-weaker r (λ b. b.counter ≡ visited (a.counter.left - 1) a.counter (alone path s))
      (λ b. IfFound P b.counter.ended)
      (λ b is. subst (λ (t : Counter N R). IfFound P t.ended) (sym is)
      (found_if P s.closed s.node h))
      counter

  -- what holds of all that is kept holds of the leaf too
  leaves_by : (closed : Bool) (P : Kept N → Type 0) → s.closed ≡ closed → All P a.kept
      → P (Frontier (record { path = path; node = s.node; below = 0 }))
      → (s.closed ≡ true → IfOk r (λ b. b.kept ≡ a.kept))
      → (s.closed ≡ false → IfOk r (λ b. b.kept ≡ a.kept ++
      Frontier (record { path = path; node = s.node; below = 0 }) ∷ []))
      → IfOk r (λ b. All P b.kept)
  leaves_by true P is all one closed unclosed =
      IfOk-weaker r (λ b. b.kept ≡ a.kept) (λ b. All P b.kept)
      (λ b same. subst (All P) (sym same) all) (closed is)
  leaves_by false P is all one closed unclosed =
      let leaf = Frontier (record { path = path; node = s.node; below = 0 }) in
      IfOk-weaker r (λ b. b.kept ≡ a.kept ++ leaf ∷ []) (λ b. All P b.kept)
      (λ b same. all_push P a.kept b.kept leaf same all one) (unclosed is)

  pub new_leaves : (P : Kept N → Type 0) → All P a.kept
      → P (Frontier (record { path = path; node = s.node; below = 0 }))
      → (s.closed ≡ true → IfOk r (λ b. b.kept ≡ a.kept))
      → (s.closed ≡ false → IfOk r (λ b. b.kept ≡ a.kept ++
      Frontier (record { path = path; node = s.node; below = 0 }) ∷ []))
      → IfOk r (λ b. All P b.kept)
  new_leaves P all one closed unclosed = leaves_by s.closed P refl all one closed unclosed

module _ {N V R : Type 0} (view : N → V) (settled : V → Settled V R) (menu : V → Menu V R) where
  -- the node of one choice more
  choice_more : (n : ℕ) (path : List ℕ) (cs : List (Choice V)) (c : Choice V)
      → visits_of settled menu n path cs ++ visits settled menu n (path ++ c.number ∷ []) c.node ≡
      visits_of settled menu n path (cs ++ c ∷ [])
  choice_more n path cs c =
      ap (λ (vs : List (Visit V R)). visits_of settled menu n path cs ++ vs)
      (sym (append-nil (visits settled menu n (path ++ c.number ∷ []) c.node)))
      ∙ sym (flat_map-append (λ (c : Choice V).
      visits settled menu n (path ++ c.number ∷ []) c.node) cs (c ∷ []))

  -- and so of what is seen of the nodes
  pub each_next : (n : ℕ) (path at : List ℕ) (cs : List (Choice N)) (c : Choice N) → at ≡
      path ++ c.number ∷ []
      → visits_of settled menu n path (map (seen_choice view) cs) ++
      visits settled menu n at (view c.node)
      ≡ visits_of settled menu n path (map (seen_choice view) (cs ++ c ∷ []))
  each_next n path at cs c longer =
      ap (λ p. visits_of settled menu n path (map (seen_choice view) cs) ++
      visits settled menu n p (view c.node)) longer
      ∙ choice_more n path (map (seen_choice view) cs) (seen_choice view c)
      ∙ ap (visits_of settled menu n path) (sym (map-append (seen_choice view) cs (c ∷ [])))

  -- what they are counted to
  pub next_counted : (start t u : Counter V R) (n : ℕ) (path at : List ℕ) (cs : List (Choice N))
      (c : Choice N) → at ≡ path ++ c.number ∷ []
      → t ≡ counted start (visits_of settled menu n path (map (seen_choice view) cs))
      → u ≡ counted t (visits settled menu n at (view c.node))
      → u ≡ counted start (visits_of settled menu n path (map (seen_choice view) (cs ++ c ∷ [])))
  next_counted start t u n path at cs c longer before now =
      now
      ∙ ap (λ (x : Counter V R). counted x (visits settled menu n at (view c.node))) before
      ∙ sym (counted-append start (visits_of settled menu n path (map (seen_choice view) cs))
      (visits settled menu n at (view c.node)))
      ∙ ap (counted start) (each_next n path at cs c longer)

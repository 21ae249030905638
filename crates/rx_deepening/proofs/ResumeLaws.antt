-- Visits from kept nodes on: an expanded node, and a leaf whose choices are found.
use Rattle.std.proofs.Common.{◌≡◌, ◌∙◌, ap, refl, sym, subst, arith, zero-add, ℕ, ◌+◌, ◌-◌, ◌<◌, false, Option, None, Result, Ok, Err, IfOk, List, [], ◌∷◌, ◌++◌}
use Rattle.std.specs.Option.{option_map, option_or}
use Rattle.rx_deepening.specs.Keeping.{IsAfterNote, IsLeaf, IsVisited, StandsForLists, StandsForVisits, visits_from}
use Rattle.rx_deepening.specs.Outcomes.{note_of}
use Rattle.rx_deepening.specs.Counters.{GoesOn, counted, visited_open}
use Rattle.rx_deepening.specs.Views.{seen_counter}
use Rattle.rx_deepening.specs.Visits.{Visit, alone, choosing, visits_of}
use Rattle.rx_deepening.specs.declared.kept.Kept.{Kept}
use Rattle.rx_deepening.specs.declared.kept.Kept.TheVariants.{Expanded, Frontier}
use Rattle.rx_deepening.specs.declared.kept.Leaf.{Leaf}
use Rattle.rx_deepening.specs.declared.kept.Progress.{Progress}
use Rattle.rx_deepening.specs.declared.outcome.Note.{Note}
use Rattle.rx_deepening.specs.declared.counter.Ended.TheVariants.{Going}
use Rattle.rx_deepening.specs.declared.counter.Counter.{Counter}
use Rattle.rx_deepening.specs.declared.tree.Menu.{Menu}
use Rattle.rx_deepening.specs.declared.tree.Settled.{Settled}
use Rattle.rx_deepening.proofs.CountLaws.{visit-counts}
use Rattle.rx_deepening.proofs.KeepingLaws.{lists_last, note_counts, note_stays, visits_later}
use Rattle.rx_deepening.proofs.OutcomeLaws.{or_none}
use Rattle.rx_deepening.proofs.SeenLaws.{going_seen}
use Rattle.rx_deepening.proofs.VisitedLaws.{choosing_note, choosing_visit, note_later, open_visit, visited_push, visited_same, visited_then}

-- two facts of a value make a third
made_both : {T E : Type 0} (r : Result T E) (P Q S : T → Type 0) → ((x : T) → P x → Q x → S x) →
    IfOk r P → IfOk r Q → IfOk r S
made_both (Ok x) P Q S h p q = h x p q
made_both (Err e) P Q S h p q = tt

module _ {N V R : Type 0} (view : N → V) (settled : V → Settled V R) (menu : V → Menu V R) where
  -- the visit of a node that is kept as an expanded one
  pub expanded_visited : (a b : Progress N R) (v : Visit V R) (path : List ℕ) (note : Option R) →
      a.counter.ended ≡ Going → 0 < a.counter.left → v.closed ≡ false
      → option_or a.counter.note (option_map (λ rows. record { path = path; noted = rows }) note) ≡
      option_or a.counter.note (note_of v)
      → b.counter ≡ visited_open (a.counter.left - 1) a.counter path note → b.kept ≡ a.kept ++
      Expanded ∷
      []
      → IsVisited view settled menu a (λ n. v ∷ []) b
  expanded_visited a b v path note going some unclosed is counter kept =
      let t = seen_counter view a.counter in
      let noted : IsAfterNote b.counter.note v =
      subst (λ (first : Option (Note R)). IsAfterNote first v)
      (sym (ap (λ (u : Counter N R). u.note) counter ∙ is)) (note_counts a.counter.note (note_of v))
      in
      visited_push view settled menu a b Expanded (λ n. v ∷ []) going
      (ap (seen_counter view) counter ∙ open_visit (a.counter.left - 1) t path note v unclosed is ∙
      sym (visit-counts t v [] (going_seen view a.counter.ended going) some))
      kept (v, unclosed, noted, λ n. refl)

  -- so of one that was expanded before
  pub expanded_again : (a b : Progress N R) (v : Visit V R) (lists : ℕ → List (Visit V R)) →
      a.counter.ended ≡ Going → 0 < a.counter.left → v.closed ≡ false
      → IsAfterNote a.counter.note v → ((n : ℕ) → lists n ≡ v ∷ [])
      → b.counter ≡ visited_open (a.counter.left - 1) a.counter [] None → b.kept ≡ a.kept ++
      Expanded ∷ []
      → IsVisited view settled menu a lists b
  expanded_again a b v lists going some unclosed noted are counter kept =
      visited_same view settled menu a b (λ n. v ∷ []) lists (λ n. sym (are n))
      (expanded_visited a b v [] None going some unclosed (or_none a.counter.note ∙ sym noted)
      counter
      kept)

  -- a leaf is expanded, and then the nodes are visited that its choices lead to
  pub leaf_expanded : (a b c : Progress N R) (path : List ℕ) (s : Settled V R) (m : Menu V R) →
      a.counter.ended ≡ Going → 0 < a.counter.left → s.closed ≡ false
      → IsAfterNote a.counter.note (alone path s) → m ≡ menu s.node
      → b.counter ≡ visited_open (a.counter.left - 1) a.counter path m.note → b.kept ≡ a.kept ++
      Expanded ∷ []
      → IsVisited view settled menu b (λ n. visits_of settled menu n path m.choices) c
      → IsVisited view settled menu a (λ n. visits_from settled menu n path s) c
  leaf_expanded a b c path s m going some unclosed noted is counter kept below =
      visited_same view settled menu a c (λ n. (choosing path s m ∷ []) ++
      visits_of settled menu n path m.choices) (λ n. visits_from settled menu n path s)
      (λ n. ap (λ (m : Menu V R). choosing path s m ∷ visits_of settled menu n path m.choices) is)
      (visited_then view settled menu a b c (λ n. choosing path s m ∷ [])
      (λ n. visits_of settled menu n path m.choices)
      (expanded_visited a b (choosing path s m) path m.note going some unclosed
      (choosing_note a.counter.note path s m noted) counter kept)
      below)

  -- the nodes below a leaf are visited, and it stays a leaf
  pub leaf_walked : (a b : Progress N R) (leaf : Leaf N) (s : Settled V R) (m : Menu V R) →
      a.counter.ended ≡ Going → 0 < a.counter.left
      → IsLeaf view a.counter.note leaf s → m ≡ menu s.node
      → seen_counter view b.counter ≡ counted (visited_open (a.counter.left - 1)
      (seen_counter view a.counter)
      leaf.path m.note) (visits_of settled menu leaf.below leaf.path m.choices)
      → b.kept ≡ a.kept ++ Frontier (record {
        path = leaf.path;
        node = leaf.node;
        below =
            leaf.below + 1;
      }) ∷ []
      → IsVisited view settled menu a (λ n. visits_from settled menu (n + leaf.below) leaf.path s) b
  leaf_walked a b leaf s m going some at is counter kept =
      let t = seen_counter view a.counter in
      let path = leaf.path in
      let counts : seen_counter view b.counter ≡ counted t
      (visits_from settled menu (0 + leaf.below) path s) =
      counter
      ∙ ap (λ (u : Counter V R). counted u (visits_of settled menu leaf.below path m.choices))
      (choosing_visit (a.counter.left - 1) t path s m at.unclosed at.noted)
      ∙ sym (visit-counts t (choosing path s m) (visits_of settled menu leaf.below path m.choices)
      (going_seen view a.counter.ended going) some)
      ∙ ap (λ (m : Menu V R). counted t (choosing path s m ∷
      visits_of settled menu leaf.below path m.choices)) is
      ∙ ap (λ k. counted t (visits_from settled menu k path s)) (sym (zero-add leaf.below)) in
      let later = note_later view settled menu a b
      (visits_from settled menu (0 + leaf.below) path s) counts in
      visited_push view settled menu a b (Frontier
      (record { path = path; node = leaf.node; below = leaf.below + 1 }))
      (λ n. visits_from settled menu (n + leaf.below) path s) going counts kept (
        s,
        record {
          seen = at.seen;
          unclosed = at.unclosed;
          noted =
              note_stays a.counter.note b.counter.note (note_of (alone path s)) later at.noted;
        },
        λ n. let more : (n + 1) + leaf.below ≡ n + (leaf.below + 1) =
            omega arith in ap (λ k. visits_from settled menu k path s) more,
      )

  -- one kept node more is visited
  pub next_visited : (a b c : Progress N R) (ks : List (Kept N)) (k : Kept N)
      → ((lists : ℕ → List (Visit V R)) → StandsForLists view settled menu a.counter.note ks lists →
      IsVisited view settled menu a lists b)
      → ((lists : ℕ → List (Visit V R)) → StandsForVisits view settled menu b.counter.note k lists →
      IsVisited view settled menu b lists c)
      → (lists : ℕ → List (Visit V R)) → StandsForLists view settled menu a.counter.note
      (ks ++ k ∷ []) lists → IsVisited view settled menu a lists c
  next_visited a b c ks k before next lists stand =
      let (f, g, stands, last, are) = lists_last view settled menu a.counter.note ks k lists stand
      in
      let first = before f stands in
      let later = note_later view settled menu a b (f 0) first.counted in
      visited_same view settled menu a c (λ n. f n ++ g n) lists (λ n. sym (are n))
      (visited_then view settled menu a b c f g first
      (next g (visits_later view settled menu a.counter.note b.counter.note k g later last)))

module _ {N V R E : Type 0} (view : N → V) (settled : V → Settled V R) (menu : V → Menu V R)
    (a : Progress N R) (r : Result (Progress N R) E) where
  -- ---- the same where there was memory

  pub visited_made : (f g : ℕ → List (Visit V R)) → ((n : ℕ) → f n ≡ g n) →
      IfOk r (IsVisited view settled menu a f) → IfOk r (IsVisited view settled menu a g)
  visited_made f g e made =
      subst (λ (lists : ℕ → List (Visit V R)). IfOk r (IsVisited view settled menu a lists))
      (λ i n. e n i) made

  pub expanded_made : (lists : ℕ → List (Visit V R)) → a.counter.ended ≡ Going → 0 < a.counter.left
      →
      StandsForVisits view settled menu a.counter.note Expanded lists
      → IfOk r (λ b. b.counter ≡ visited_open (a.counter.left - 1) a.counter [] None) →
      IfOk r (λ b. b.kept ≡ a.kept ++ Expanded ∷ [])
      → IfOk r (IsVisited view settled menu a lists)
  expanded_made lists going some (v, unclosed, noted, are) counter kept =
      made_both r (λ b. b.counter ≡ visited_open (a.counter.left - 1) a.counter [] None)
      (λ b. b.kept ≡ a.kept ++ Expanded ∷ []) (IsVisited view settled menu a lists)
      (λ b is keeps. expanded_again view settled menu a b v lists going some unclosed noted are is
      keeps) counter kept

module _ {N R E : Type 0} (P : Counter N R → Type 0) where
  -- what holds of the visits holds where what is kept is made of them
  pub counter_made : (q : Result (Counter N R) E) (r : Result (Progress N R) E)
      → IfOk r (λ b. q ≡ Ok b.counter) → IfOk q P → IfOk r (λ b. P b.counter)
  counter_made q (Ok b) is h = subst (λ (q : Result (Counter N R) E). IfOk q P) is h
  counter_made q (Err e) is h = tt

module _ {N V R E : Type 0} (view : N → V) (settled : V → Settled V R) (menu : V → Menu V R) where
  -- the nodes below a leaf are visited, and it stays a leaf
  pub leaf_walked_made : (a : Progress N R) (q : Result (Counter N R) E)
      (r : Result (Progress N R) E) (leaf : Leaf N) (s : Settled V R) (m : Menu V R)
      → GoesOn a.counter → IsLeaf view a.counter.note leaf s → m ≡ menu s.node
      → IfOk q (λ t. seen_counter view t ≡
      counted (visited_open (a.counter.left - 1) (seen_counter view a.counter) leaf.path m.note)
      (visits_of settled menu leaf.below leaf.path m.choices))
      → IfOk r (λ b. q ≡ Ok b.counter)
      → IfOk r (λ b. b.kept ≡ a.kept ++ Frontier (record {
        path = leaf.path;
        node = leaf.node;
        below =
            leaf.below + 1;
      }) ∷ [])
      → IfOk r (IsVisited view settled menu a
      (λ n. visits_from settled menu (n + leaf.below) leaf.path s))
  leaf_walked_made a q (Ok b) leaf s m goes at is counts counter kept =
      leaf_walked view settled menu a b leaf s m goes.going goes.left at is
      (subst (λ (q : Result (Counter N R) E). IfOk q (λ t. seen_counter view t ≡
      counted (visited_open (a.counter.left - 1) (seen_counter view a.counter) leaf.path m.note)
      (visits_of settled menu leaf.below leaf.path m.choices))) counter counts) kept
  leaf_walked_made a q (Err e) leaf s m goes at is counts counter kept = tt

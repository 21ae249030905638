-- The closed node that decides is one of which holds what a test says of all nodes that are closed.
use Rattle.std.proofs.Common.{◌≡◌, ◌∙◌, ℕ, zero, suc, Bool, true, false, cond, if◌then◌else◌, Option, Some, None, List, [], ◌∷◌, ◌++◌, take, refl, sym, ap, subst, All}
use Rattle.std.specs.List.{find, flat_map}
use Rattle.std.proofs.lemmas.List.Elements.{All-append, All-cons, All-head, All-nil, All-tail, All-take}
use Rattle.rx_deepening.specs.Outcomes.{closed_or, first_closed, first_note, noted_or, outcome, spent_if}
use Rattle.rx_deepening.specs.Visits.{Visit, all_visits, alone, choosing, lists, visits}
use Rattle.rx_deepening.specs.declared.outcome.Note.{Note}
use Rattle.rx_deepening.specs.declared.outcome.Outcome.{Outcome}
use Rattle.rx_deepening.specs.declared.outcome.Outcome.TheVariants as outcomes
use Rattle.rx_deepening.specs.declared.tree.Choice.{Choice}
use Rattle.rx_deepening.specs.declared.tree.Menu.{Menu}
use Rattle.rx_deepening.specs.declared.tree.Settled.{Settled}

module _ {N R : Type 0} (test : N → Bool) where
  -- a visit is said to be closed where the test says so of its node
  abbrev IsTold : Visit N R → Type 0
  IsTold v = v.closed ≡ test v.node

  either_told : (b : Bool) (xs ys : List (Visit N R)) → All IsTold xs → All IsTold ys →
      All IsTold (if b then xs else ys)
  either_told true xs ys all more = all
  either_told false xs ys all more = more

  all_told : (f : Choice N → List (Visit N R)) (cs : List (Choice N)) →
      ((c : Choice N) → All IsTold (f c)) → All IsTold (flat_map f cs)
  all_told f [] each = All-nil IsTold
  all_told f (c ∷ cs) each = All-append IsTold (f c) (flat_map f cs) (each c) (all_told f cs each)

  module _ (settled : N → Settled N R) (menu : N → Menu N R)
      (told : (node : N) → (settled node).closed ≡ test (settled node).node) where
    visits_told : (more : ℕ) (path : List ℕ) (node : N) →
        All IsTold (visits settled menu more path node)
    unfolding visits
    visits_told zero path node =
        All-cons IsTold (alone path (settled node)) [] (told node) (All-nil IsTold)
    visits_told (suc more) path node =
        let s = settled node in
        let m = menu s.node in
        either_told s.closed _ _
        (All-cons IsTold (alone path s) [] (told node) (All-nil IsTold))
        (All-cons IsTold (choosing path s m) (flat_map
        (λ (c : Choice N). visits settled menu more (path ++ c.number ∷ []) c.node) m.choices)
        (told node)
        (all_told (λ (c : Choice N). visits settled menu more (path ++ c.number ∷ []) c.node)
        m.choices
        (λ c. visits_told more (path ++ c.number ∷ []) c.node)))

    lists_told : (n more : ℕ) (node : N) → All IsTold (lists settled menu n more node)
    unfolding lists
    lists_told zero more node = All-nil IsTold
    lists_told (suc n) more node =
        All-append IsTold (visits settled menu more [] node)
        (lists settled menu n (suc more) node)
        (visits_told more [] node) (lists_told n (suc more) node)

  found_by : (v w : Visit N R) (vs : List (Visit N R)) (b : Bool) → v.closed ≡ b →
      (find (λ (v : Visit N R). v.closed) vs ≡ Some w → (w.closed ≡ true) × IsTold w)
      → IsTold v → cond b (Some v) (find (λ (v : Visit N R). v.closed) vs) ≡ Some w →
      (w.closed ≡ true) × IsTold w
  found_by v w vs true closed later told e =
      let same : v ≡ w = cc in
      subst (λ (w : Visit N R). (w.closed ≡ true) × IsTold w) same (closed, told)
  found_by v w vs false closed later told e = later e

  found : (vs : List (Visit N R)) (w : Visit N R) → All IsTold vs →
      find (λ (v : Visit N R). v.closed) vs ≡ Some w → (w.closed ≡ true) × IsTold w
  found [] w all e = absurd cc
  found (v ∷ vs) w all e =
      found_by v w vs v.closed refl (found vs w (All-tail IsTold v vs all))
      (All-head IsTold v vs all) e

  -- what doesn't decide by a closed node isn't closed
  spent_open : (b : Bool) (node : N) →
      ◌≡◌ {A = Outcome N R} (spent_if b) (outcomes.Closed node) → ⊥
  spent_open true node e = cc
  spent_open false node e = cc

  open_by : (note : Option (Note R)) (b : Bool) (node : N) →
      noted_or note (spent_if b) ≡ outcomes.Closed node → ⊥
  open_by None b node e = spent_open b node e
  open_by (Some note) b node e = cc

  closed_by : (first : Option (Visit N R)) (later : Outcome N R) (node : N) →
      closed_or first later ≡ outcomes.Closed node
      → (later ≡ outcomes.Closed node → ⊥)
      → ((v : Visit N R) → first ≡ Some v → (v.closed ≡ true) × IsTold v) → test node ≡ true
  closed_by None later node e none each = absurd (none e)
  closed_by (Some v) later node e none each =
      let same : v.node ≡ node = cc in
      let (closed, told) = each v refl in
      ap test (sym same) ∙ sym told ∙ closed

  module _ (settled : N → Settled N R) (menu : N → Menu N R)
      (told : (node : N) → (settled node).closed ≡ test (settled node).node) where
    pub closed_told : (depth budget : ℕ) (first node : N) →
        outcome budget (all_visits settled menu depth first) ≡ outcomes.Closed node →
        test node ≡ true
    closed_told depth budget first node e =
        let vs = take budget (all_visits settled menu depth first) in
        let told_all = All-take IsTold budget (all_visits settled menu depth first)
        (lists_told settled menu told (suc depth) 0 first) in
        closed_by (first_closed vs) _ node e (open_by (first_note vs) _ node)
        (λ v is. found vs v told_all is)

-- What is kept represents rounds of visits: one node more, a later first note, rounds that are as
-- long.
use Rattle.std.proofs.Common.{All, arith, ◌≤◌, ◌≡◌, ◌∙◌, ap, refl, sym, subst, ℕ, Option, Some, None, List, [], ◌∷◌, ◌++◌, append_assoc, append-nil}
use Rattle.std.proofs.lemmas.List.Elements.{All-pop, All-push}
use Rattle.std.specs.Option.{option_or}
use Rattle.rx_deepening.specs.Keeping.{OfLeaf, StandsForLists, StandsForVisits}
use Rattle.rx_deepening.specs.Outcomes.{note_of}
use Rattle.rx_deepening.specs.Visits.{Visit, alone}
use Rattle.rx_deepening.specs.declared.kept.Kept.{Kept}
use Rattle.rx_deepening.specs.declared.kept.Kept.TheVariants.{Expanded, Frontier}
use Rattle.rx_deepening.specs.declared.outcome.Note.{Note}
use Rattle.rx_deepening.specs.declared.tree.Menu.{Menu}
use Rattle.rx_deepening.specs.declared.tree.Settled.{Settled}
use Rattle.rx_deepening.proofs.OutcomeLaws.{or_none}

module _ {R : Type 0} where
  -- what isn't the first note stays so
  pub note_stays : (first later o : Option (Note R)) → option_or first later ≡ later →
      option_or first o ≡ first → option_or later o ≡ later
  note_stays None later o e h = ap (option_or later) h ∙ or_none later
  note_stays (Some n) later o e h = subst (λ (x : Option (Note R)). option_or x o ≡ x) e refl

  -- one that was just counted isn't the first any more
  pub note_counts : (first o : Option (Note R)) → option_or (option_or first o) o ≡
      option_or first o
  note_counts None None = refl
  note_counts None (Some n) = refl
  note_counts (Some n) o = refl

module _ {N V R : Type 0} (view : N → V) (settled : V → Settled V R) (menu : V → Menu V R) where
  -- a kept node still represents the same visits where there is another first note
  pub visits_later : (first later : Option (Note R)) (k : Kept N) (lists : ℕ → List (Visit V R)) →
      option_or first later ≡ later
      → StandsForVisits view settled menu first k lists →
      StandsForVisits view settled menu later k lists
  visits_later first later Expanded lists e (v, closed, noted, is) =
      (v, closed, note_stays first later (note_of v) e noted, is)
  visits_later first later (Frontier leaf) lists e (s, at, is) = (
    s,
    record {
      seen = at.seen;
      unclosed = at.unclosed;
      noted =
          note_stays first later (note_of (alone leaf.path s)) e at.noted;
    },
    is,
  )

  pub lists_later : (first later : Option (Note R)) (ks : List (Kept N))
      (lists : ℕ → List (Visit V R)) → option_or first later ≡ later
      → StandsForLists view settled menu first ks lists →
      StandsForLists view settled menu later ks lists
  lists_later first later [] lists e stands = stands
  lists_later first later (k ∷ ks) lists e (here, rest, first_stands, stand, is) = (
    here,
    rest,
    visits_later first later k here e first_stands,
    lists_later first later ks rest e stand,
    is,
  )

  -- so where the rounds are the same
  pub lists_same : (first : Option (Note R)) (ks : List (Kept N))
      (lists others : ℕ → List (Visit V R)) → ((n : ℕ) → lists n ≡ others n)
      → StandsForLists view settled menu first ks lists →
      StandsForLists view settled menu first ks others
  lists_same first ks lists others e stands =
      subst (StandsForLists view settled menu first ks) (λ i n. e n i) stands

  -- one node more represents more visits
  pub lists_push : (first : Option (Note R)) (ks : List (Kept N)) (k : Kept N)
      (lists more : ℕ → List (Visit V R))
      → StandsForLists view settled menu first ks lists →
      StandsForVisits view settled menu first k more
      → StandsForLists view settled menu first (ks ++ k ∷ []) (λ n. lists n ++ more n)
  lists_push first [] k lists more none stands = (
    more,
    (λ n. []),
    stands,
    (λ n. refl),
    λ n.
        ap (λ (vs : List (Visit V R)). vs ++ more n) (none n) ∙ sym (append-nil (more n)),
  )
  lists_push first (j ∷ ks) k lists more (here, rest, first_stands, stand, is) stands = (
    here,
    (λ n. rest n ++ more n),
    first_stands,
    lists_push first ks k rest more stand stands,
    λ n. ap (λ (vs : List (Visit V R)). vs ++ more n) (is n) ∙
        append_assoc (here n) (rest n) (more n),
  )

  -- the last node represents the last visits
  pub lists_last : (first : Option (Note R)) (ks : List (Kept N)) (k : Kept N)
      (lists : ℕ → List (Visit V R))
      → StandsForLists view settled menu first (ks ++ k ∷ []) lists
      → (before : ℕ → List (Visit V R)) × (here : ℕ → List (Visit V R))
      × StandsForLists view settled menu first ks before ×
      StandsForVisits view settled menu first k here × ((n : ℕ) → lists n ≡ before n ++ here n)
  lists_last first [] k lists (here, rest, first_stands, none, is) = (
    (λ n. []),
    here,
    (λ n. refl),
    first_stands,
    λ n. is n ∙
        ap (λ (vs : List (Visit V R)). here n ++ vs) (none n) ∙ append-nil (here n),
  )
  lists_last first (j ∷ ks) k lists (here, rest, first_stands, stand, is) =
      let (before, last, stands, last_stands, are) = lists_last first ks k rest stand in (
        (λ n. here n ++ before n),
        last,
        (here, before, first_stands, stands, λ n. refl),
        last_stands,
        λ n. is n ∙ ap (λ (vs : List (Visit V R)). here n ++ vs) (are n) ∙
            sym (append_assoc (here n) (before n) (last n)),
      )

-- what holds of all that was kept, and of one node more
pub all_push : {N : Type 0} (P : Kept N → Type 0) (ks new : List (Kept N)) (k : Kept N) → new ≡
    ks ++ k ∷ [] → All P ks → P k → All P new
all_push P ks new k is all one = subst (All P) (sym is) (All-push P ks k all one)

-- what holds of all holds of those before the last, and of the last
pub all_last : {N : Type 0} (P : Kept N → Type 0) (ks : List (Kept N)) (k : Kept N) →
    All P (ks ++ k ∷ []) → All P ks × P k
all_last P ks k all = All-pop P (ks ++ k ∷ []) ks (Some k) refl all

-- a leaf that was visited with so many choices was visited with fewer than more
pub of_leaf_more : {N : Type 0} (P : N → Type 0) (most more : ℕ) → most ≤ more → (k : Kept N)
    → OfLeaf P most k → OfLeaf P more k
of_leaf_more P most more h Expanded one = tt
of_leaf_more P most more h (Frontier leaf) (valid, below) = (valid, omega (arith, h, below))

-- Visits that are made one after the other, while what is kept goes on.
use Rattle.std.proofs.Common.{◌≡◌, ◌∙◌, ap, refl, sym, subst, cond, ℕ, zero, suc, ◌+◌, Bool, false, Option, Some, None, List, [], ◌∷◌, ◌++◌, append_assoc, append-nil}
use Rattle.std.specs.Option.{option_map, option_or}
use Rattle.rx_deepening.specs.Keeping.{IsAfterNote, IsVisited, Keeps, StandsForLists, StandsForVisits}
use Rattle.rx_deepening.specs.Outcomes.{note_of}
use Rattle.rx_deepening.specs.Counters.{counted, counted_as, counted_one, visited, visited_open, visited_within}
use Rattle.rx_deepening.specs.Views.{seen_counter}
use Rattle.rx_deepening.specs.Visits.{Visit, alone, choosing}
use Rattle.rx_deepening.specs.declared.kept.Kept.{Kept}
use Rattle.rx_deepening.specs.declared.kept.Progress.{Progress}
use Rattle.rx_deepening.specs.declared.outcome.Note.{Note}
use Rattle.rx_deepening.specs.declared.counter.Ended.{Ended}
use Rattle.rx_deepening.specs.declared.counter.Ended.TheVariants.{Going, Found, Over}
use Rattle.rx_deepening.specs.declared.counter.Counter.{Counter}
use Rattle.rx_deepening.specs.declared.tree.Menu.{Menu}
use Rattle.rx_deepening.specs.declared.tree.Settled.{Settled}
use Rattle.rx_deepening.proofs.CountLaws.{counted-append}
use Rattle.rx_deepening.proofs.KeepingLaws.{lists_later, lists_push, lists_same}
use Rattle.rx_deepening.proofs.OutcomeLaws.{or_or}

module _ {R : Type 0} where
  -- the first note stays the first
  or_later : (o p : Option (Note R)) → option_or o (option_or o p) ≡ option_or o p
  or_later None p = refl
  or_later (Some n) p = refl

  later_then : (o p q : Option (Note R)) → option_or o p ≡ p → option_or p q ≡ q → option_or o q ≡ q
  later_then o p q e f =
      ap (option_or o) (sym f) ∙ sym (or_or o p q) ∙ ap (λ (x : Option (Note R)). option_or x q) e ∙
      f

  or_same : (o : Option (Note R)) → option_or o o ≡ o
  or_same None = refl
  or_same (Some n) = refl

  -- a visit of a node that isn't closed, whatever else was noted there that isn't the first
  note_more : (first o p : Option (Note R)) → option_or first o ≡ first → option_or first p ≡
      option_or first (option_or o p)
  note_more None None p h = refl
  note_more None (Some n) p h = cc
  note_more (Some n) o p h = refl

  abbrev noted_at : List ℕ → R → Note R
  noted_at path rows = record { path = path; noted = rows }

  mapped_or : (path : List ℕ) (o p : Option R)
      → option_or (option_map (noted_at path) o) (option_map (noted_at path) p) ≡
      option_map (noted_at path) (option_or o p)
  mapped_or path None p = refl
  mapped_or path (Some r) p = refl

module _ {N R : Type 0} where
  later_within : (n : ℕ) (t : Counter N R) (v : Visit N R) →
      option_or t.note (visited_within n t v).note ≡ (visited_within n t v).note
  later_within zero t v = or_same t.note
  later_within (suc n) t v = or_later t.note (note_of v)

  later_as : (e : Ended N) (t : Counter N R) (v : Visit N R) →
      option_or t.note (counted_as e t v).note ≡ (counted_as e t v).note
  later_as Going t v = later_within t.left t v
  later_as (Found node) t v = or_same t.note
  later_as Over t v = or_same t.note

  pub counted_later : (t : Counter N R) (vs : List (Visit N R)) →
      option_or t.note (counted t vs).note ≡ (counted t vs).note
  counted_later t [] = or_same t.note
  counted_later t (v ∷ vs) =
      later_then t.note (counted_one t v).note (counted t (v ∷ vs)).note (later_as t.ended t v)
      (counted_later (counted_one t v) vs)

-- a node that isn't closed doesn't end visits
open_end : {V : Type 0} (b : Bool) (node : V) → b ≡ false → cond b (Found node) Going ≡ Going
open_end b node e = ap (λ (b : Bool). cond b (Found node) Going) e

module _ {V R : Type 0} where
  -- the visit of a node that isn't closed
  pub open_visit : (left : ℕ) (t : Counter V R) (path : List ℕ) (note : Option R) (v : Visit V R) →
      v.closed ≡ false
      → option_or t.note (option_map (noted_at path) note) ≡ option_or t.note (note_of v)
      → visited_open left t path note ≡ visited left t v
  open_visit left t path told v e is =
      λ i. record { left = left; note = is i; ended = sym (open_end v.closed v.node e) i }

  -- what is noted at the choices is the first note there that counts
  pub choosing_note : (first : Option (Note R)) (path : List ℕ) (s : Settled V R) (m : Menu V R) →
      IsAfterNote first (alone path s)
      → option_or first (option_map (noted_at path) m.note) ≡
      option_or first (note_of (choosing path s m))
  choosing_note first path s m noted =
      note_more first (note_of (alone path s)) (option_map (noted_at path) m.note) noted
      ∙ ap (option_or first) (mapped_or path s.note m.note)

  -- so of one whose choices are found, and what was noted before that isn't the first note
  pub choosing_visit : (left : ℕ) (t : Counter V R) (path : List ℕ) (s : Settled V R) (m : Menu V R)
      →
      s.closed ≡ false → IsAfterNote t.note (alone path s)
      → visited_open left t path m.note ≡ visited left t (choosing path s m)
  choosing_visit left t path s m e noted =
      open_visit left t path m.note (choosing path s m) e (choosing_note t.note path s m noted)

module _ {N V R : Type 0} (view : N → V) (settled : V → Settled V R) (menu : V → Menu V R) where
  -- ---- what is kept

  pub keeps_same : (a b : Progress N R) (f g : ℕ → List (Visit V R)) → ((n : ℕ) → f n ≡ g n) →
      Keeps view settled menu a b f → Keeps view settled menu a b g
  keeps_same a b f g e keeps = λ lists stands going.
      lists_same view settled menu b.counter.note b.kept (λ n. lists n ++ f n) (λ n. lists n ++ g n)
      (λ n. ap (λ (vs : List (Visit V R)). lists n ++ vs) (e n)) (keeps lists stands going)

  keeps_all : (a : Progress N R) → Keeps view settled menu a a (λ n. [])
  keeps_all a = λ lists stands going.
      lists_same view settled menu a.counter.note a.kept lists (λ n. lists n ++ [])
      (λ n. sym (append-nil (lists n))) (stands going)

  keeps_then : (a b c : Progress N R) (f g : ℕ → List (Visit V R)) → Keeps view settled menu a b f →
      Keeps view settled menu b c g
      → Keeps view settled menu a c (λ n. f n ++ g n)
  keeps_then a b c f g first then = λ lists stands going.
      lists_same view settled menu c.counter.note c.kept (λ n. (lists n ++ f n) ++ g n)
      (λ n. lists n ++ (f n ++ g n)) (λ n. append_assoc (lists n) (f n) (g n))
      (then (λ n. lists n ++ f n) (first lists stands) going)

  -- ---- visits

  -- none are made
  pub visited_none : (a : Progress N R) → IsVisited view settled menu a (λ n. []) a
  visited_none a = record { counted = refl; keeps = keeps_all a }

  -- some are made, and then others
  pub visited_then : (a b c : Progress N R) (f g : ℕ → List (Visit V R)) →
      IsVisited view settled menu a f b → IsVisited view settled menu b g c
      → IsVisited view settled menu a (λ n. f n ++ g n) c
  visited_then a b c f g first then = record {
    counted =
        then.counted ∙ ap (λ (t : Counter V R). counted t (g 0)) first.counted ∙
        sym (counted-append (seen_counter view a.counter) (f 0) (g 0));
    keeps = keeps_then a b c (λ n. f (n + 1)) (λ n. g (n + 1)) first.keeps then.keeps;
  }

  pub visited_same : (a b : Progress N R) (f g : ℕ → List (Visit V R)) → ((n : ℕ) → f n ≡ g n) →
      IsVisited view settled menu a f b → IsVisited view settled menu a g b
  visited_same a b f g e is =
      subst (λ (lists : ℕ → List (Visit V R)). IsVisited view settled menu a lists b) (λ i n. e n i)
      is

  -- visits end
  pub visited_ending : (a b : Progress N R) (lists : ℕ → List (Visit V R)) →
      seen_counter view b.counter ≡ counted (seen_counter view a.counter) (lists 0)
      → (b.counter.ended ≡ Going → ⊥) → IsVisited view settled menu a lists b
  visited_ending a b lists counts stopped =
      record { counted = counts; keeps = λ ls stands going. absurd (stopped going) }

  -- the first note stays the first
  pub note_later : (a b : Progress N R) (vs : List (Visit V R)) → seen_counter view b.counter ≡
      counted (seen_counter view a.counter) vs
      → option_or a.counter.note b.counter.note ≡ b.counter.note
  note_later a b vs counts =
      subst (λ (t : Counter V R). option_or a.counter.note t.note ≡ t.note) (sym counts)
      (counted_later (seen_counter view a.counter) vs)

  -- one node more is kept
  pub visited_push : (a b : Progress N R) (k : Kept N) (lists : ℕ → List (Visit V R)) →
      a.counter.ended ≡ Going
      → seen_counter view b.counter ≡ counted (seen_counter view a.counter) (lists 0) → b.kept ≡
      a.kept ++
      k ∷ []
      → StandsForVisits view settled menu b.counter.note k (λ n. lists (n + 1)) →
      IsVisited view settled menu a lists b
  visited_push a b k lists going counts kept stands =
      record {
        counted = counts;
        keeps =
            λ ls stand _. subst (λ (ks : List (Kept N)). StandsForLists view settled menu
            b.counter.note ks (λ n. ls n ++ lists (n + 1))) (sym kept)
            (lists_push view settled menu b.counter.note a.kept k ls (λ n. lists (n + 1))
            (lists_later view settled menu a.counter.note b.counter.note a.kept ls
            (note_later a b (lists 0) counts) (stand going)) stands);
      }

-- What is found where a goal is alone: the known choices so far, with one more.
use Rattle.std.proofs.Common.{◌≡◌, ℕ, Bool, true, false, Option, Some, None, Result, Ok, Err, List, [], ◌∷◌, ◌++◌, map, All, refl, sym, ap, subst, ◌∙◌, ◌⊎◌, inl, inr}
use Rattle.std.specs.Prelude.{IfOk, IfSome, OnOk}
use Rattle.std.specs.Option.{option_map}
use Rattle.std.proofs.lemmas.List.{map-append}
use Rattle.std.proofs.lemmas.List.Elements.{All-append, All-cons, All-head, All-nil, All-push, All-tail}
use Rattle.rx_plain.specs.declared.no_memory.NoMemory.{NoMemory}
use Rattle.rx_solve.specs.Attempts.{Tried, beyond}
use Rattle.rx_term.specs.declared.rule.Equation.{Equation}
use Rattle.rx_term.specs.declared.rule_set.RuleParts.{RuleParts}
use Rattle.rx_inference.specs.States.{State}
use Rattle.rx_inference.specs.declared.step.Side.{Side}
use Rattle.rx_inference.specs.declared.step.Side.TheVariants.{Left, Right}
use Rattle.rx_inference.specs.declared.step.Step.{Step}
use Rattle.rx_inference.specs.declared.step.Step.TheVariants as steps
use Rattle.rx_find_lemmas.specs.Finders.{AreLemmas, IsShown}
use Rattle.rx_find_lemmas.specs.Finding.{lemmas_at}
use Rattle.rx_find_lemmas.specs.Lemmas.{general}
use Rattle.rx_find_lemmas.specs.declared.lemma.Lemma.{Lemma}
use Rattle.rx_search.specs.Candidates.{expansions, lemma_candidate, number_of}
use Rattle.rx_search.specs.declared.candidates.Candidate.{Candidate}
use Rattle.rx_memo.specs.Kept.{IsKept, IsThat}
use Rattle.rx_memo.specs.declared.goal_memo.Kept.{Kept}
use Rattle.rx_memo.proofs.Buckets.{nothing_kept}
use Rattle.rx_steps.specs.Alone.{alone}
use Rattle.rx_moves.specs.Answers.{IsTaken}
use Rattle.rx_settle.specs.Answers.{IsTrial, Takes}
use Rattle.rx_moves.specs.Moves.{Move, move_of}
use Rattle.rx_moves.specs.Trying.{Next, attempt}
use Rattle.rx_settle.specs.declared.trial.Trial.{Trial as Taken}
use Rattle.rx_search.specs.Known.{AreOf, AreRight, CanBeTried, IsRight, IsRightChoice, known_lemma, seen_known}
use Rattle.rx_search.specs.Menu.{Attempted, attempted, attempted_all, attempted_by}
use Rattle.rx_search.specs.Nodes.{KeepsNone}
use Rattle.rx_search.specs.declared.node_choices.KnownChoice.{KnownChoice}
use Rattle.rx_search.proofs.Trying.{attempt_keeps}

-- ---- one step where the goal is alone

module _ (parts : RuleParts) (goal : Equation) (start after : State) (number : ℕ) (keeps : Bool)
    (move : Move) (t : Taken) (starts : start ≡ alone goal)
    (is : IsTrial parts start after (attempt parts start move) t) where
  abbrev one : Tried Next
  one = attempt parts (alone goal) move

  abbrev made : KnownChoice
  made = record {
    number = number;
    keeps = keeps;
    step = t.taken;
    noted = t.noted;
    after = after;
  }

  trial : IsTrial parts (alone goal) after one t
  trial = subst (λ s. IsTrial parts s after (attempt parts s move) t) starts is

  made_by : (o : Option Step) → Takes parts (alone goal) after one.made o →
      option_map (λ step. record { move = move_of step; state = after }) o ≡ one.made
  made_by None takes = sym takes.0
  made_by (Some step) takes = sym takes.0

  taken_by : (o : Option Step) → Takes parts (alone goal) after one.made o → IfSome o
      (IsTaken parts (alone goal) after)
  taken_by None takes = tt
  taken_by (Some step) takes = takes.1

  none_kept : KeepsNone move → (o : Option Step) → Takes parts (alone goal) after one.made o →
      after.hypotheses ≡ []
  none_kept none None takes = ap (λ (s : State). s.hypotheses) takes.1
  none_kept none (Some step) takes =
      attempt_keeps parts (alone goal) move none (record { move = move_of step; state = after })
      takes.0

  seen_made : seen_known made ≡ attempted number keeps one
  seen_made = λ i. attempted number keeps (record {
    made = made_by t.taken trial.taken i;
    noted = trial.noted i;
  })

  -- of a call
  pub seen_alone : (result : Result KnownChoice NoMemory) → IfOk result (λ k. k ≡ made) →
      IfOk result (λ k. seen_known k ≡ attempted number keeps one)
  seen_alone (Ok k) same = ap seen_known same ∙ seen_made
  seen_alone (Err e) same = tt

  pub right_alone : (keeps ≡ false → KeepsNone move) → (result : Result KnownChoice NoMemory) →
      IfOk result (λ k. k ≡ made) → IfOk result (IsRightChoice parts goal)
  right_alone unkept (Ok k) same =
      subst (IsRightChoice parts goal) (sym same) (record {
        taken = taken_by t.taken trial.taken;
        unkept = λ e. none_kept (unkept e) t.taken trial.taken;
      })
  right_alone unkept (Err e) same = tt

-- ---- lists of them

module _ (parts : RuleParts) (goal : Equation) where
  pub no_known : (known : List KnownChoice) → known ≡ [] → AreOf parts goal [] known
  no_known known none =
      subst (AreOf parts goal []) (sym none)
      (record { seen = refl; right = All-nil (IsRightChoice parts goal) })

  -- one more
  pub known_grow : (cs : List Attempted) (a : Attempted) (k : KnownChoice)
      (old new : List KnownChoice) → seen_known k ≡ a → IsRightChoice parts goal k →
      new ≡ old ++ k ∷ [] → AreOf parts goal cs old → AreOf parts goal (cs ++ a ∷ []) new
  known_grow cs a k old new seen right pushed are =
      subst (AreOf parts goal (cs ++ a ∷ [])) (sym pushed) (record {
        seen =
            map-append seen_known old (k ∷ []) ∙ (λ i. are.seen i ++ seen i ∷ []);
        right = All-push (IsRightChoice parts goal) old k are.right right;
      })

  -- one that doesn't apply, as something passes the limits
  pub noted_grow : (cs : List Attempted) (after : State) (old new : List KnownChoice) → after ≡
      alone goal → new ≡ old ++ record {
        number = 6;
        keeps = false;
        step = None;
        noted = true;
        after = after;
      } ∷ [] → AreOf parts goal cs old → AreOf parts goal (cs ++ attempted 6 false beyond ∷ []) new
  noted_grow cs after old new alone_after pushed are =
      known_grow cs (attempted 6 false beyond) (record {
        number = 6;
        keeps = false;
        step = None;
        noted = true;
        after = after;
      }) old new refl
      (record { taken = tt; unkept = λ e. ap (λ (s : State). s.hypotheses) alone_after }) pushed are

  -- ---- lemmas

  abbrev at : Candidate → Attempted
  at = attempted_by parts (alone goal)

  lemmas_seen : (ls : List Lemma) → All (IsShown parts goal) ls →
      map seen_known (map known_lemma ls) ≡ map at (map lemma_candidate (map general ls))
  lemmas_seen [] all = refl
  lemmas_seen (l ∷ ls) all =
      let first = ap (attempted (number_of l.kind) false)
      (sym (All-head (IsShown parts goal) l ls all).shown) in
      let rest = lemmas_seen ls (All-tail (IsShown parts goal) l ls all) in
      λ i. first i ∷ rest i

  lemmas_right : (ls : List Lemma) → All (IsShown parts goal) ls →
      All (IsRightChoice parts goal) (map known_lemma ls)
  lemmas_right [] all = All-nil (IsRightChoice parts goal)
  lemmas_right (l ∷ ls) all =
      All-cons (IsRightChoice parts goal) (known_lemma l) (map known_lemma ls)
      (record {
        taken = (All-head (IsShown parts goal) l ls all).taken;
        unkept = λ e. refl;
      })
      (lemmas_right ls (All-tail (IsShown parts goal) l ls all))

  module _ (old new : List KnownChoice) (are : AreOf parts goal (map at expansions) old) where
    with_lemmas : (ls : List Lemma) → AreLemmas parts goal ls →
        IsRight parts goal (old ++ map known_lemma ls)
    with_lemmas ls found = record {
      seen =
          map-append seen_known old (map known_lemma ls)
          ∙ (λ i. are.seen i ++ lemmas_seen ls found.shown i)
          ∙ sym (ap (attempted_all parts (alone goal)) found.all);
      right =
          All-append (IsRightChoice parts goal) old (map known_lemma ls) are.right
          (lemmas_right ls found.shown);
    }

    -- of a call
    pub lemmas_grow : {A E : Type 0} (ls : List Lemma) → AreLemmas parts goal ls →
        (result : Result A E) → OnOk result (new ≡ old ++ map known_lemma ls) →
        OnOk result (IsRight parts goal new)
    lemmas_grow ls found (Ok x) same =
        subst (IsRight parts goal) (sym same) (with_lemmas ls found)
    lemmas_grow ls found (Err e) same = tt

  -- where they pass the limits
  pub none_grow : {A E : Type 0} (new : List KnownChoice) → lemmas_at parts goal ≡ None →
      (result : Result A E) →
      OnOk result (AreOf parts goal (attempted_all parts (alone goal) None) new) →
      OnOk result (IsRight parts goal new)
  none_grow new none (Ok x) are =
      subst (λ made. AreOf parts goal (attempted_all parts (alone goal) made) new) (sym none) are
  none_grow new none (Err e) are = tt

-- ---- what can be tried

abbrev expanding : ℕ → Side → Bool → Candidate
expanding number side keep =
    record { number = number; keeps = keep; step = steps.Expand side keep }

can_expand : (number : ℕ) (side : Side) (keep : Bool) → CanBeTried (expanding number side keep)
can_expand number side keep = record { rows = refl; unkept = λ e. e }

abbrev decomposing : Candidate
decomposing = record { number = 5; keeps = false; step = steps.Decompose [] }

can_decompose : CanBeTried decomposing
can_decompose = record { rows = refl; unkept = λ e. tt }

-- what comes after the third, the second and the first
abbrev last : List Candidate
last = expanding 4 Right false ∷ decomposing ∷ []

abbrev later : List Candidate
later = expanding 3 Left false ∷ last

abbrev next : List Candidate
next = expanding 2 Right true ∷ later

can_last : All CanBeTried last
can_last =
    All-cons CanBeTried (expanding 4 Right false) (decomposing ∷ []) (can_expand 4 Right false)
    (All-cons CanBeTried decomposing [] can_decompose (All-nil CanBeTried))

can_next : All CanBeTried next
can_next =
    All-cons CanBeTried (expanding 2 Right true) later (can_expand 2 Right true)
    (All-cons CanBeTried (expanding 3 Left false) last (can_expand 3 Left false) can_last)

can_all : All CanBeTried expansions
can_all = All-cons CanBeTried (expanding 1 Left true) next (can_expand 1 Left true) can_next

pub all_can : (all : List Candidate) → all ≡ expansions → All CanBeTried all
all_can all is = subst (All CanBeTried) (sym is) can_all

-- ---- a memo

-- where nothing is kept all is right
pub none_right : (parts : RuleParts) (memo : List (Kept (List KnownChoice))) → memo ≡ [] →
    AreRight parts memo
none_right parts memo none = record { all = λ g v kept. absurd (nothing_kept memo none g v kept) }

-- it stays right, with what is right
pub kept_right : (parts : RuleParts) (old new : List (Kept (List KnownChoice))) (goal : Equation)
    (known : List KnownChoice) → AreRight parts old → IsRight parts goal known →
    ((g : Equation) (v : List KnownChoice) → IsKept new g v →
    IsKept old g v ⊎ IsThat goal known g v)
    → AreRight parts new
kept_right parts old new goal known right is more = record {
  all = λ g v kept. elim (more g v kept) [
    | inl before ↦ right.all g v before
    | inr that ↦
        subst (λ x. IsRight parts x v) (sym that.goal_is)
        (subst (IsRight parts goal) (sym that.value_is) is)
  ];
}

-- What is kept of a pair stays right.
use Rattle.std.proofs.Common.{◌≡◌, subst, sym, IfOk, List, [], ◌∷◌, ◌++◌, Result, Ok, Err}
use Rattle.std.proofs.lemmas.List.Elements.{All-push}
use Rattle.rx_pairs.specs.declared.pair.Pair.{Pair}
use Rattle.rx_rank.specs.Memo.{AreRight, AreTaken, IsRight, IsTaken}
use Rattle.rx_rank.specs.declared.known_pair.KnownAnswer.{KnownAnswer}
use Rattle.rx_rank.specs.declared.known_pair.KnownTaking.{KnownTaking}

-- one more
pub right_answer : (pair : Pair) (answers after : List KnownAnswer) (one : KnownAnswer) → after ≡
    answers ++ one ∷ [] → IsRight pair one → AreRight pair answers → AreRight pair after
right_answer pair answers after one is told right =
    subst (AreRight pair) (sym is) (All-push (IsRight pair) answers one right told)

-- what is true of an answer is true of its copy
pub of_copy : {A E : Type 0} (P : A → Type 0) (x : A) (r : Result A E) → IfOk r (λ y. y ≡ x) → P x →
    IfOk r P
of_copy P x (Ok y) same p = subst P (sym same) p
of_copy P x (Err e) same p = tt

pub right_taking : (pair : Pair) (takings after : List KnownTaking) (one : KnownTaking) → after ≡
    takings ++ one ∷ [] → IsTaken pair one → AreTaken pair takings → AreTaken pair after
right_taking pair takings after one is told right =
    subst (AreTaken pair) (sym is) (All-push (IsTaken pair) takings one right told)

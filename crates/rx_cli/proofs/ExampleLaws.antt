-- Where all examples are proved, the functions of each agree.
use Rattle.std.proofs.Common.{◌≡◌, ◌<◌, ◌≤◌, ◌+◌, ◌%◌, ◌∙◌, ◌⊎◌, ◌++◌, ◌∷◌, [], List, length, min, get_or, ℕ, zero, suc, Bool, true, false, inl, inr, refl, sym, ap, subst, arith}
use Rattle.std.specs.Prelude.{◌==◌, if◌then◌else◌}
use Rattle.std.proofs.Math.Nat.{eq-or-lt_of_le, mod-le, mod-lt, mod-mod}
use Rattle.std.proofs.lemmas.List.{get_or_append_left, get_or_push, length-append}
use Rattle.std.proofs.lemmas.Bool.{eqb-true}
use Rattle.rx_cli.specs.declared.examples.Tally.{Tally}
use Rattle.rx_report.specs.declared.ends.Status.{Status}
use Rattle.rx_report.specs.declared.ends.Status.TheVariants as Ends
use Rattle.rx_report.specs.declared.verdicts.Verdict.{Verdict}
use Rattle.rx_report.specs.declared.verdicts.Verdict.TheVariants as Said
use Rattle.rx_cli.specs.Agreement.{Agrees}
use Rattle.rx_cli.specs.Answers.{ExamplesAgree}
use Rattle.rx_report.specs.Ends.{status_of}
use Rattle.rx_report.specs.declared.answer.Answer.{Answer}
use Rattle.rx_report.specs.Ends.{status_in}
use Rattle.rx_cli.specs.Examples.{AreStatuses, HasStatuses, IsShown, IsStatus, IsTally, example_effort, example_functions, example_source, example_text, repeats, with_status}
use Rattle.rx_cli.specs.Proofs.{IsProved}
use Rattle.rx_cli.proofs.Proved.{proved_agrees}

-- a status counts where it is that of equivalence alone
counts : (t : Tally) (s : Status) → ((s ≡ Ends.Equivalent) ×
    ((with_status t s).equivalent ≡ t.equivalent + 1)) ⊎
    ((with_status t s).equivalent ≡ t.equivalent)
counts t Ends.Equivalent = inl (refl, refl)
counts t Ends.Unknown = inr refl
counts t Ends.Refused = inr refl
counts t Ends.Usage = inr refl
counts t Ends.ReadFault = inr refl
counts t Ends.WriteFault = inr refl
counts t Ends.NoMemory = inr refl
counts t Ends.Large = inr refl
counts t Ends.Different = inr refl

-- an answer more is one more proof at most
pub one_more : (t : Tally) (s : Status) (n : ℕ) (u : Tally) → u ≡ with_status t s → t.equivalent ≤
    n → u.equivalent ≤ n + 1
one_more t s n u is most = by_count (counts t s) (ap (λ (v : Tally). v.equivalent) is)
  where
    by_count : ((s ≡ Ends.Equivalent) × ((with_status t s).equivalent ≡ t.equivalent + 1)) ⊎
        ((with_status t s).equivalent ≡ t.equivalent)
        → u.equivalent ≡ (with_status t s).equivalent → u.equivalent ≤ n + 1
    by_count (inl (equal, more)) same = omega (arith, more, most, same)
    by_count (inr less) same = omega (arith, less, most, same)

-- the tally with an answer more
pub tally_more : (n : ℕ) (t u : Tally) (s : Status) → IsTally n t → IsStatus n s → u ≡
    with_status t s → IsTally (n + 1) u
tally_more n t u s so_far status is =
    let next : suc n ≡ n + 1 = omega arith in
    subst (λ k. IsTally k u) next (t, so_far, (s, status, is))

-- ---- examples with one text

-- an example ends as the first with its text does
pub repeated_status : (k : ℕ) (s : Status) → IsStatus (repeats k) s → IsStatus k s
repeated_status k s is = subst EndsSo (ap (λ r. 49 + r) (mod-mod k 7)) is
  where
    EndsSo : ℕ → Type 0
    EndsSo d =
        (answer : Answer) × IsProved example_functions example_effort (example_text d) answer ×
        (s ≡ status_in answer)

-- the statuses with that of the next example
pub statuses_more : (n : ℕ) (xs : List Status) (s : Status) → length xs ≡ n → AreStatuses xs →
    IsStatus n s
    → AreStatuses (xs ++ s ∷ [])
statuses_more n xs s count are status k d below = by_place place
  where
    place : (k ≡ length xs) ⊎ (k < length xs)
    place =
        let more = length-append xs (s ∷ []) in
        let most : k ≤ length xs = omega (arith, below, more) in eq-or-lt_of_le most

    by_place : (k ≡ length xs) ⊎ (k < length xs) → IsStatus k (get_or (xs ++ s ∷ []) k d)
    by_place (inl last) =
        let number : n ≡ k = sym count ∙ sym last in
        subst (IsStatus k) (sym (get_or_push xs s d k (sym last)))
        (subst (λ m. IsStatus m s) number status)
    by_place (inr under) =
        subst (IsStatus k) (sym (get_or_append_left xs (s ∷ []) d k under)) (are k d under)

-- seven examples have all statuses
pub few_are_all : (pairs : ℕ) (xs : List Status) → length xs ≡ min pairs 7 → (k : ℕ) → k < pairs →
    repeats k < length xs
few_are_all pairs xs count k below =
    let some : 0 < 7 = omega arith in
    let under : k % 7 < 7 = mod-lt k some in
    let least : k % 7 ≤ k = mod-le k 7 in
    omega (arith, below, count, under, least)

-- the status that is found for an example is its own
pub found_status : (pairs : ℕ) (xs : List Status) (k : ℕ) (s : Status) → HasStatuses pairs xs → k <
    pairs
    → ((d : Status) → s ≡ get_or xs (repeats k) d) → IsStatus k s
found_status pairs xs k s has below is =
    repeated_status k s (subst (IsStatus (repeats k)) (sym (is s))
    (has.each (repeats k) s (has.all k below)))

-- no more examples are proved than there are
pub few : (k : ℕ) (t : Tally) → IsTally k t → t.equivalent ≤ k
few zero t is =
    let none : t.equivalent ≡ 0 = ap (λ (u : Tally). u.equivalent) is in omega (arith, none)
few (suc k) t (before, so_far, (s, status, is)) =
    let most : t.equivalent ≤ k + 1 = one_more before s k t is (few k before so_far) in
    omega (arith, most)

-- each of the first examples is proved, where as many are proved as there are
abbrev EachProved : ℕ → Tally → Type 0
EachProved k t = t.equivalent ≡ k → (j : ℕ) → j < k → IsStatus j Ends.Equivalent

each_proved : (k : ℕ) (t : Tally) → IsTally k t → EachProved k t
each_proved zero t is all j below = let no : ⊥ = omega (arith, below) in absurd no
each_proved (suc k) t (before, so_far, (s, status, is)) all j below =
    by_count (counts before s) (few k before so_far) (ap (λ (u : Tally). u.equivalent) is)
    (each_proved k before so_far)
  where
    last : j ≡ k → s ≡ Ends.Equivalent → IsStatus j Ends.Equivalent
    last here equal =
        subst (λ n. IsStatus n Ends.Equivalent) (sym here) (subst (IsStatus k) equal status)

    by_place : (j ≡ k) ⊎ (j < k) → s ≡ Ends.Equivalent → before.equivalent ≡ k →
        EachProved k before → IsStatus j Ends.Equivalent
    by_place (inl here) equal rest earlier = last here equal
    by_place (inr under) equal rest earlier = earlier rest j under

    place : (j ≡ k) ⊎ (j < k)
    place = let most : j ≤ k = omega (arith, below) in eq-or-lt_of_le most

    by_count : ((s ≡ Ends.Equivalent) × ((with_status before s).equivalent ≡ before.equivalent + 1))
        ⊎ ((with_status before s).equivalent ≡ before.equivalent)
        → before.equivalent ≤ k → t.equivalent ≡ (with_status before s).equivalent →
        EachProved k before → IsStatus j Ends.Equivalent
    by_count (inl (equal, more)) most same earlier =
        let rest : before.equivalent ≡ k = omega (arith, more, same, all) in
        by_place place equal rest earlier
    by_count (inr less) most same earlier =
        let no : ⊥ = omega (arith, less, most, same, all) in absurd no

-- a proof of an example says that its functions agree
example_agrees : (k : ℕ) → IsStatus k Ends.Equivalent → Agrees (example_source k) example_functions
example_agrees k (answer, is, says) =
    proved_agrees example_functions (example_source k) answer (sym says) example_effort is

pub shown_agree : (pairs : ℕ) (verdict : Verdict) → IsShown pairs verdict → status_of verdict ≡
    Ends.Equivalent → ExamplesAgree pairs
shown_agree pairs verdict (t, is, verdict_is) says k below =
    go t.is_large (pairs == t.equivalent) refl (sym (ap status_of verdict_is) ∙ says)
  where
    go : (large all : Bool) → (pairs == t.equivalent) ≡ all →
        status_of (if large then Said.LargeSearch else Said.Demo pairs t.equivalent) ≡
        Ends.Equivalent → Agrees (example_source k) example_functions
    go true all is_all says =
        let no : Ends.Large ≡ Ends.Equivalent = says in absurd (let none : ⊥ = cc in none)
    go false true is_all says =
        let same : pairs ≡ t.equivalent = eqb-true pairs t.equivalent is_all in
        example_agrees k (each_proved pairs t is (sym same) k below)
    go false false is_all says =
        let no : Ends.Unknown ≡ Ends.Equivalent =
        subst (λ b. (if b then Ends.Equivalent else Ends.Unknown) ≡ Ends.Equivalent) is_all says
        in absurd (let none : ⊥ = cc in none)

-- Groups of rows are judged in order: the first whose rows aren't all shown decides.
use Rattle.std.proofs.Common.{◌≡◌, ◌∙◌, ap, refl, sym, arith, false, Option, Some, None, List, ◌∷◌, ℕ, ◌+◌, ◌<◌, ◌↔◌, IsTrue, length, take, drop, get_or}
use Rattle.std.proofs.lemmas.List.{drop_more}
use Rattle.rx_cert.specs.Conditions.{asked_for, in_order}
use Rattle.rx_cert.specs.declared.cert.Cert.{Cert}
use Rattle.rx_cert.specs.declared.conditions.ConditionsAnswer.{ConditionsAnswer}
use Rattle.rx_cert.specs.declared.conditions.ConditionsAnswer.TheVariants as answer
use Rattle.rx_inference.specs.Judging.{Fault, Shown, StepFault, asked_by, asked_by_all, given_to, groups_in_order, of_conditions, then_later}
use Rattle.rx_inference.specs.declared.formed_step.Group.{Group}
use Rattle.rx_row.specs.declared.row.Row.{Row}

later_judged : (o later : Option ConditionsAnswer) → of_conditions o ≡ Shown →
    then_later o later ≡ later
later_judged None later e = cc
later_judged (Some answer.Shown) later e = refl
later_judged (Some answer.WrongCount) later e = cc
later_judged (Some (answer.NotShown i)) later e = cc

ended_by : (o later : Option ConditionsAnswer) (f : StepFault) → of_conditions o ≡ Fault f →
    of_conditions (then_later o later) ≡ Fault f
ended_by None later f e = e
ended_by (Some answer.Shown) later f e = cc
ended_by (Some answer.WrongCount) later f e = e
ended_by (Some (answer.NotShown i)) later f e = e

-- a group of a list, at its place, with the rows that it is given and that it asks
module _ (old new : List Row) (gs : List Group) (i : ℕ) (g : Group) (given rows : List Row)
    (asked : ℕ) (below : i < length gs) (is : g ≡ get_or gs i g)
    (under : given ≡ given_to old new g.under) (its : rows ≡ g.rows)
    (counted : asked ≡ asked_for given rows) where
  from_here : drop i gs ≡ g ∷ drop (i + 1) gs
  from_here = drop_more gs i g below ∙ ap (λ (x : Group). x ∷ drop (i + 1) gs) (sym is)

  count_is : asked ≡ asked_by old new g
  count_is = counted ∙ (λ k. asked_for (under k) (its k))

  -- what the groups from here on ask for
  pub asked_on : asked_by_all old new (drop i gs) ≡ asked + asked_by_all old new (drop (i + 1) gs)
  asked_on =
      ap (asked_by_all old new) from_here
      ∙ ap (λ n. n + asked_by_all old new (drop (i + 1) gs)) (sym count_is)

  -- where fewer certificates are left than the group asks for, another number is asked for
  pub too_few : (count left : ℕ) →
      count + asked_by_all old new (drop i gs) ≡ left + asked_by_all old new gs → left < asked →
      IsTrue false ↔ count ≡ asked_by_all old new gs
  too_few count left so_far fewer =
      (λ (no : IsTrue false). absurd cc, λ same. let on = asked_on in absurd (omega arith))

  -- the certificates for the group, and the others
  module _ (first : ℕ) (left own later : List Cert) (front : own ≡ take asked left)
      (back : later ≡ drop asked left) where
    own_is : in_order first given rows own ≡
        in_order first (given_to old new g.under) g.rows (take (asked_by old new g) left)
    own_is =
        λ k. in_order first (under k) (its k) ((front ∙ ap (λ n. take n left) count_is) k)

    -- where the group is shown, the others decide
    pub after_shown : (next : ℕ) → next ≡ first + length rows →
        of_conditions (in_order first given rows own) ≡ Shown →
        groups_in_order old new first (drop i gs) left ≡
        groups_in_order old new next (drop (i + 1) gs) later
    after_shown next number shown =
        ap (λ hs. groups_in_order old new first hs left) from_here
        ∙ later_judged (in_order first (given_to old new g.under) g.rows
        (take (asked_by old new g) left)) _ (ap of_conditions (sym own_is) ∙ shown)
        ∙ (λ k. groups_in_order old new
        ((ap (λ (rs : List Row). first + length rs) (sym its) ∙ sym number) k) (drop (i + 1) gs)
        ((ap (λ n. drop n left) (sym count_is) ∙ sym back) k))

    -- and where it isn't, that decides
    pub after_fault : (f : StepFault) → of_conditions (in_order first given rows own) ≡ Fault f →
        of_conditions (groups_in_order old new first (drop i gs) left) ≡ Fault f
    after_fault f fault =
        ap (λ hs. of_conditions (groups_in_order old new first hs left)) from_here
        ∙ ended_by (in_order first (given_to old new g.under) g.rows
        (take (asked_by old new g) left)) _ f (ap of_conditions (sym own_is) ∙ fault)

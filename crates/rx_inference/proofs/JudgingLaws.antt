-- Groups of rows: one is a list of conditions, and what is shown follows from what is given.
use Rattle.std.proofs.Common.{◌≡◌, ◌∙◌, ap, refl, Bool, true, false, cond, ℕ, ◌+◌, Option, Some, None, List, [], ◌∷◌, length, take, drop, ℤ, arith}
use Rattle.std.specs.Prelude.{All, ◌==◌}
use Rattle.std.proofs.lemmas.Bool.{eqb-true}
use Rattle.std.proofs.lemmas.List.{take_all}
use Rattle.std.proofs.lemmas.List.Elements.{All-cons, All-nil}
use Rattle.rx_cert.specs.Conditions.{asked_for, conditions, in_order}
use Rattle.rx_cert.specs.Examination.{verdict}
use Rattle.rx_cert.specs.Findings.{Said, Yes, No, Beyond}
use Rattle.rx_cert.specs.declared.cert.Cert.{Cert}
use Rattle.rx_cert.specs.declared.conditions.ConditionsAnswer.{ConditionsAnswer}
use Rattle.rx_cert.specs.declared.conditions.ConditionsAnswer.TheVariants as answer
use Rattle.rx_cert.proofs.ConditionLaws.{in_order_holds}
use Rattle.rx_cert.proofs.Law.{refuted}
use Rattle.rx_row.specs.Holds.{AllHold}
use Rattle.rx_row.specs.declared.row.Row.{Row}
use Rattle.rx_inference.specs.Judging.{Shown, asked_by, asked_by_all, given_to, group_conditions, groups_in_order, judged, of_conditions, of_said, then_later}
use Rattle.rx_inference.specs.declared.formed_step.Asked.TheVariants.{Refuted, Rows}
use Rattle.rx_inference.specs.declared.formed_step.Group.{Group}
use Rattle.rx_inference.specs.declared.formed_step.Under.TheVariants.{Goal}

-- ---- one group

last_of_all : (o : Option ConditionsAnswer) → then_later o (Some answer.Shown) ≡ o
last_of_all None = refl
last_of_all (Some answer.Shown) = refl
last_of_all (Some answer.WrongCount) = refl
last_of_all (Some (answer.NotShown i)) = refl

-- the rows that are asked under those of the goal alone are a list of conditions
pub one_group : (old new rows : List Row) (certs : List Cert) →
    judged old new (Rows (record { under = Goal; rows = rows } ∷ [])) certs ≡
    of_conditions (conditions old (Some rows) certs)
one_group old new rows certs =
    ap of_conditions (ap (λ n. cond (length certs == n) (alone certs) (Some answer.WrongCount))
    none_more ∙ by (length certs == asked) refl)
  where
    asked : ℕ
    asked = asked_for old rows

    none_more : asked + 0 ≡ asked
    none_more = omega arith

    alone : List Cert → Option ConditionsAnswer
    alone cs = then_later (in_order 0 old rows (take (asked_for old rows) cs)) (Some answer.Shown)

    all_taken : length certs ≡ asked → take asked certs ≡ certs
    all_taken e = take_all asked certs (omega arith)

    by : (b : Bool) → (length certs == asked) ≡ b → cond b (alone certs) (Some answer.WrongCount) ≡
        cond b (in_order 0 old rows certs) (Some answer.WrongCount)
    by true is =
        last_of_all (in_order 0 old rows (take asked certs)) ∙
        ap (in_order 0 old rows) (all_taken (eqb-true (length certs) asked is))
    by false is = refl

-- ---- what is shown holds

shown_first : (o later : Option ConditionsAnswer) → then_later o later ≡ Some answer.Shown →
    (o ≡ Some answer.Shown) × (later ≡ Some answer.Shown)
shown_first None later e = cc
shown_first (Some answer.Shown) later e = (refl, e)
shown_first (Some answer.WrongCount) later e = cc
shown_first (Some (answer.NotShown i)) later e = cc

module _ (old new : List Row) where
  -- the rows of the group hold wherever those that it is given do
  abbrev pub Follows : Group → Type 0
  Follows g = (a : ℕ → ℤ) → AllHold a (given_to old new g.under) → AllHold a g.rows

  groups_follow : (i : ℕ) (gs : List Group) (certs : List Cert) →
      groups_in_order old new i gs certs ≡ Some answer.Shown → All Follows gs
  groups_follow i [] certs e = All-nil Follows
  groups_follow i (g ∷ gs) certs e =
      let n = asked_by old new g in
      let given = given_to old new g.under in
      let both = shown_first (in_order i given g.rows (take n certs))
      (groups_in_order old new (i + length g.rows) gs (drop n certs)) e in
      All-cons Follows g gs (λ a holds. in_order_holds a given holds g.rows i (take n certs) both.0)
      (groups_follow (i + length g.rows) gs (drop n certs) both.1)

  shown_so : (o : Option ConditionsAnswer) → of_conditions o ≡ Shown → o ≡ Some answer.Shown
  shown_so None e = cc
  shown_so (Some answer.Shown) e = refl
  shown_so (Some answer.WrongCount) e = cc
  shown_so (Some (answer.NotShown i)) e = cc

  pub shown_follow : (gs : List Group) (certs : List Cert) → judged old new (Rows gs) certs ≡
      Shown → All Follows gs
  shown_follow gs certs e =
      by (length certs == asked_by_all old new gs) (shown_so (group_conditions old new gs certs) e)
    where
      by : (b : Bool) → cond b (groups_in_order old new 0 gs certs) (Some answer.WrongCount) ≡
          Some answer.Shown → All Follows gs
      by true h = groups_follow 0 gs certs h
      by false h = cc

  said_so : (s : Said) → of_said s ≡ Shown → s ≡ Yes
  said_so Yes e = refl
  said_so No e = cc
  said_so Beyond e = cc

  -- rows that are refuted hold nowhere
  pub shown_refuted : (certs : List Cert) → judged old new Refuted certs ≡ Shown → (a : ℕ → ℤ) →
      AllHold a old → ⊥
  shown_refuted [] e = cc
  shown_refuted (cert ∷ []) e = refuted old cert (said_so (verdict old cert) e)
  shown_refuted (cert ∷ other ∷ certs) e = cc

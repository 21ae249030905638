-- How the certificates of a step are judged: by groups of rows, each under the rows that it is
-- given.
use Rattle.std.specs.Prelude.{ℕ, ◌+◌, ◌==◌, if◌then◌else◌, Option, Some, None, List, [], ◌∷◌, length, take, drop}
use Rattle.rx_cert.specs.Conditions.{asked_for, in_order}
use Rattle.rx_cert.specs.Examination.{verdict}
use Rattle.rx_cert.specs.Findings.{Said, Yes, No, Beyond}
use Rattle.rx_cert.specs.declared.cert.Cert.{Cert}
use Rattle.rx_cert.specs.declared.conditions.ConditionsAnswer.{ConditionsAnswer}
use Rattle.rx_cert.specs.declared.conditions.ConditionsAnswer.TheVariants as conditions
use Rattle.rx_row.specs.declared.row.Row.{Row}
use Rattle.rx_term.specs.declared.rule.Equation.{Equation}
use Rattle.rx_inference.specs.declared.formed_step.Asked.{Asked}
use Rattle.rx_inference.specs.declared.formed_step.Asked.TheVariants.{Refuted, Rows}
use Rattle.rx_inference.specs.declared.formed_step.Group.{Group}
use Rattle.rx_inference.specs.declared.formed_step.Under.{Under}
use Rattle.rx_inference.specs.declared.formed_step.Under.TheVariants.{Goal, New}
use Rattle.rx_inference.specs.declared.step.Delete.TheVariants as delete
use Rattle.rx_inference.specs.declared.step.Step.{Step}
use Rattle.rx_inference.specs.declared.step.Step.TheVariants as step

-- ---- certificates

-- those of a step, in order
abbrev pub certificates : Step → List Cert
certificates (step.Simplify side rule certs) = certs
certificates (step.Hyp side place hyp subst certs) = certs
certificates (step.Expand side keep) = []
certificates (step.Delete (delete.Absurd cert)) = cert ∷ []
certificates (step.Delete (delete.Equal certs)) = certs
certificates step.EqDelete = []
certificates (step.Generalise left right rows subst certs) = certs
certificates (step.Postulate left right rows certs) = certs
certificates (step.Split row) = []
certificates (step.Decompose certs) = certs
certificates (step.Results left right certs) = certs

-- the same step without its certificates, but for one that refutes
abbrev pub bare : Step → Step
bare (step.Simplify side rule certs) = step.Simplify side rule []
bare (step.Hyp side place hyp subst certs) = step.Hyp side place hyp subst []
bare (step.Expand side keep) = step.Expand side keep
bare (step.Delete (delete.Absurd cert)) = step.Delete (delete.Absurd cert)
bare (step.Delete (delete.Equal certs)) = step.Delete (delete.Equal [])
bare step.EqDelete = step.EqDelete
bare (step.Generalise left right rows subst certs) = step.Generalise left right rows subst []
bare (step.Postulate left right rows certs) = step.Postulate left right rows []
bare (step.Split row) = step.Split row
bare (step.Decompose certs) = step.Decompose []
bare (step.Results left right certs) = step.Results left right []

-- ---- groups of rows

-- the rows of the first goal of a list
abbrev pub first_rows : List Equation → List Row
first_rows [] = []
first_rows (e ∷ es) = e.rows

-- the rows that a group is given: those of the goal, or of the first new goal
abbrev pub given_to : List Row → List Row → Under → List Row
given_to old new Goal = old
given_to old new New = new

-- the first group whose rows aren't all shown ends the list
abbrev pub then_later : Option ConditionsAnswer → Option ConditionsAnswer → Option ConditionsAnswer
then_later None later = None
then_later (Some conditions.Shown) later = later
then_later (Some conditions.WrongCount) later = Some conditions.WrongCount
then_later (Some (conditions.NotShown i)) later = Some (conditions.NotShown i)

module _ (old new : List Row) where
  -- how many certificates a group asks for
  abbrev pub asked_by : Group → ℕ
  asked_by g = asked_for (given_to old new g.under) g.rows

  -- and all of them
  abbrev pub asked_by_all : List Group → ℕ
  asked_by_all [] = 0
  asked_by_all (g ∷ gs) = asked_by g + asked_by_all gs

  -- the groups in order, each with as many certificates as it asks for; rows are numbered on from i
  abbrev pub groups_in_order : ℕ → List Group → List Cert → Option ConditionsAnswer
  groups_in_order i [] certs = Some conditions.Shown
  groups_in_order i (g ∷ gs) certs = then_later
      (in_order i (given_to old new g.under) g.rows (take (asked_by g) certs))
      (groups_in_order (i + length g.rows) gs (drop (asked_by g) certs))

  -- as many certificates as are asked for, and then row by row
  abbrev pub group_conditions : List Group → List Cert → Option ConditionsAnswer
  group_conditions gs certs =
      if length certs == asked_by_all gs then groups_in_order 0 gs certs else
      Some conditions.WrongCount

-- ---- steps

-- why a step doesn't apply
pub data StepFault : Type 0 where
  NoGoal : StepFault
  WrongShape : StepFault
  NoSuchRule : StepFault
  NotShown : ℕ → StepFault
  Large : StepFault

-- the certificates show what is asked, or why they don't
pub data Judgement : Type 0 where
  Shown : Judgement
  Fault : StepFault → Judgement

abbrev pub of_conditions : Option ConditionsAnswer → Judgement
of_conditions None = Fault Large
of_conditions (Some conditions.Shown) = Shown
of_conditions (Some conditions.WrongCount) = Fault WrongShape
of_conditions (Some (conditions.NotShown i)) = Fault (NotShown i)

abbrev pub of_said : Said → Judgement
of_said Yes = Shown
of_said No = Fault (NotShown 0)
of_said Beyond = Fault Large

-- one certificate refutes the rows
abbrev pub refutation : List Row → List Cert → Judgement
refutation rows [] = Fault WrongShape
refutation rows (cert ∷ []) = of_said (verdict rows cert)
refutation rows (cert ∷ other ∷ certs) = Fault WrongShape

-- what is asked under the rows of the goal, and of the first new one
abbrev pub judged : List Row → List Row → Asked → List Cert → Judgement
judged old new Refuted certs = refutation old certs
judged old new (Rows groups) certs = of_conditions (group_conditions old new groups certs)

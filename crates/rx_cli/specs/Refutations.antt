-- What is said of a text where counterexamples are looked for, and what a counterexample means.
use Rattle.std.specs.Prelude.{◌≡◌, ◌≢◌, ◌⊎◌, ℕ, ℤ, List, nat_lt, length, MatchBool}
use Rattle.c_ast.specs.declared.integers.Integers.TheVariants.{Unbounded}
use Rattle.c_front.specs.declared.pairs.Compared.{Compared}
use Rattle.c_front.specs.declared.stages.Next.TheVariants.{Ends, Goes}
use Rattle.c_front.specs.Conditions.{whole_front}
use Rattle.c_front.specs.Front.{count_in}
use Rattle.c_meaning.specs.Outcomes.{Outcome}
use Rattle.c_meaning.specs.Programs.{Returns}
use Rattle.c_refute.specs.Points.{IsComparison, arity, finding_at, points}
use Rattle.c_refute.specs.declared.findings.Compared as found
use Rattle.rx_command.specs.Commands.{Functions}
use Rattle.rx_command.specs.declared.command.Extent.{Extent}
use Rattle.rx_report.specs.declared.answer.Answer.{Answer}
use Rattle.rx_report.specs.declared.answer.Answer.TheVariants.{Line, Found}
use Rattle.rx_report.specs.declared.verdicts.Verdict.{Verdict}
use Rattle.rx_report.specs.declared.verdicts.Verdict.TheVariants as Said
use Rattle.rx_cli.specs.Agreement.{Meets}
use Rattle.rx_cli.specs.Problems.{front_stage}

-- ---- answers

-- how many arguments the points have
abbrev pub arity_in : Compared → ℕ
arity_in compared = arity compared.two.program compared.two.first

-- the points up to a side
abbrev pub points_in : Compared → ℕ → List (List ℤ)
points_in compared side = points side (arity_in compared)

-- the most points
abbrev pub most_points : ℕ
most_points = 1000000

-- how both functions compare over the points
abbrev pub IsFound : Compared → Extent → Answer → Type 0
IsFound compared extent answer =
    (c : found.Compared)
    × IsComparison
    (finding_at compared.two.program compared.two.first compared.two.second compared.precondition
    extent.rounds)
    (points_in compared extent.side) c
    × (answer ≡ Found c)

-- the answer to two functions: there are too many points, or how both compare over them
abbrev pub OnPoints : Compared → Extent → Answer → Type 0
OnPoints compared extent answer =
    MatchBool (nat_lt most_points (length (points_in compared extent.side)))
    (answer ≡ Line (Said.Box (arity_in compared)))
    (IsFound compared extent answer)

-- what is said of a text and two functions of it where a counterexample is asked for
abbrev pub IsRefuted : Functions → Extent → List ℕ → Answer → Type 0
IsRefuted f extent source answer =
    ((verdict : Verdict) × front_stage f source (Ends verdict) × (answer ≡ Line verdict))
    ⊎ ((compared : Compared) × front_stage f source (Goes compared) ×
    OnPoints compared extent answer)

-- ---- what a counterexample means

-- the text spells a well-formed program, the names are those of two of its functions, of equally
-- many parameters, and on integers that meet the precondition both return, by the meaning of C over
-- the mathematical integers, other outcomes: other integers, or one of them the division error. The
-- text is read as the question has it, and a question that asks for runs is one of the mathematical
-- integers
pub record Refutes (source : List ℕ) (f : Functions) : Type 0 where
  pub compared : Compared
  pub front : whole_front f.integers source f.first f.second f.precondition (Goes compared)
  pub arguments : List ℤ
  pub count : length arguments ≡ count_in compared.two.program compared.two.first
  pub meets : Meets compared.two.program compared.precondition arguments
  pub first : Outcome ℤ
  pub second : Outcome ℤ
  pub first_returns : Returns Unbounded compared.two.program compared.two.first arguments first
  pub second_returns : Returns Unbounded compared.two.program compared.two.second arguments second
  pub different : first ≢ second

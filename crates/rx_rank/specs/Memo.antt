-- What is kept of a pair: answers of tests, and what its left symbol takes from its right one. All
-- of it is right.
use Rattle.std.specs.Prelude.{◌≡◌, All, Bool, List, Some}
use Rattle.rx_plain.specs.Formed.{Formed}
use Rattle.rx_poly.specs.declared.body.Body.{Body}
use Rattle.rx_row.specs.declared.row.Row.{Row}
use Rattle.rx_cert.specs.Findings.{Said}
use Rattle.rx_solve.specs.declared.showing.AllShown.{AllShown}
use Rattle.rx_pairs.specs.Columns.{falls_rows, holds_rows}
use Rattle.rx_pairs.specs.declared.pair.Pair.{Pair}
use Rattle.rx_solve.specs.Attempts.{Tried}
use Rattle.rx_rank.specs.Answers.{IsTold, tried}
use Rattle.rx_rank.specs.Choices.{instance_on, raised_by}
use Rattle.rx_rank.specs.PairTests.{falls, holds}
use Rattle.rx_rank.specs.Tries.{and_then}
use Rattle.rx_rank.specs.declared.known_pair.KnownAnswer.{KnownAnswer}
use Rattle.rx_rank.specs.declared.known_pair.KnownTaking.{KnownTaking}
use Rattle.rx_rank.specs.declared.known_pair.PairTest.{PairTest}
use Rattle.rx_rank.specs.declared.known_pair.PairTest.TheVariants.{Holds, Falls}

-- what is said of the test by these polynomials of the left and the right symbol
abbrev pub said_of : PairTest → Pair → Body → Body → Said
said_of Holds pair p q = holds pair p q
said_of Falls pair p q = falls pair p q

-- the rows that it asks for
abbrev pub rows_of : PairTest → Pair → Body → Body → Formed (List Row)
rows_of Holds pair p q = holds_rows pair p q
rows_of Falls pair p q = falls_rows pair p q

-- the answer is what is said, where they are shown by certificates
abbrev pub Tells : PairTest → Pair → Body → Body → AllShown → Type 0
Tells test pair p q answer = IsTold (said_of test pair p q) pair (rows_of test pair p q) answer

-- an answer that is kept of the pair is right
abbrev pub IsRight : Pair → KnownAnswer → Type 0
IsRight pair known = Tells known.test pair known.left known.right known.answer

abbrev pub AreRight : Pair → List KnownAnswer → Type 0
AreRight pair answers = All (IsRight pair) answers

-- what the left symbol takes from the polynomial of the right one: its instance, and 1 more where
-- the left symbol is raised
abbrev pub taken : Bool → Pair → Body → Tried Body
taken raised pair q = and_then (instance_on pair (Some q)) (raised_by raised)

-- what is kept of that is right
abbrev pub IsTaken : Pair → KnownTaking → Type 0
IsTaken pair known = tried known.attempt ≡ taken known.raised pair known.right

abbrev pub AreTaken : Pair → List KnownTaking → Type 0
AreTaken pair takings = All (IsTaken pair) takings

-- all that is kept of a pair is right
pub record IsRightMemo (pair : Pair) (answers : List KnownAnswer) (takings : List KnownTaking) :
    Type 0 where
  pub tests : AreRight pair answers
  pub instances : AreTaken pair takings

-- The problem that the words of a command line pose.
use Rattle.std.specs.Prelude.{◌⊎◌, ℕ, List, Option, Some, None, ⊤}
use Rattle.c_front.specs.declared.stages.Next.{Next}
use Rattle.c_front.specs.declared.stages.Next.TheVariants.{Ends, Goes}
use Rattle.rx_command.specs.Commands.{Command, Compare, Rules}
use Rattle.rx_io.specs.Outside.{HoldsBytes, HoldsMore, IsMissing, Names}
use Rattle.rx_report.specs.declared.verdicts.Verdict.{Verdict}
use Rattle.rx_cli.specs.Answers.{file_in, functions_in}
use Rattle.rx_cli.specs.Problems.{asked, longest_source, posed}
use Rattle.rx_cli.specs.declared.problems.Problem.{Problem}

-- the text can't be read: a call on the files found a fault, or they don't hold the name, or hold
-- too many bytes
abbrev pub IsUnreadSource : Option Names → Type 0 → List ℕ → Type 0
IsUnreadSource held fault file = fault ⊎ (IsMissing held file ⊎ HoldsMore held file longest_source)

-- what texts pose: a problem, or why they pose none
abbrev pub Posing : Type 1
Posing = List ℕ → Next Verdict Problem → Type 0

-- the text that is held under the name poses this problem
abbrev pub HeldPoses : Option Names → List ℕ → Posing → Problem → Type 0
HeldPoses held file posing problem =
    (source : List ℕ) × HoldsBytes held file source × posing source (Goes problem)

-- the text that is held under the name poses no problem
abbrev pub HeldEnds : Option Names → List ℕ → Posing → Type 0
HeldEnds held file posing =
    (source : List ℕ) × HoldsBytes held file source
    × ((verdict : Verdict) × posing source (Ends verdict))

-- the text under the name can't be read, or poses no problem
abbrev pub LacksProblem : Option Names → Type 0 → List ℕ → Posing → Type 0
LacksProblem held fault file posing = IsUnreadSource held fault file ⊎ HeldEnds held file posing

-- the problem of the functions that a command compares, or that of its rule text
abbrev pub HasProblem : Option Names → Option Command → Problem → Type 0
HasProblem held None problem = ⊥
HasProblem held (Some (Compare comparison)) problem =
    HeldPoses held (functions_in comparison).file (asked (functions_in comparison)) problem
HasProblem held (Some (Rules task)) problem = HeldPoses held (file_in task) posed problem
HasProblem held (Some command) problem = ⊥

-- a command names no text that poses one
abbrev pub HasNone : Option Names → Type 0 → Option Command → Type 0
HasNone held fault None = ⊤
HasNone held fault (Some (Compare comparison)) =
    LacksProblem held fault (functions_in comparison).file (asked (functions_in comparison))
HasNone held fault (Some (Rules task)) = LacksProblem held fault (file_in task) posed
HasNone held fault (Some command) = ⊤

-- the problem that a command poses, if it poses one
abbrev pub Poses : Option Names → Type 0 → Option Command → Option Problem → Type 0
Poses held fault command None = HasNone held fault command
Poses held fault command (Some problem) = HasProblem held command problem

-- Examples: pairs of a loop and a recursion that add up the multiples of a number, and what comes
-- of searches for proofs that both return the same.
use Rattle.std.specs.Prelude.{◌≡◌, ◌<◌, ℕ, zero, suc, ◌+◌, true, false, if◌then◌else◌, None, List, [], ◌∷◌, ◌++◌, codes, ◌%◌, length, get_or}
use Rattle.c_ast.specs.declared.integers.Integers.TheVariants.{Unbounded}
use Rattle.rx_command.specs.Commands.{Functions}
use Rattle.rx_command.specs.declared.command.Effort.{Effort}
use Rattle.rx_report.specs.declared.answer.Answer.{Answer}
use Rattle.rx_cli.specs.declared.examples.Tally.{Tally}
use Rattle.rx_report.specs.declared.ends.Status.{Status}
use Rattle.rx_report.specs.declared.ends.Status.TheVariants as Ends
use Rattle.rx_report.specs.declared.verdicts.Verdict.{Verdict}
use Rattle.rx_report.specs.declared.verdicts.Verdict.TheVariants as Said
use Rattle.rx_cli.specs.Proofs.{IsProved}
use Rattle.rx_report.specs.Ends.{status_in}

-- the number whose multiples the example adds up, as a digit: 1 to 7 in turn
abbrev pub digit : ℕ → ℕ
digit k = 49 + k % 7

-- the text of the example that adds up the multiples of a digit
abbrev pub example_text : ℕ → List ℕ
example_text d =
    codes "int u(int n) { int s = 0; for (int i = 1; i <= n; i++) s += " ++ (d
    ∷ (codes " * i; return s; } int r(int n) { if (n <= 0) return 0; return " ++ (d
    ∷ codes " * n + r(n - 1); }")))

-- that of the example with this number, counted from 0
abbrev pub example_source : ℕ → List ℕ
example_source k = example_text (digit k)

-- its two functions
abbrev pub example_functions : Functions
example_functions =
    record {
      integers = Unbounded;
      file = [];
      first = codes "u";
      second = codes "r";
      precondition = None;
    }

-- how far its search goes
abbrev pub example_effort : Effort
example_effort = record { depth = 4; budget = 100000 }

-- what a search answers to the example with this number
abbrev pub IsExample : ℕ → Answer → Type 0
IsExample k answer = IsProved example_functions example_effort (example_source k) answer

abbrev pub none_yet : Tally
none_yet = record { equivalent = 0; is_large = false }

-- the tally with an answer more, which has this status
abbrev pub with_status : Tally → Status → Tally
with_status tally Ends.Equivalent = record tally { equivalent = tally.equivalent + 1 }
with_status tally Ends.Large = record tally { is_large = true }
with_status tally status = tally

-- how the search for a proof of the example with this number ends
abbrev pub IsStatus : ℕ → Status → Type 0
IsStatus k status = (answer : Answer) × IsExample k answer × (status ≡ status_in answer)

-- the first example with the same text: seven differ
abbrev pub repeats : ℕ → ℕ
repeats k = k % 7

-- how the searches for the first examples end, one by one
abbrev pub AreStatuses : List Status → Type 0
AreStatuses statuses = (k : ℕ) (d : Status) → k < length statuses → IsStatus k (get_or statuses k d)

-- a list with the status of each of n examples, where those with one text have one status
pub record HasStatuses (pairs : ℕ) (statuses : List Status) : Type 0 where
  pub all : (k : ℕ) → k < pairs → repeats k < length statuses
  pub each : AreStatuses statuses

-- the tally of the first examples
abbrev pub IsTally : ℕ → Tally → Type 0
IsTally zero tally = tally ≡ none_yet
IsTally (suc k) tally =
    (before : Tally) × IsTally k before
    × ((status : Status) × IsStatus k status × (tally ≡ with_status before status))

-- what is said of a tally of n examples
abbrev pub verdict_on : ℕ → Tally → Verdict
verdict_on pairs tally =
    if tally.is_large then Said.LargeSearch else Said.Demo pairs tally.equivalent

-- what is said of the first examples
abbrev pub IsShown : ℕ → Verdict → Type 0
IsShown pairs verdict = (tally : Tally) × IsTally pairs tally × (verdict ≡ verdict_on pairs tally)

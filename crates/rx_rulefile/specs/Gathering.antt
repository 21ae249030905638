-- What a reader of a rule text keeps between two lines: the place, and what the lines so far said.
use Rattle.std.specs.Prelude.{◌≡◌, Option, Some, None, List, [], ◌∷◌, ◌++◌, length}
use Rattle.rx_term.specs.declared.rule.Equation.{Equation}
use Rattle.rx_rulefile.specs.RuleTexts.{set_lines}
use Rattle.rx_rulefile.specs.declared.gathered.Gathered.{Gathered}
use Rattle.rx_rulefile.specs.declared.place.Place.{Place}
use Rattle.rx_rulefile.specs.declared.place.Place.TheVariants.{AtHeader, AtFails, InSymbols, InRules, AtEnd, Finished}
use Rattle.rx_rulefile.specs.declared.rule_line.RuleLine.{RuleLine}
use Rattle.rx_rulefile.specs.declared.rule_line.RuleLine.TheVariants as line

-- nothing yet
abbrev pub blank : Gathered
blank = record { parts = record { symbols = []; domains = []; rules = []; fails = 0 }; goal = None }

-- with what a line says
abbrev pub pushed : RuleLine → Gathered → Gathered
pushed line.Header it = it
pushed (line.Fails fails) it = record it { parts = record it.parts { fails = fails } }
pushed (line.Symbol number s) it =
    record it { parts = record it.parts { symbols = it.parts.symbols ++ s ∷ [] } }
pushed (line.Rule rule) it =
    record it { parts = record it.parts { rules = it.parts.rules ++ rule ∷ [] } }
pushed (line.Equation equation) it = record it { goal = Some equation }
pushed line.End it = it

-- the line of the equation, if it has come
abbrev pub goal_lines : Option Equation → List RuleLine
goal_lines None = []
goal_lines (Some equation) = line.Equation equation ∷ []

-- the lines of what was gathered up to a place
abbrev pub lines_to : Place → Gathered → List RuleLine
lines_to AtHeader it = []
lines_to AtFails it = line.Header ∷ []
lines_to (InSymbols next) it = set_lines it.parts
lines_to InRules it = set_lines it.parts
lines_to AtEnd it = set_lines it.parts ++ goal_lines it.goal
lines_to Finished it = set_lines it.parts ++ (goal_lines it.goal ++ line.End ∷ [])

-- this is what was gathered up to a place
abbrev pub IsAt : Place → Gathered → Type 0
IsAt AtHeader it = it ≡ blank
IsAt AtFails it = it ≡ blank
IsAt (InSymbols next) it =
    (next ≡ length it.parts.symbols) × ((it.parts.rules ≡ []) × (it.goal ≡ None))
IsAt InRules it = it.goal ≡ None
IsAt AtEnd it = (equation : Equation) × (it.goal ≡ Some equation)
IsAt Finished it = (equation : Equation) × (it.goal ≡ Some equation)

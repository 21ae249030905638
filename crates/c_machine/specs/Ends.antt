-- How parts of a run and whole runs end.
use Rattle.std.specs.Prelude.{◌≡◌, ℕ, Result, Ok, Err, ℤ}
use Rattle.c_meaning.specs.Counted.{outcome_of}
use Rattle.c_meaning.specs.Runs.{Run, Value, DivisionError, More, Over}
use Rattle.c_meaning.specs.declared.outcomes.Outcome.TheVariants as outcome
use Rattle.c_machine.specs.declared.stop.Stop.{Stop}
use Rattle.c_machine.specs.declared.stop.Stop.TheVariants as stop

-- the run has ended so; without memory nothing is said
abbrev pub EndsBy : Stop → Run ℤ → Type 0
EndsBy stop.DivisionError run = run ≡ DivisionError
EndsBy stop.More run = run ≡ More
EndsBy stop.Over run = run ≡ Over
EndsBy stop.NoMemory run = Unit {0}

-- an operator leads to the number, or ends the run so
abbrev pub GivesNumber : (ℕ → Run ℤ) → Result ℤ Stop → Type 0
GivesNumber run (Ok x) = (left : ℕ) → run left ≡ Value x left
GivesNumber run (Err stop.DivisionError) = (left : ℕ) → run left ≡ DivisionError
GivesNumber run (Err stop.More) = (left : ℕ) → run left ≡ More
GivesNumber run (Err stop.Over) = (left : ℕ) → run left ≡ Over
GivesNumber run (Err stop.NoMemory) = ⊥

-- the outcome of the run is this one; without memory nothing is said
abbrev pub Ends : Run ℤ → Result ℤ Stop → Type 0
Ends run (Ok x) = outcome_of run ≡ outcome.Value x
Ends run (Err stop.DivisionError) = outcome_of run ≡ outcome.DivError
Ends run (Err stop.More) = outcome_of run ≡ outcome.More
Ends run (Err stop.Over) = outcome_of run ≡ outcome.Over
Ends run (Err stop.NoMemory) = Unit {0}

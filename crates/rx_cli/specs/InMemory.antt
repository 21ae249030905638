-- Why a run over memory whose lists are empty ends with a fault.
use Rattle.std.specs.Prelude.{◌<◌, ℕ, Some, List, length}
use Rattle.rx_io.specs.Outside.{AppendsPrefix, Names}
use Rattle.rx_report.specs.declared.ends.Status.{Status}
use Rattle.rx_report.specs.declared.ends.Status.TheVariants as Ends
use Rattle.rx_cli.specs.Run.{Reports}

-- what is held is answered by a read fault: the file that the words name isn't held, or the log
-- that a check or a replay of it comes to isn't
abbrev pub IsAbsent : Names → List (List ℕ) → Type 0
IsAbsent names words = (text : List ℕ) × Reports (Some names) ⊥ words Ends.ReadFault text

-- the report of what is held is longer than the room, and a part of it was written
abbrev pub IsTooLong : Names → List (List ℕ) → List ℕ → List ℕ → ℕ → Type 0
IsTooLong names words old new room =
    (meant : Status) × (text : List ℕ) × Reports (Some names) ⊥ words meant text
    × (room < length text) × AppendsPrefix (Some old) (Some new) text

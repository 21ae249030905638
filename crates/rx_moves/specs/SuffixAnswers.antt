-- What the answers say of calls that compare the parts of two terms.
use Rattle.std.specs.Prelude.{◌≡◌, ◌==◌, if◌then◌else◌, List}
use Rattle.std.specs.List.{zip}
use Rattle.rx_cert.specs.Findings.{Said, Yes, No, Beyond}
use Rattle.rx_row.specs.declared.row.Row.{Row}
use Rattle.rx_moves.specs.Suffixes as suffixes
use Rattle.rx_moves.specs.Suffixes.{equals_shown}
use Rattle.rx_moves.specs.declared.finding.Equality.{Equality}
use Rattle.rx_moves.specs.declared.finding.Equality.TheVariants.{Shown, NotShown, TooLarge}
use Rattle.rx_moves.specs.declared.finding.Part.{Part}

-- the part, wherever its polynomials are borrowed from
abbrev pub part_of : Part → suffixes.Part
part_of part = record { symbol = part.symbol; arguments = part.arguments.now }

-- the two parts have one symbol and their polynomials are shown equal
abbrev pub part_said : List Row → suffixes.Part → suffixes.Part → Said
part_said given part other =
    if part.symbol == other.symbol then equals_shown given (zip part.arguments other.arguments) else
    No

-- the answer says this
abbrev pub SaysEqual : Said → Equality → Type 0
SaysEqual said Shown = said ≡ Yes
SaysEqual said NotShown = said ≡ No
SaysEqual said TooLarge = said ≡ Beyond

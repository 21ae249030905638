-- What comes of looking for trees, and how that of parts makes that of the whole.
use Rattle.std.specs.Prelude.{Bool, true, false, ◌||◌, if◌then◌else◌}
use Rattle.rx_cert.specs.Findings.{Said, Yes, No, Beyond}

-- whether there are trees, and whether something on the way passed the limits
pub record Coverage : Type 0 where
  pub covered : Bool
  pub noted : Bool

-- there are, and nothing passed the limits
abbrev pub holds : Coverage
holds = record { covered = true; noted = false }

-- there are none
abbrev pub fails : Coverage
fails = record { covered = false; noted = false }

-- there are none, because something passes the limits
abbrev pub beyond : Coverage
beyond = record { covered = false; noted = true }

-- what a refuter says: where it passes the limits, that counts as a no, and is noted
abbrev pub as_said : Said → Coverage
as_said Yes = holds
as_said No = fails
as_said Beyond = beyond

-- what is found later, with what was noted before
abbrev pub noting : Bool → Coverage → Coverage
noting before later = record { covered = later.covered; noted = before || later.noted }

-- the first, or else the later
abbrev pub or_else : Coverage → Coverage → Coverage
or_else first later = if first.covered then first else noting first.noted later

-- the first and then the later; where the first has no trees, the later isn't looked at
abbrev pub and_then : Coverage → Coverage → Coverage
and_then first later = if first.covered then noting first.noted later else first

-- what is formed first keeps the limits, or nothing after it is looked at
abbrev pub formed_then : Bool → Coverage → Coverage
formed_then true later = later
formed_then false later = beyond

-- Rows that a new equation has to have, as those that put it inside the domains: the old rows must
-- show the instance of each.
use Rattle.std.specs.Prelude.{ℕ, if◌then◌else◌, Option, Some, None, List, [], ◌∷◌}
use Rattle.rx_plain.specs.Formed.{Formed}
use Rattle.rx_poly.specs.declared.body.Body.{Body}
use Rattle.rx_row.specs.Membership.{pushed}
use Rattle.rx_row.specs.declared.row.Row.{Row}
use Rattle.rx_cert.specs.Findings.{Said, Yes, No, Beyond}
use Rattle.rx_lemma.specs.RuleRows.{instance_said}

-- what comes of the rows that are found; there may be none, or something passes the limits
abbrev pub then_found : (List Row → Option (Option (List Row))) → Option (Option (List Row)) →
    Option (Option (List Row))
then_found next None = None
then_found next (Some None) = Some None
then_found next (Some (Some rows)) = next rows

module _ (ws : List (ℕ × Body)) (old : List Row) where
  -- the rows with the row where it is shown; there are none where it isn't
  abbrev pub required_if : Said → Row → List Row → Option (Option (List Row))
  required_if Yes r rows = Some (Some (pushed rows r))
  required_if No r rows = Some None
  required_if Beyond r rows = None

  unfoldable pub row_required : Row → List Row → Option (Option (List Row))
  row_required r rows = required_if (instance_said ws old r) r rows

  -- all of them, one after the other, up to the first that isn't shown
  abbrev pub rows_required : List Row → List Row → Option (Option (List Row))
  rows_required [] rows = Some (Some rows)
  rows_required (r ∷ rs) rows = then_found (rows_required rs) (row_required r rows)

  -- of formed rows
  abbrev pub formed_required : Formed (List Row) → List Row → Option (Option (List Row))
  formed_required more rows = if more.within then rows_required more.form rows else None

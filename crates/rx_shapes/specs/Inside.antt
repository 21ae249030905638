-- The rows that put the general sides of a shape inside the domains. They are bounds of the shape,
-- those of a number too, and each goal has to show them.
use Rattle.std.specs.Prelude.{Bool, Option, Some, List}
use Rattle.std.specs.List.{list_all}
use Rattle.rx_row.specs.Membership.{stands_among}
use Rattle.rx_row.specs.declared.row.Row.{Row}
use Rattle.rx_term.specs.Domains.{inside_of}
use Rattle.rx_term.specs.declared.rule_set.RuleParts.{RuleParts}
use Rattle.rx_inference.specs.Pieces.{all_pushed}
use Rattle.rx_relations.specs.Applying.{form_within}
use Rattle.rx_shapes.specs.Options.{◌>>=◌}
use Rattle.rx_shapes.specs.declared.followed.Followed.{Followed}

-- the shape with these rows, behind its other bounds
abbrev pub with_inside_rows : Followed → List Row → Followed
with_inside_rows f rows =
    record f { inside = rows; bounds = all_pushed f.bounds rows }

abbrev pub with_inside : RuleParts → Followed → Option Followed
with_inside parts f = do
  rows ← form_within (inside_of parts f.general)
  Some (with_inside_rows f rows)

-- they are bounds still: so far each goal shows them
abbrev pub stays_inside : Followed → Bool
stays_inside f = list_all (stands_among f.bounds) f.inside

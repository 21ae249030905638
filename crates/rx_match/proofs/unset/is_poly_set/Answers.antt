-- A variable alone is looked up at once.
use Rattle.std.proofs.Common.{◌∙◌, refl}
use Rattle.rx_match.specs.Settings.{is_set}
use Rattle.rx_match.proofs.VariableTests.{variable_passes}
use Rattle.rx_match.proofs.unset.is_poly_set.Goals as goal

pub returns-in-Some : goal.returns-in-Some
returns-in-Some c =
    c.is_set.ensures ∙ variable_passes (is_set c.args.settings.now) c.args.poly.now
    c.in-Some.variable ((c.in-Some.ensures.exact c.in-Some.variable).0 refl)

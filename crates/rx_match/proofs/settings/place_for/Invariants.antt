-- The settings so far are all of lower numbers.
use Rattle.std.proofs.Common.{◌≡◌, ◌+◌, drop}
use Rattle.rx_match.specs.Settings.{place_for}
use Rattle.rx_match.proofs.settings.place_for.Given as goal

abbrev pub invariant-loop-set : goal.invariant-loop-set
invariant-loop-set l = record {
  count : l.place ≡ l.set-index;
  decides : l.place + place_for l.variable (drop l.set-index l.settings) ≡
      place_for l.variable l.settings;
}

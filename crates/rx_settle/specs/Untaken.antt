-- Trials that take no step.
use Rattle.std.specs.Prelude.{◌≡◌, Bool, true, None, Result, Ok, Err, is_some}
use Rattle.rx_settle.specs.declared.trial.Trial.{Trial}

-- no step is taken, and that is noted or not; or one is, and the trial is as before
abbrev pub IsUntaken : Trial → Result Bool Trial → Type 0
IsUntaken trial (Ok noted) = trial ≡ record { taken = None; noted = noted }
IsUntaken trial (Err same) = (same ≡ trial) × (is_some same.taken ≡ true)

-- What an answer says of whether there are ranks.
use Rattle.std.specs.Prelude.{◌≡◌, Bool, true, false, Result, Ok, Err}
use Rattle.rx_cert.specs.Findings.{Said, Yes, No, Beyond}
use Rattle.rx_fm.specs.declared.fm_end.FmEnd.{FmEnd}
use Rattle.rx_fm.specs.declared.fm_end.FmEnd.TheVariants.{Large}

-- there are some exactly where that is said; that memory runs out is free
abbrev pub HasRanksAnswer : Said → Result Bool FmEnd → Type 0
HasRanksAnswer said (Ok false) = said ≡ No
HasRanksAnswer said (Ok true) = said ≡ Yes
HasRanksAnswer said (Err e) = e ≡ Large → said ≡ Beyond

-- Where the lines of a log begin that come before its steps.
use Rattle.std.specs.Prelude.{◌+◌, length, option_map, unwrap_or}
use Rattle.rx_domain.specs.declared.domains.Domains.{Domains}
use Rattle.rx_log.specs.declared.log.Log.{Log}
use Rattle.rx_logstate.specs.declared.front_lines.Fronts.{Fronts}

-- the header comes first
abbrev pub after_header : Fronts
after_header = record { keeps = 2; covers = 2 }

-- domains come behind it, and then what keeps them
abbrev pub after_domains : Domains → Fronts
after_domains domains = record {
  keeps = 2 + length domains.rows;
  covers = 2 + length domains.rows + length domains.keeps;
}

-- in a log, which has domains or not
abbrev pub fronts_of : Log → Fronts
fronts_of log = unwrap_or (option_map after_domains log.domains) after_header

-- with one domain more
abbrev pub after_domain : Fronts → Fronts
after_domain fronts = record { keeps = fronts.keeps + 1; covers = fronts.covers + 1 }

-- with one list of certificates more
abbrev pub after_keep : Fronts → Fronts
after_keep fronts = record { keeps = fronts.keeps; covers = fronts.covers + 1 }

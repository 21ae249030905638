-- What the answers of a search for ranks say.
use Rattle.std.specs.Prelude.{◌≡◌, ◌≤◌, ◌++◌, All, Option, Some, None, Result, Ok, Err, List}
use Rattle.rx_cert.specs.Depth.{cert_depth}
use Rattle.rx_cert.specs.Findings.{Said, Yes, No, Beyond}
use Rattle.rx_cert.specs.declared.cert.Cert.{Cert}
use Rattle.rx_fm.specs.declared.fm_end.FmEnd.{FmEnd}
use Rattle.rx_fm.specs.declared.fm_end.FmEnd.TheVariants.{Large}
use Rattle.rx_pairs.specs.Inside.{descends_in}
use Rattle.rx_pairs.specs.Lowering.{Descends}
use Rattle.rx_pairs.specs.Ranks.{bad_rank}
use Rattle.rx_pairs.specs.declared.pair_cert.PairCert.{PairCert}
use Rattle.rx_pairs.specs.declared.table.RankTable.{RankTable}
use Rattle.rx_find_ranks.specs.declared.ranking.Ranking.{Ranking}
use Rattle.rx_solve.specs.Bounds.{most_deep}
use Rattle.rx_term.specs.declared.rule.Rule.{Rule}
use Rattle.rx_term.specs.declared.rule_set.RuleParts.{RuleParts}

-- an answer that says whether ranks are found; that memory runs out is free
abbrev pub RanksAnswer : Said → Result (Option Ranking) FmEnd → Type 0
RanksAnswer said (Ok None) = said ≡ No
RanksAnswer said (Ok (Some found)) = said ≡ Yes
RanksAnswer said (Err e) = e ≡ Large → said ≡ Beyond

-- the table has one to fifteen columns
pub record HasColumns (table : RankTable) : Type 0 where
  pub some : 1 ≤ table.columns
  pub few : table.columns ≤ 15

-- the ranks are lawful for the symbols, and all pairs of the rules and of the hypotheses inside the
-- domains are lower by them, by certificates that are at most 174 deep
pub record LowersAll (parts : RuleParts) (hypotheses : List Rule) (found : Ranking) : Type 0 where
  pub lawful : bad_rank parts found.table ≡ None
  pub lower : descends_in parts (parts.rules ++ hypotheses) found.table found.certs ≡ Descends
  pub deep : All (λ (c : PairCert). All (λ (cert : Cert). cert_depth cert ≤ most_deep) c.certs)
      found.certs

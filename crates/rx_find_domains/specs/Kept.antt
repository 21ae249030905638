-- Domains that are kept as the refuter shows it, with the certificates of that.
use Rattle.std.specs.Prelude.{◌≡◌, true, List}
use Rattle.std.specs.List.{All, AllZip}
use Rattle.rx_cert.specs.Findings.{Yes}
use Rattle.rx_cert.specs.Showing.{all_shown}
use Rattle.rx_cert.specs.declared.cert.Cert.{Cert}
use Rattle.rx_solve.specs.Answers.{AreCertificates}
use Rattle.rx_solve.specs.Bounds.{most_deep}
use Rattle.rx_solve.specs.Refuter.{refuted}
use Rattle.rx_term.specs.declared.rule.Equation.{Equation}
use Rattle.rx_term.specs.declared.rule_set.RuleParts.{RuleParts}
use Rattle.rx_domain.specs.Keeping.{KeptPart, parts_kept}

-- the rows that put the part inside are formed within the limits, and the refuter shows them
pub record IsShown (p : KeptPart) : Type 0 where
  pub within : p.asked.within ≡ true
  pub shows : all_shown refuted p.given p.asked.form ≡ Yes

abbrev pub AreAllShown : RuleParts → Equation → Type 0
AreAllShown parts goal = All IsShown (parts_kept parts goal)

-- with these certificates they follow from those that are given
abbrev pub AreKeeps : KeptPart → List Cert → Type 0
AreKeeps p certs = AreCertificates most_deep p.given p.asked.form certs

abbrev pub AreAllKeeps : RuleParts → Equation → List (List Cert) → Type 0
AreAllKeeps parts goal lists = AllZip AreKeeps (parts_kept parts goal) lists

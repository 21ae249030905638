-- What the answers to the calls say.
use Rattle.std.specs.Prelude.{◌≡◌, Some, None, Result, Ok, Err, List}
use Rattle.rx_row.specs.declared.row.Row.{Row}
use Rattle.rx_term.specs.declared.rule_set.RuleParts.{RuleParts}
use Rattle.rx_domain.specs.Keeping.{Keeping, Keeps, Fails, PassesLimits}
use Rattle.rx_domain.specs.Setting.{bad_domain, with_domains}
use Rattle.rx_domain.specs.declared.domain_end.DomainEnd.{DomainEnd}
use Rattle.rx_domain.specs.declared.domain_end.DomainEnd.TheVariants.{BadDomain, NotKept, Large, NoMemory}

-- the rule set with these domains, or the first symbol whose domain is bad; out of memory says
-- nothing
abbrev pub Sets : RuleParts → List (List Row) → Result RuleParts DomainEnd → Type 0
Sets parts lists (Ok set) =
    (bad_domain parts.symbols lists ≡ None) × (set ≡ with_domains parts lists)
Sets parts lists (Err (BadDomain f)) = bad_domain parts.symbols lists ≡ Some f
Sets parts lists (Err (NotKept k)) = ⊥
Sets parts lists (Err (Large k)) = ⊥
Sets parts lists (Err NoMemory) = Unit {0}

-- each answer names what is so
abbrev pub Tells : Keeping → Result (Unit {0}) DomainEnd → Type 0
Tells c (Ok _) = c ≡ Keeps
Tells c (Err (BadDomain f)) = ⊥
Tells c (Err (NotKept k)) = c ≡ Fails k
Tells c (Err (Large k)) = c ≡ PassesLimits k
Tells c (Err NoMemory) = Unit {0}

-- Rules that keep the domains: the rows that put the goal inside follow from its own, and those
-- that put a right side inside follow from the rule's own and from the domain of its left root.
-- Each list of such rows takes one certificate for each that isn't plain.
use Rattle.std.specs.Prelude.{ℕ, ◌+◌, Some, List, [], ◌∷◌, ◌++◌, map, slice_get}
use Rattle.std.specs.Option.{option_map_or}
use Rattle.rx_plain.specs.Formed.{Formed}
use Rattle.rx_row.specs.declared.row.Row.{Row}
use Rattle.rx_cert.specs.Conditions.{conditions, is_shown}
use Rattle.rx_cert.specs.Findings.{Said, Yes, No, Beyond, guard}
use Rattle.rx_cert.specs.declared.cert.Cert.{Cert}
use Rattle.rx_term.specs.Domains.{domain_of, inside_of, inside_rows}
use Rattle.rx_term.specs.Stacks.{root_of}
use Rattle.rx_term.specs.declared.rule.Equation.{Equation}
use Rattle.rx_term.specs.declared.rule.Rule.{Rule}
use Rattle.rx_term.specs.declared.rule_set.RuleParts.{RuleParts}
use Rattle.rx_term.specs.declared.term.Sym.{Sym}

-- ---- the parts

-- the rows that are given, and those that are to follow from them
pub record KeptPart : Type 0 where
  pub given : List Row
  pub asked : Formed (List Row)

-- the domain of a left side's outermost symbol: its arguments are v0, v1, .. there
abbrev pub root_domain : RuleParts → Rule → List Row
root_domain parts rule = option_map_or (λ (f : Sym). domain_of parts f.0) (root_of rule.left) []

abbrev pub goal_part : RuleParts → Equation → KeptPart
goal_part parts goal = record { given = goal.rows; asked = inside_of parts goal }

abbrev pub rule_part : RuleParts → Rule → KeptPart
rule_part parts rule = record {
  given = rule.rows ++ root_domain parts rule;
  asked = inside_rows parts rule.right;
}

-- the goal is the first part, and then come the rules in order
abbrev pub parts_kept : RuleParts → Equation → List KeptPart
parts_kept parts goal = goal_part parts goal ∷ map (rule_part parts) parts.rules

-- ---- what is found of them

-- the rows are formed within the limits, and then they are shown
abbrev pub part_finding : KeptPart → List Cert → Said
part_finding p certs =
    guard p.asked.within (is_shown (conditions p.given (Some p.asked.form) certs))

-- the same of the part with that number; a part that isn't there is not shown
abbrev pub one_kept : RuleParts → Equation → ℕ → List Cert → Said
one_kept parts goal k certs =
    option_map_or (λ (p : KeptPart). part_finding p certs) (slice_get (parts_kept parts goal) k) No

-- all parts are shown, or the first that isn't, or the first at which the limits are passed
pub data Keeping : Type 0 where
  Keeps : Keeping
  Fails : ℕ → Keeping
  PassesLimits : ℕ → Keeping

abbrev pub goes_on : ℕ → Said → Keeping → Keeping
goes_on k Beyond rest = PassesLimits k
goes_on k Yes rest = rest
goes_on k No rest = Fails k

-- the parts in order, the first having that number; a part without a list fails, and none of its
-- rows is formed, and the number of parts fails where there are more lists
abbrev pub keeping_from : ℕ → List KeptPart → List (List Cert) → Keeping
keeping_from k [] [] = Keeps
keeping_from k [] (certs ∷ lists) = Fails k
keeping_from k (part ∷ parts) [] = Fails k
keeping_from k (part ∷ parts) (certs ∷ lists) =
    goes_on k (part_finding part certs) (keeping_from (k + 1) parts lists)

abbrev pub keeping : RuleParts → Equation → List (List Cert) → Keeping
keeping parts goal lists = keeping_from 0 (parts_kept parts goal) lists

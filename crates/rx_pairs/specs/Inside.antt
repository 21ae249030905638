-- The pairs of rules inside the domains: the domain of a rule's left root, at the arguments there,
-- stands behind the rule's own rows. Ranks need to fall only where all of these hold.
use Rattle.std.specs.Prelude.{Bool, true, false, ◌||◌, if◌then◌else◌, ℕ, ◌+◌, List, [], ◌∷◌, ◌++◌}
use Rattle.std.specs.Option.{option_map_or}
use Rattle.rx_plain.specs.Formed.{Formed, pure, ◌<$>◌}
use Rattle.rx_row.specs.declared.row.Row.{Row}
use Rattle.rx_term.specs.Domains.{rows_at}
use Rattle.rx_term.specs.declared.rule.Rule.{Rule}
use Rattle.rx_term.specs.declared.rule_set.RuleParts.{RuleParts}
use Rattle.rx_pairs.specs.Listed.{pairs_by, root_part_of}
use Rattle.rx_pairs.specs.Lowering.{Descent, Descends, NotLower, PassesLimits, goes_on, lower_finding}
use Rattle.rx_pairs.specs.Pairs.{Part}
use Rattle.rx_pairs.specs.declared.listing.Listing.{Listing}
use Rattle.rx_pairs.specs.declared.pair.Pair.{Pair}
use Rattle.rx_pairs.specs.declared.pair_cert.PairCert.{PairCert}
use Rattle.rx_pairs.specs.declared.table.RankTable.{RankTable}

-- ---- one rule

-- the domain of the left root's symbol at its arguments, which in a hypothesis are any
abbrev pub root_rows : RuleParts → Rule → Formed (List Row)
root_rows parts rule =
    option_map_or (λ (root : Part). rows_at parts root.symbol.0 root.arguments)
    (root_part_of rule.left) (pure [])

-- the rule's rows, and behind them the domain of this root's symbol at its arguments
abbrev pub bounded_rows : RuleParts → Rule → Part → Formed (List Row)
bounded_rows parts rule root =
    (λ rows. rule.rows ++ rows) <$> rows_at parts root.symbol.0 root.arguments

-- the rule under more rows, behind its own
abbrev pub with_more_rows : Rule → List Row → Rule
with_more_rows rule rows =
    record { left = rule.left; right = rule.right; rows = rule.rows ++ rows }

-- the rule where its left root meets its domain
abbrev pub bounded : RuleParts → Rule → Rule
bounded parts rule = with_more_rows rule (root_rows parts rule).form

abbrev pub is_empty : List Pair → Bool
is_empty [] = true
is_empty (pair ∷ pairs) = false

-- its pairs there; a rule without pairs forms nothing
abbrev pub pairs_in : RuleParts → Rule → Formed (List Pair)
pairs_in parts rule = record {
  form = pairs_by (bounded parts rule);
  within = is_empty (pairs_by rule) || (root_rows parts rule).within;
}

-- ---- a list of rules

-- the pairs of a rule before those of the others; where they pass the limits the list ends
abbrev pub listed_before : Formed (List Pair) → Listing → Listing
listed_before f rest =
    if f.within then record { pairs = f.form ++ rest.pairs; whole = rest.whole }
    else record { pairs = []; whole = false }

-- the pairs of the rules up to the first rule whose pairs pass the limits, and whether these are
-- all
abbrev pub listing : RuleParts → List Rule → Listing
listing parts [] = record { pairs = []; whole = true }
listing parts (rule ∷ rules) = listed_before (pairs_in parts rule) (listing parts rules)

-- ---- whether all are lower

-- behind the last pair that is listed: where these aren't all, the next passes the limits, with a
-- certificate or without
abbrev pub at_end : Bool → ℕ → List PairCert → Descent
at_end false i certs = PassesLimits i
at_end true i [] = Descends
at_end true i (cert ∷ certs) = NotLower i

-- the pairs in order, the first having that number; a pair without a certificate is not lower, and
-- neither is the number of pairs where there are more certificates
abbrev pub descent_in : RankTable → Bool → ℕ → List Pair → List PairCert → Descent
descent_in table whole i [] certs = at_end whole i certs
descent_in table whole i (pair ∷ pairs) [] = NotLower i
descent_in table whole i (pair ∷ pairs) (cert ∷ certs) =
    goes_on i (lower_finding pair table cert) (descent_in table whole (i + 1) pairs certs)

-- the pairs of the rules inside the domains
abbrev pub descends_in : RuleParts → List Rule → RankTable → List PairCert → Descent
descends_in parts rules table certs =
    descent_in table (listing parts rules).whole 0 (listing parts rules).pairs certs

-- Whether a rule set is coverable: for each shape a tree is found so. At a path the first rule of
-- the shape whose rows the refuter shows is used. Where there is none, the path is split by the
-- first row of these rules that is open. Where none is, or no split is left, the refuter is to
-- refute the path.
use Rattle.std.specs.Prelude.{ℕ, zero, suc, ◌+◌, Bool, not, ◌||◌, Option, Some, None, List, [], ◌∷◌, ◌++◌, map}
use Rattle.std.specs.List.{find}
use Rattle.std.specs.Option.{option_or}
use Rattle.rx_row.specs.Membership.{stands_among}
use Rattle.rx_row.specs.Negation.{negation, negation_within}
use Rattle.rx_row.specs.declared.row.Row.{Row}
use Rattle.rx_cert.specs.Conditions.{is_plain_row}
use Rattle.rx_cert.specs.Showing.{all_shown}
use Rattle.rx_term.specs.Domains.{domain_of}
use Rattle.rx_term.specs.Paired.{rules_of_shape}
use Rattle.rx_term.specs.Shapes.{Shape}
use Rattle.rx_term.specs.declared.rule.Rule.{Rule}
use Rattle.rx_term.specs.declared.rule_set.RuleParts.{RuleParts}
use Rattle.rx_term.specs.declared.rule_set.SymInfo.{SymInfo}
use Rattle.rx_cover.specs.Covering.{redex_shapes, symbol}
use Rattle.rx_solve.specs.Refuter.{refuted}
use Rattle.rx_find_cover.specs.Coverage.{Coverage, and_then, as_said, fails, formed_then, holds, or_else}

-- a rule is used whose rows all follow from the path's, in the order of the rules
abbrev pub using : List Row → List Rule → Coverage
using path [] = fails
using path (rule ∷ rules) = or_else (as_said (all_shown refuted path rule.rows)) (using path rules)

-- neither plain nor the negation of a row of the path
abbrev pub is_open : List Row → Row → Bool
is_open path row = not (is_plain_row path row || stands_among (map negation path) row)

-- the first row that is, in the order of the rules
abbrev pub first_open : List Row → List Rule → Option Row
first_open path [] = None
first_open path (rule ∷ rules) = option_or (find (is_open path) rule.rows) (first_open path rules)

-- the branch with the row, and then the one with its negation, which is formed for it; without a
-- row the path is refuted
abbrev pub splitting : Option Row → (List Row → Coverage) → List Row → Coverage
splitting None branch path = as_said (refuted path)
splitting (Some row) branch path =
    and_then (branch (path ++ row ∷ [])) (formed_then (negation_within row)
    (branch (path ++ negation row ∷ [])))

-- whether a tree is found at the path by these rules, with at most n splits on a way from here
unfoldable pub covering_at : List Rule → ℕ → List Row → Coverage
covering_at rules zero path = or_else (using path rules) (as_said (refuted path))
covering_at rules (suc n) path =
    or_else (using path rules) (splitting (first_open path rules) (covering_at rules n) path)

-- what is found at a path at which no rule is used
abbrev pub unless_used : List Rule → ℕ → List Row → Coverage
unless_used rules zero path = as_said (refuted path)
unless_used rules (suc n) path = splitting (first_open path rules) (covering_at rules n) path

-- how many splits a way through a tree has at most
abbrev pub most_splits : ℕ
most_splits = 32

-- the shapes in order at the path, by the rules of each
abbrev pub shapes_coverage : List Rule → List Row → List Shape → Coverage
shapes_coverage rules path [] = holds
shapes_coverage rules path (shape ∷ shapes) =
    and_then (covering_at (rules_of_shape shape rules) most_splits path)
    (shapes_coverage rules path shapes)

-- the symbols in order, the first having that number; the path of each begins with its domain
abbrev pub symbols_coverage : RuleParts → ℕ → List SymInfo → Coverage
symbols_coverage parts f [] = holds
symbols_coverage parts f (info ∷ infos) =
    and_then (shapes_coverage parts.rules (domain_of parts f)
    (redex_shapes (symbol f) info.frame parts.fails))
    (symbols_coverage parts (f + 1) infos)

abbrev pub coverage : RuleParts → Coverage
coverage parts = symbols_coverage parts 0 parts.symbols

-- trees are found for all
abbrev pub is_coverable : RuleParts → Bool
is_coverable parts = (coverage parts).covered

-- Rows that may hold at all goals of a shape, since the rules of its calls test them: those of the
-- rules of both calls' components, at the calls' places, as they are and one further.
use Rattle.std.specs.Prelude.{ℕ, Bool, false, Option, Some, None, if◌then◌else◌, List, [], ◌∷◌, ◌++◌, length, nat_le, pos, negsuc}
use Rattle.std.specs.List.{fold}
use Rattle.std.specs.Option.{option_map_or, is_some}
use Rattle.rx_plain.specs.Formed.{Formed, pure, kept, ◌>>=◌, ◌<$>◌, fold_formed}
use Rattle.rx_poly.specs.Constants.{number}
use Rattle.rx_poly.specs.Limits.{body_sum, is_within, scaled_by}
use Rattle.rx_poly.specs.Reading.{constant_of}
use Rattle.rx_poly.specs.Substitution.{numbered}
use Rattle.rx_poly.specs.declared.body.Body.{Body, out-Body}
use Rattle.rx_row.specs.Membership.{pushed}
use Rattle.rx_row.specs.Parts.{poly_of}
use Rattle.rx_row.specs.Substitution.{row_with}
use Rattle.rx_row.specs.Variables.{row_bound}
use Rattle.rx_row.specs.declared.row.Row.{Row}
use Rattle.rx_row.specs.declared.row.Row.TheVariants.{Ge, Ne}
use Rattle.rx_term.specs.Stacks.{root_of}
use Rattle.rx_term.specs.declared.rule.Rule.{Rule}
use Rattle.rx_term.specs.declared.rule_set.RuleParts.{RuleParts}
use Rattle.rx_term.specs.declared.term.Sym.{Sym}
use Rattle.rx_pairs.specs.Loops.{in_one_component}
use Rattle.rx_lemma.specs.Calls.{Applied, call_of}
use Rattle.rx_shapes.specs.declared.general.GeneralSides.{GeneralSides}

-- ---- one row of a rule

-- p >= 0 and p + 1 >= 0
abbrev pub at_least : Body → Formed (List Row)
at_least p =
    (λ q. Ge p ∷ Ge q ∷ []) <$> kept is_within (body_sum p (number (pos 1)))

-- p != 0, p >= 0 and -p >= 0
abbrev pub apart : Body → Formed (List Row)
apart p = (λ q. Ne p ∷ Ge p ∷ Ge q ∷ []) <$> kept is_within (scaled_by (negsuc 0) p)

-- what may hold where the rule's row is tested
abbrev pub tested_by : Row → Formed (List Row)
tested_by (Row.Ge p) = at_least p
tested_by (Row.Eq p) = apart p
tested_by (Row.Ne p) = apart p

-- ---- the rules of a call

-- the row at the call's places
abbrev pub tested_at : List Body → Row → Formed (List Row)
tested_at args row = do
  r ← row_with (numbered args) row
  tested_by r

-- rows that speak of other variables than the call's places are passed over
abbrev pub tested_where : Bool → List Body → List Row → Row → Formed (List Row)
tested_where b args rows row =
    if b then (λ more. rows ++ more) <$> tested_at args row else pure rows

abbrev pub with_row : List Body → List Row → Row → Formed (List Row)
with_row args rows row = tested_where (nat_le (row_bound row) (length args)) args rows row

-- the symbol is in the component
abbrev pub is_with : RuleParts → ℕ → Option Sym → Bool
is_with parts f root = option_map_or (λ (g : Sym). in_one_component parts g.0 f) root false

-- rules of other components are passed over
abbrev pub with_rule : RuleParts → Applied → List Row → Rule → Formed (List Row)
with_rule parts call rows rule =
    if is_with parts call.symbol.0 (root_of rule.left)
    then fold_formed (with_row call.arguments) rows rule.rows
    else pure rows

-- a side that ends in a result has no call
abbrev pub with_call : RuleParts → List Row → Option Applied → Formed (List Row)
with_call parts rows None = pure rows
with_call parts rows (Some call) = fold_formed (with_rule parts call) rows parts.rules

-- the rows of the rules of both calls, the left one's first
abbrev pub rule_bounds : RuleParts → GeneralSides → Formed (List Row)
rule_bounds parts sides = do
  rows ← with_call parts [] (call_of sides.left)
  with_call parts rows (call_of sides.right)

-- ---- which of them are kept

-- the polynomial is a number
abbrev pub is_number : Body → Bool
is_number p = is_some (constant_of (out-Body p).terms)

-- a row of a number says nothing, and a row that stands already nothing more
abbrev pub added : List Row → Row → List Row
added rows row = if is_number (poly_of row) then rows else pushed rows row

abbrev pub distinct : List Row → List Row
distinct rows = fold added [] rows

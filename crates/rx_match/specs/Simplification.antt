-- Terms that rules simplify without a choice: at the redex, as long as one rule alone has its shape
-- and asks nothing.
use Rattle.std.specs.Prelude.{ℕ, zero, suc, Option, Some, None, List, [], ◌∷◌}
use Rattle.rx_plain.specs.Formed.{Formed, pure, ◌>>=◌, ◌<$>◌}
use Rattle.rx_poly.specs.declared.body.Body.{Body}
use Rattle.rx_row.specs.declared.row.Row.{Row}
use Rattle.rx_term.specs.Meaning.{matched, redex_of}
use Rattle.rx_term.specs.Paired.{rules_of_shape}
use Rattle.rx_term.specs.Shapes.{shape_of}
use Rattle.rx_term.specs.Stacks.{replace_redex}
use Rattle.rx_term.specs.declared.rule.Rule.{Rule}
use Rattle.rx_term.specs.declared.term.Term.{Term, Term-F, out-Term}
use Rattle.rx_inference.specs.Pieces.{rule_with}
use Rattle.rx_inference.specs.declared.pieces.RuleInstance.{RuleInstance}

-- ---- which rule

-- the rule, where these are its rows and there are none
abbrev pub if_free : Rule → List Row → Option Rule
if_free rule [] = Some rule
if_free rule (row ∷ rows) = None

-- the only rule of a list, where it has no rows
abbrev pub only_free : List Rule → Option Rule
only_free [] = None
only_free (rule ∷ []) = if_free rule rule.rows
only_free (rule ∷ other ∷ others) = None

-- the rule that alone has the redex's shape, where it has no rows
abbrev pub free_rule : List Rule → Term → Option Rule
free_rule rules redex = only_free (rules_of_shape (shape_of redex) rules)

-- ---- one step

-- the rule's right side in place of the redex
abbrev pub simplified_by : Term → Term → Option Rule → Formed (Option Term)
simplified_by t redex None = pure None
simplified_by t redex (Some rule) =
    (λ (i : RuleInstance). Some (replace_redex t i.right)) <$> rule_with (matched redex) rule

abbrev pub simplified_at : List Rule → Term → Option Term → Formed (Option Term)
simplified_at rules t None = pure None
simplified_at rules t (Some redex) = simplified_by t redex (free_rule rules redex)

-- a term, simplified at its redex by that rule; none where it has no redex, or that no such rule
abbrev pub simplified : List Rule → Term → Formed (Option Term)
simplified rules t = simplified_at rules t (redex_of t)

-- ---- all steps

-- what comes of the next term, or the term itself
abbrev pub then_on : Term → Option Term → (Term → Formed Term) → Formed Term
then_on t None further = pure t
then_on t (Some next) further = further next

-- simplified at most n times
unfoldable pub simplified_often : List Rule → ℕ → Term → Formed Term
simplified_often rules zero t = pure t
simplified_often rules (suc n) t = do
  next ← simplified rules t
  then_on t next (simplified_often rules n)

-- ---- results

-- what a term returns, where it is a returned value
abbrev pub returned_level : Term-F Term → Option Body
returned_level (Term-F.Return p) = Some p
returned_level (Term-F.Fail c) = None
returned_level (Term-F.Call f ps) = None
returned_level (Term-F.Frame f ps inner) = None

abbrev pub returned : Term → Option Body
returned t = returned_level (out-Term t)

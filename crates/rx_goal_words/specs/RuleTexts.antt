-- Rules with their numbers, a line each.
use Rattle.std.specs.Prelude.{ℕ, ◌+◌, Bool, true, false, ◌==◌, Option, Some, None, List, [], ◌∷◌, ◌++◌, codes, decimal, if◌then◌else◌}
use Rattle.std.specs.List.{flat_map}
use Rattle.rx_inference.specs.Pieces.{have_one_shape}
use Rattle.rx_row.specs.declared.row.Row.{Row}
use Rattle.rx_term.specs.Stacks.{root_of}
use Rattle.rx_term.specs.declared.rule.Rule.{Rule}
use Rattle.rx_term.specs.declared.term.Sym.{Sym}
use Rattle.rx_term.specs.declared.term.Term.{Term}
use Rattle.rx_term_words.specs.Terms.{term_text}
use Rattle.rx_text.specs.Rows.{row_text}
use Rattle.rx_goal_words.specs.declared.rules.Chosen.{Chosen}
use Rattle.rx_goal_words.specs.declared.rules.Chosen.TheVariants.{All, Shape, Root}

-- a row after others
abbrev pub next_row : Row → List ℕ
next_row row = codes ", " ++ row_text row

-- rows, as those under which something holds; nothing where there are none
abbrev pub rows_text : List Row → List ℕ
rows_text [] = []
rows_text (row ∷ rows) = codes " under " ++ (row_text row ++ flat_map next_row rows)

-- both sides of a rule
abbrev pub sides_text : Rule → List ℕ
sides_text rule = term_text rule.left ++ (codes " -> " ++ term_text rule.right)

-- a rule with its number
abbrev pub rule_text : ℕ → Rule → List ℕ
rule_text number rule =
    codes "    " ++ (decimal number ++ (codes " " ++ (sides_text rule
    ++ (rows_text rule.rows ++ codes "\n"))))

-- those of the rules that are chosen, which are numbered from there on
abbrev pub rules_text : (Rule → Bool) → ℕ → List Rule → List ℕ
rules_text is_chosen number [] = []
rules_text is_chosen number (rule ∷ rules) =
    (if is_chosen rule then rule_text number rule else [])
    ++ rules_text is_chosen (number + 1) rules

-- ---- choices

-- it is the symbol with this number
abbrev pub is_symbol : ℕ → Option Sym → Bool
is_symbol number None = false
is_symbol number (Some symbol) = symbol.0 == number

-- the left side has this shape
abbrev pub is_of_shape : Term → Rule → Bool
is_of_shape term rule = have_one_shape rule.left term

-- the outermost symbol of the left side is the one with this number
abbrev pub is_of_symbol : ℕ → Rule → Bool
is_of_symbol number rule = is_symbol number (root_of rule.left)

abbrev pub any_rule : Rule → Bool
any_rule rule = true

abbrev pub chooses : Chosen → Rule → Bool
chooses All rule = any_rule rule
chooses (Shape term) rule = is_of_shape term.now rule
chooses (Root number) rule = is_of_symbol number rule

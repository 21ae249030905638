-- A pair of symbols with their ranks.
use Rattle.std.specs.Prelude.{ℕ, Bool, not, ◌==◌, if◌then◌else◌, Option, Some, None, List, [], ◌++◌, codes, decimal, slice_get}
use Rattle.std.specs.List.{list_all}
use Rattle.rx_inference.specs.States.{State}
use Rattle.rx_log.specs.declared.line.Line.TheVariants.{Rank}
use Rattle.rx_log.specs.declared.version.Version.TheVariants.{One}
use Rattle.rx_logtext.specs.Lines.{line_text}
use Rattle.rx_pairs.specs.Inside.{listing}
use Rattle.rx_pairs.specs.declared.pair.Pair.{Pair}
use Rattle.rx_pairs.specs.declared.table.RankTable.{RankTable}
use Rattle.rx_poly.specs.declared.body.Body.{Body}
use Rattle.rx_term.specs.Stacks.{is_result}
use Rattle.rx_term.specs.declared.rule.Rule.{Rule}
use Rattle.rx_term.specs.declared.rule_set.RuleParts.{RuleParts}
use Rattle.rx_term.specs.declared.term.Term.{Term}
use Rattle.rx_term.specs.declared.term.Term.TheVariants.{Call}
use Rattle.rx_term_words.specs.Terms.{term_text}
use Rattle.rx_goal_words.specs.RuleTexts.{rows_text}

-- ---- ranks

-- the line of a log that has this rank of a symbol
abbrev pub rank_line : ℕ → List Body → List ℕ
rank_line symbol rank = codes "  " ++ (line_text One (Rank rank) symbol ++ codes "\n")

abbrev pub rank_of : ℕ → Option (List Body) → List ℕ
rank_of symbol None = []
rank_of symbol (Some rank) = rank_line symbol rank

-- the rank that a table has of a symbol; nothing where it has none
abbrev pub rank_text : RankTable → ℕ → List ℕ
rank_text table symbol = rank_of symbol (slice_get table.ranks symbol)

-- those of two symbols, the left one first; where they are the same, once
abbrev pub ranks_text : RankTable → ℕ → ℕ → List ℕ
ranks_text table left right =
    rank_text table left ++ (if left == right then [] else rank_text table right)

-- ---- pairs

-- the left symbol at its arguments, and the right one
abbrev pub left_of : Pair → Term
left_of pair = Call pair.left pair.left_args

abbrev pub right_of : Pair → Term
right_of pair = Call pair.right pair.right_args

-- the one above the other
abbrev pub sides_text : Term → Term → List ℕ
sides_text left right = term_text left ++ (codes " above " ++ term_text right)

-- the pair with its number, and the rows under which it has to be lower
abbrev pub pair_line : ℕ → Pair → List ℕ
pair_line number pair =
    codes "  pair " ++ (decimal number ++ (codes ": " ++ (sides_text (left_of pair) (right_of pair)
    ++ (rows_text pair.phi ++ codes "\n"))))

-- and the ranks of both its symbols; nothing where there is no pair
abbrev pub ranked_pair : RankTable → ℕ → Option Pair → List ℕ
ranked_pair table number None = []
ranked_pair table number (Some pair) =
    pair_line number pair ++ ranks_text table pair.left.0 pair.right.0

-- ---- the pair with a number

-- the left side is no bare result; so it is of every hypothesis that a step adds
abbrev pub has_root : Rule → Bool
has_root rule = not (is_result rule.left)

-- the pairs of the rules, and then those of the hypotheses, inside the domains of the rules; where
-- those of a rule pass the limits, only the pairs before them
abbrev pub pairs_of : RuleParts → List Rule → List Pair
pairs_of parts hypotheses = (listing parts (parts.rules ++ hypotheses)).pairs

-- the pair with this number among those of the rules and of a state's hypotheses; nothing where
-- they have no such pair, or the left side of a hypothesis is a bare result
abbrev pub pair_text : RuleParts → State → RankTable → ℕ → List ℕ
pair_text parts state table number =
    if list_all has_root state.hypotheses
    then ranked_pair table number (slice_get (pairs_of parts state.hypotheses) number)
    else []

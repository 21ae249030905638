-- The candidates for the domain of a symbol: the goal's rows, where a redex of the goal is of the
-- symbol's group, and then the rows of the rules whose left root is, in order; of these the rows
-- over the symbol's own arguments, each once, and no more than the first twelve.
use Rattle.std.specs.Prelude.{ℕ, nat_lt, ◌+◌, Bool, false, ◌||◌, if◌then◌else◌, List, [], ◌∷◌, ◌++◌, length}
use Rattle.std.specs.List.{filter, flat_map, fold}
use Rattle.std.specs.Option.{option_map_or}
use Rattle.rx_row.specs.Membership.{pushed}
use Rattle.rx_row.specs.Variables.{row_uses_below}
use Rattle.rx_row.specs.declared.row.Row.{Row}
use Rattle.rx_term.specs.Meaning.{redex_of}
use Rattle.rx_term.specs.Stacks.{root_of}
use Rattle.rx_term.specs.declared.rule.Equation.{Equation}
use Rattle.rx_term.specs.declared.rule.Rule.{Rule}
use Rattle.rx_term.specs.declared.rule_set.RuleParts.{RuleParts}
use Rattle.rx_term.specs.declared.rule_set.SymInfo.{SymInfo}
use Rattle.rx_term.specs.declared.term.Sym.{Sym}
use Rattle.rx_term.specs.declared.term.Term.{Term}
use Rattle.rx_find_domains.specs.Groups.{groups, in_one_group}

-- ---- the rows that are offered

-- the outermost symbol of the term is of the symbol's group
abbrev pub root_is_near : List ℕ → ℕ → Term → Bool
root_is_near names f t = option_map_or (λ (g : Sym). in_one_group names f g.0) (root_of t) false

-- that of its redex is: of its call, or of the innermost frame where that is over a result
abbrev pub redex_is_near : List ℕ → ℕ → Term → Bool
redex_is_near names f t = option_map_or (root_is_near names f) (redex_of t) false

abbrev pub goal_is_near : List ℕ → ℕ → Equation → Bool
goal_is_near names f goal = redex_is_near names f goal.left || redex_is_near names f goal.right

abbrev pub rows_of_goal : List ℕ → ℕ → Equation → List Row
rows_of_goal names f goal = if goal_is_near names f goal then goal.rows else []

abbrev pub rows_of_rule : List ℕ → ℕ → Rule → List Row
rows_of_rule names f rule = if root_is_near names f rule.left then rule.rows else []

abbrev pub offered : List ℕ → List Rule → Equation → ℕ → List Row
offered names rules goal f = rows_of_goal names f goal ++ flat_map (rows_of_rule names f) rules

-- ---- those that are taken

abbrev pub most_candidates : ℕ
most_candidates = 12

-- the rows, with the row behind them unless it is one of them or they are as many as may be
abbrev pub taking : List Row → Row → List Row
taking rows row = if nat_lt (length rows) most_candidates then pushed rows row else rows

-- those over that many arguments, each once
abbrev pub taken : ℕ → List Row → List Row → List Row
taken arity rows more = fold taking rows (filter (row_uses_below arity) more)

abbrev pub candidates : List ℕ → List Rule → Equation → ℕ → ℕ → List Row
candidates names rules goal f arity = taken arity [] (offered names rules goal f)

-- a list for each symbol, the first having that number
abbrev pub candidates_from : List ℕ → List Rule → Equation → ℕ → List SymInfo → List (List Row)
candidates_from names rules goal f [] = []
candidates_from names rules goal f (info ∷ infos) =
    candidates names rules goal f info.arity ∷ candidates_from names rules goal (f + 1) infos

abbrev pub all_candidates : RuleParts → Equation → List (List Row)
all_candidates parts goal = candidates_from (groups parts) parts.rules goal 0 parts.symbols

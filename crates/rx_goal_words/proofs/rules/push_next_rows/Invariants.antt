-- The rows so far were added.
use Rattle.std.proofs.Common.{◌≡◌, ◌++◌, take}
use Rattle.std.specs.List.{flat_map}
use Rattle.rx_goal_words.specs.RuleTexts.{next_row}
use Rattle.rx_goal_words.proofs.rules.push_next_rows.Given as goal

abbrev pub invariant-loop-row : goal.invariant-loop-row
invariant-loop-row l = l.out.items ≡ l.initial.out.items ++ flat_map next_row (take l.row-index l.rows)

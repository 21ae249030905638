use Rattle.std.proofs.Common.{◌≡◌, ℕ, ◌<◌, get_or}
use Rattle.rx_row.proofs.constraint.Constraint.contains.Given as goal

abbrev pub invariant-loop-standing : goal.invariant-loop-standing
invariant-loop-standing l =
    (k : ℕ) → k < l.standing-index → get_or l.standing-items k l.row ≡ l.row → ⊥

use Rattle.std.proofs.Common.{◌≡◌, ◌≤◌, drop}
use Rattle.c_syntax.specs.Depth.{too_deep}
use Rattle.c_syntax.proofs.depth.too_deep.Given as goal

abbrev pub invariant-loop-at : goal.invariant-loop-at
invariant-loop-at l =
    (l.count ≤ 200) × (too_deep l.count l.at (drop l.at l.tokens) ≡ too_deep 0 0 l.tokens)

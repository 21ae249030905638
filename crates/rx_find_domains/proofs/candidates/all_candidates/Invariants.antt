-- The lists so far, and those of the symbols that are left.
use Rattle.std.proofs.Common.{◌≡◌, ◌++◌, drop}
use Rattle.rx_find_domains.specs.Candidates.{candidates_from}
use Rattle.rx_find_domains.proofs.candidates.all_candidates.Given as goal

abbrev pub invariant-loop-sym : goal.invariant-loop-sym
invariant-loop-sym l =
    l.lists.items ++
    candidates_from l.names l.parts.rules l.goal l.sym (drop l.sym l.parts.symbols)
    ≡ candidates_from l.names l.parts.rules l.goal 0 l.parts.symbols

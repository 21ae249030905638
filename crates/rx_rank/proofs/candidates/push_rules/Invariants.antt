-- The candidates so far, and what is left to try.
use Rattle.std.proofs.Common.{drop}
use Rattle.rx_rank.specs.Candidates.{all_candidates}
use Rattle.rx_rank.proofs.Gathering.{Gathering}
use Rattle.rx_rank.proofs.candidates.push_rules.Given as goal

abbrev pub invariant-loop-rule : goal.invariant-loop-rule
invariant-loop-rule l =
    Gathering l.initial.polys.items l.polys.items l.noted
    (all_candidates l.names l.name (drop l.rule-index l.rules) l.arity)
    (all_candidates l.names l.name l.rules l.arity)

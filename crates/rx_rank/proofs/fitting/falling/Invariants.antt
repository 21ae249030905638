-- The pairs so far are decided, and what is left is not.
use Rattle.std.proofs.Common.{◌≡◌, ◌||◌, drop, take}
use Rattle.std.specs.List.{AllZip, list_any}
use Rattle.rx_solve.specs.Answers.{IsSolver}
use Rattle.rx_rank.specs.Answers.{IsDecided}
use Rattle.rx_rank.specs.Choices.{falls_by, is_beyond}
use Rattle.rx_rank.proofs.fitting.falling.Given as goal

abbrev pub invariant-loop-known : goal.invariant-loop-known
invariant-loop-known g l = record {
  solver : IsSolver g.S.FnMut l.solve;
  same : l.pairs ≡ l.fn.pairs;
  certs : AllZip (IsDecided l.values) (take l.known-index l.pairs) l.certs.items;
  noted :
      (l.noted || list_any (λ pair. is_beyond (falls_by l.values pair))
      (drop l.known-index l.pairs))
      ≡ list_any (λ pair. is_beyond (falls_by l.values pair)) l.fn.pairs;
}

-- What the terms that are left make of the number is what all make of 0.
use Rattle.std.proofs.Common.{◌≡◌, drop}
use Rattle.std.specs.List.{fold}
use Rattle.rx_poly.specs.Digest.{digest_of, with_term}
use Rattle.rx_poly.proofs.digest.digest_of.Given as goal

abbrev pub invariant-loop-term : goal.invariant-loop-term
invariant-loop-term l =
    fold with_term l.digest (drop l.term-index l.terms) ≡ digest_of l.terms

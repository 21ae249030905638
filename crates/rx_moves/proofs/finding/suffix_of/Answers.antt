-- What is common of the lists is common of the terms.
use Rattle.std.proofs.Common.{◌∙◌, ap, arith, length, reverse}
use Rattle.rx_moves.specs.SuffixAnswers.{part_of}
use Rattle.std.proofs.lemmas.List.{length-map}
use Rattle.rx_moves.specs.SuffixAnswers.{part_of}
use Rattle.rx_moves.specs.Suffixes.{common}
use Rattle.rx_moves.proofs.finding.suffix_of.Goals as goal

pub returns-clause-common : goal.returns-clause-common
returns-clause-common g c =
    c.in_ok-common.ensures.common ∙ (λ i. common c.args.given.now
    (reverse (c.in_ok-lefts.ensures i)) (reverse (c.in_ok-rights.ensures i)))

pub returns-clause-left : goal.returns-clause-left
returns-clause-left g c =
    let counted = ap length c.in_ok-lefts.ensures in
    let each = length-map c.in_ok-lefts.lefts.items part_of in
    omega arith

pub returns-clause-right : goal.returns-clause-right
returns-clause-right g c =
    let counted = ap length c.in_ok-rights.ensures in
    let each = length-map c.in_ok-rights.rights.items part_of in
    omega arith

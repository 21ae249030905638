-- Each turn takes the number on by one atom.
use Rattle.std.proofs.Common.{◌∙◌, ap, drop, ◌+◌}
use Rattle.std.specs.List.{fold}
use Rattle.rx_poly.specs.Digest.{then, with_atom}
use Rattle.rx_poly.proofs.Digesting.{fold_next, fold_end}
use Rattle.rx_poly.proofs.digest.after_atoms.Goals as goal

pub loop-atom-preserved : goal.loop-atom-preserved
loop-atom-preserved c =
    let atoms = c.args.atoms.now in
    let i = c.loop-atom.atom-index in
    ap (λ d. fold with_atom d (drop (i + 1) atoms))
    (c.digest_with-digest.ensures ∙ ap (then c.loop-atom.digest) c.number_of.ensures)
    ∙ fold_next with_atom c.loop-atom.digest atoms i c.loop-atom-test.true c.atom-item.is
    c.loop-atom.invariant

pub returns : goal.returns
returns c =
    fold_end with_atom c.loop-atom.digest c.args.atoms.now c.loop-atom.atom-index
    c.loop-atom-test.false c.loop-atom.invariant

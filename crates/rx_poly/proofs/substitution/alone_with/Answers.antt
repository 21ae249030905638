-- A variable alone becomes what is substituted for it.
use Rattle.std.proofs.Common.{◌∙◌, ap, sym}
use Rattle.rx_poly.proofs.Alone.{replaced_alone}
use Rattle.rx_poly.proofs.Substituting.{well}
use Rattle.rx_poly.specs.Replacements.{replacements}
use Rattle.rx_poly.proofs.substitution.alone_with.Goals as goal

pub returns : goal.returns
returns c =
    let n = c.in_ok-as_variable.field-0 in
    replaced_alone (replacements c.args.with) n c.args.poly.now
    ((c.as_variable.ensures.exact n).0 c.in_ok-as_variable.was) c.in_ok-found.ensures
    c.as_normal.ensures.normal
    ∙ ap well (sym c.as_normal.ensures.same)

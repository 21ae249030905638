-- The variable's term goes, so nothing passes the limits.
use Rattle.std.proofs.Common.{◌≡◌, ◌∙◌, ap, sym, true, false}
use Rattle.rx_poly.specs.Limits.{is_within, body_difference}
use Rattle.rx_solve.proofs.Alone.{plus_within}
use Rattle.rx_solve.proofs.pivots.minus_variable.Goals as goal

pub unreachable-requires : goal.unreachable-requires
unreachable-requires c =
    let no : false ≡ true = sym (c.in-Err-Large.ensures.forms c.in-Err-Large.field-0-is)
    ∙ ap (λ q. is_within (body_difference c.args.poly.now q)) c.in_ok-alone.ensures.same ∙
    plus_within c.args.var c.args.poly.now c.requires.normal c.requires.one in
    cc

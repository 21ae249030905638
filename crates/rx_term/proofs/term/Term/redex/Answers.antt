use Rattle.std.proofs.Common.{◌≡◌, false}
use Rattle.rx_term.specs.Stacks.{is_result}
use Rattle.rx_term.specs.declared.term.Term.TheVariants.{Frame}
use Rattle.rx_term.proofs.RedexWalks.{found_in_rest}
use Rattle.rx_term.proofs.term.Term.redex.Goals as goal

pub loop-here-preserved : goal.loop-here-preserved
loop-here-preserved c =
    let f = c.in-Frame.field-0 in
    let ps = c.in-Frame.field-1 in
    let is : c.loop-here.here.now ≡ Frame f ps c.get-here.result.now = cc in
    let inside : is_result c.get-here.result.now ≡ false = cc in
    found_in_rest f ps c.loop-here.here.now c.get-here.result.now c.args.self.now is inside
    c.loop-here.invariant

-- A part more is found.
use Rattle.std.proofs.Common.{◌∙◌, List, ap, sym}
use Rattle.rx_poly.specs.declared.body.Body.{Body}
use Rattle.rx_term.specs.declared.term.Term.{Term}
use Rattle.rx_term.specs.declared.term.Term.TheVariants.{Frame}
use Rattle.rx_moves.specs.Suffixes as suffixes
use Rattle.rx_moves.proofs.SuffixLaws.{call_found, frame_found}
use Rattle.rx_moves.proofs.finding.parts_inwards.Goals as goal

pub loop-here-preserved : goal.loop-here-preserved
loop-here-preserved c =
    let f = c.in-Frame.sym in
    let part = λ (a : List Body).
    let p : suffixes.Part = record { symbol = f.0; arguments = a } in p in
    frame_found c.args.term.now c.loop-here.here.now c.loop-here.parts.items
    c.push-in-Frame.new.self.items _ f c.in-Frame.args c.loop-here.invariant
    (ap part c.as_slice-arguments-in-Frame.ensures) c.in_ok-push-in-Frame.ensures.items
    c.get-here.result.now
    (c.in-Frame.is ∙ ap (λ (t : Term). Frame f c.in-Frame.args t) (sym c.get-here.ensures))

pub returns-in-Call : goal.returns-in-Call
returns-in-Call c =
    let f = c.in-Call.sym in
    let part = λ (a : List Body).
    let p : suffixes.Part = record { symbol = f.0; arguments = a } in p in
    call_found c.args.term.now c.loop-here.here.now c.loop-here.parts.items
    c.push.new.self.items _ f c.in-Call.args c.loop-here.invariant
    (ap part c.as_slice-arguments.ensures) c.in_ok-push-in-Call.ensures.items c.in-Call.is

-- The last frame goes over the term, with its polynomials.
use Rattle.std.proofs.Common.{◌≡◌, ◌∙◌, ap}
use Rattle.rx_bank.specs.Packing.{frames_at, polys_at}
use Rattle.rx_term.specs.declared.term.Term.TheVariants as term
use Rattle.rx_bank.proofs.Growing.{last_frame}
use Rattle.rx_bank.proofs.unpacking.unpack_frames.Goals as goal

pub loop-frame-preserved : goal.loop-frame-preserved
loop-frame-preserved c =
    let s = c.loop-frame in
    let ps = c.args.bank.now in
    let frame = c.in-Some.frame.now in
    let further = c.in-Some.further.now in
    let on = last_frame ps s.upper.now further frame s.whole c.in-Some.ensures.cases.0
    s.invariant.within in
    let args : c.in_ok-args.args ≡ polys_at ps frame.args = c.in_ok-args.ensures ∙
    ap (polys_at ps) c.as_slice.ensures in
    let same : term.Frame frame.sym c.in_ok-args.args c.in_ok-new.field-0 ≡
    term.Frame frame.sym (polys_at ps frame.args) s.whole = λ i.
    term.Frame frame.sym (args i) (c.in_ok-new.ensures i) in
    record { within = on.0; over = ap (frames_at ps further) same ∙ on.1 ∙ s.invariant.over }

-- One turn of the walk, and its end.
use Rattle.std.proofs.Common.{◌++◌, ap, subst, sym, List}
use Rattle.rx_term.specs.Stacks.{depth_of}
use Rattle.rx_pairs.specs.Lent.{all_lent, outer_parts}
use Rattle.rx_pairs.specs.Pairs.{part}
use Rattle.rx_pairs.specs.declared.parts.Application.{Application}
use Rattle.rx_pairs.proofs.CommonLaws.{end_depth}
use Rattle.rx_pairs.proofs.PartsLaws.{Passing, end_outer, pass, passed}
use Rattle.rx_pairs.proofs.parts.outer_frames.Goals.{in_default, in_default-2}
use Rattle.rx_pairs.proofs.parts.outer_frames.Goals as goal

pub loop-here-init : goal.loop-here-init
loop-here-init c = record {
  all =
      ap (λ (parts : List Application). all_lent parts ++
      outer_parts (depth_of c.args.count.now) c.args.term.now) c.new-parts.ensures.items;
}

pub loop-here-preserved : goal.loop-here-preserved
loop-here-preserved c =
    let f = c.in-Frame-Frame in
    subst (λ parts. Passing parts c.get-rest.result.now c.get-here.result.now c.args.count.now
    c.args.term.now) (sym {A = List Application} c.in_ok-push.ensures.items)
    (pass c.loop-here.parts.items c.loop-here.rest.now c.loop-here.here.now c.args.count.now
    c.args.term.now c.get-rest.result.now c.get-here.result.now
    f.symbol f.field-0-1 f.arguments f.field-1-1 f.inner f.further
    (record { symbol = f.symbol; arguments = c.as_slice.result })
    f.is-0 f.is-1 c.get-here.ensures c.get-rest.ensures (ap (part f.symbol) c.as_slice.ensures)
    c.loop-here.invariant)

pub returns : goal.returns
returns c =
    let w = c.loop-here in
    passed w.parts.items w.rest.now w.here.now c.args.count.now c.args.term.now w.invariant
    (elim c.match-here.branch [
      | in_default e ↦ ap (λ n. outer_parts n w.here.now)
          (end_depth w.rest.now e.in_default.not-Frame-1)
      | in_default-2 e ↦ end_outer (depth_of w.rest.now) w.here.now e.in_default.not-Frame-0
    ])

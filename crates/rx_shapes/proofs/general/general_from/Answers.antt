use Rattle.std.proofs.Common.{◌∙◌, ◌+◌, ◌++◌, ◌∷◌, [], ap}
use Rattle.rx_shapes.specs.Building.{over_frames}
use Rattle.rx_shapes.specs.General.{general_from, open_frame}
use Rattle.rx_shapes.proofs.Frames.{inside_few, one_further}
use Rattle.rx_shapes.proofs.general.general_from.Goals as goal

pub loop-here-preserved : goal.loop-here-preserved
loop-here-preserved c = record {
  made =
      ap (λ fs. over_frames fs (general_from (c.loop-here.next + c.len.result) c.get-here.result.now))
      c.in_ok-push_frame-in-Frame.ensures ∙
      ap (λ ps. over_frames
      (c.loop-here.frames.items ++ open_frame c.in-Frame.symbol c.loop-here.next ps ∷ [])
      (general_from (c.loop-here.next + c.len.result) c.get-here.result.now))
      c.as_slice-in-Frame.ensures ∙
      one_further c.loop-here.frames.items c.loop-here.next c.len.result c.in-Frame.symbol
      c.in-Frame.args c.in-Frame.inner c.loop-here.here.now c.get-here.result.now c.in-Frame.is
      c.len.ensures c.get-here.ensures ∙
      c.loop-here.invariant.made;
  few =
      inside_few c.loop-here.next c.len.result c.in-Frame.symbol c.in-Frame.args c.in-Frame.inner
      c.loop-here.here.now c.get-here.result.now c.in-Frame.is c.len.ensures c.get-here.ensures
      c.loop-here.invariant.few;
}

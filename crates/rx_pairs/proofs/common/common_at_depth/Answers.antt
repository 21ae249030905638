-- One turn of the walk, and its end.
use Rattle.std.proofs.Common.{◌≡◌, ◌∙◌, sym}
use Rattle.std.proofs.lemmas.Bool.{false≢true}
use Rattle.rx_pairs.proofs.CommonLaws.{begin, end_depth, found_none, next_different, next_same}
use Rattle.rx_pairs.proofs.common.common_at_depth.Goals.{in_default, in_default-2}
use Rattle.rx_pairs.proofs.common.common_at_depth.Goals as goal

pub loop-here-init : goal.loop-here-init
loop-here-init c = begin c.args.left.now c.args.right.now c.requires

pub loop-here-preserved : goal.loop-here-preserved
loop-here-preserved c =
    next_same c.args.left.now c.args.right.now c.loop-here.here.now c.loop-here.there.now
    c.get-here.result.now c.get-there.result.now c.loop-here.start.now
    c.in-Frame-Frame.f c.in-Frame-Frame.g c.in-Frame-Frame.args c.in-Frame-Frame.others
    c.in-Frame-Frame.inner c.in-Frame-Frame.further
    c.loop-here.invariant c.in-Frame-Frame.is-0 c.in-Frame-Frame.is-1 c.get-here.ensures
    c.get-there.ensures
    (let same = c.is_same_part.ensures.0 c.if-not-is_same_part.false in
    (same.0, sym c.as_slice.ensures ∙ same.1 ∙ c.as_slice-in-Frame-Frame.ensures))

pub loop-here-preserved-then-not-is_same_part : goal.loop-here-preserved-then-not-is_same_part
loop-here-preserved-then-not-is_same_part c =
    next_different c.args.left.now c.args.right.now c.loop-here.here.now c.loop-here.there.now
    c.get-here.result.now c.get-there.result.now c.loop-here.start.now
    c.in-Frame-Frame.f c.in-Frame-Frame.g c.in-Frame-Frame.args c.in-Frame-Frame.others
    c.in-Frame-Frame.inner c.in-Frame-Frame.further
    c.loop-here.invariant c.in-Frame-Frame.is-0 c.in-Frame-Frame.is-1 c.get-here.ensures
    c.get-there.ensures
    (λ same. false≢true (sym c.if-not-is_same_part.true ∙
    c.is_same_part.ensures.1 (
      same.0,
      c.as_slice.ensures ∙ same.1 ∙
          sym c.as_slice-in-Frame-Frame.ensures,
    )))

pub returns-else-is_same : goal.returns-else-is_same
returns-else-is_same c =
    let w = c.loop-here.invariant in
    let differ : c.loop-here.here.now ≡ c.loop-here.there.now → ⊥ = λ same.
    false≢true (sym c.if-is_same.false ∙ c.is_same.ensures.1 same) in
    elim c.match-here.branch [
      | in_default e ↦
          let none = end_depth c.loop-here.there.now e.in_default.not-Frame-1 in
          found_none c.args.left.now c.args.right.now c.loop-here.here.now c.loop-here.there.now
          c.loop-here.start.now w (w.level ∙ none) differ
      | in_default-2 e ↦
          let none = end_depth c.loop-here.here.now e.in_default.not-Frame-0 in
          found_none c.args.left.now c.args.right.now c.loop-here.here.now c.loop-here.there.now
          c.loop-here.start.now w none differ
    ]

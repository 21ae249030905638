-- Each line may come, and adds its trees.
use Rattle.std.proofs.Common.{◌≡◌, ◌∙◌, ◌+◌, Some, get_or, List, refl, subst, sym}
use Rattle.rx_cover.specs.declared.cover_tree.CoverTree.{CoverTree}
use Rattle.rx_log.specs.Places.{after}
use Rattle.rx_log.specs.declared.line.Line.TheVariants as line
use Rattle.rx_log.specs.declared.line_state.LineState.{LineState}
use Rattle.rx_log.specs.declared.line_state.LineState.TheVariants.{InCovers}
use Rattle.rx_check.specs.Replay.{place_after}
use Rattle.rx_check.specs.Whole.{AwaitsCover, with_covers}
use Rattle.rx_check.proofs.WholeLines.{all_taken, awaits_open, cover_leads, covers_pushed_on, leads_same, no_covers, none_taken, one_taken}
use Rattle.rx_check.proofs.replayer.Replayer.take_covers.Goals as goal

pub loop-symbol-init : goal.loop-symbol-init
loop-symbol-init c = record {
  place = c.requires.at;
  roots = c.requires.roots;
  takes = none_taken with_covers c.args.self.now c.args.rules.now no_covers;
}

pub line-requires-clause-comes : goal.line-requires-clause-comes
line-requires-clause-comes c =
    let i = c.loop-symbol.symbol in
    let old = place_after c.loop-symbol.self in
    let trees : List CoverTree = c.as_slice.result.now in (
      i,
      leads_same old old c.in_ok-next.next (line.Cover trees) i (InCovers (i + 1)) refl
          c.in_ok-next.ensures (cover_leads old i trees c.loop-symbol.invariant.place),
    )

pub loop-symbol-preserved : goal.loop-symbol-preserved
loop-symbol-preserved c =
    let i = c.loop-symbol.symbol in
    let old = place_after c.loop-symbol.self in
    let trees : List CoverTree = c.as_slice.result.now in
    let at : trees ≡ get_or c.args.covers.now i c.index-covers-symbol.result =
    c.as_slice.ensures ∙ c.index-covers-symbol.is in
    let leads : after old (c.in_ok-next.next, i) ≡ Some (InCovers (i + 1)) =
    leads_same old old c.in_ok-next.next (line.Cover trees) i (InCovers (i + 1)) refl
    c.in_ok-next.ensures (cover_leads old i trees c.loop-symbol.invariant.place) in
    record {
      place =
          subst (λ (at : LineState). AwaitsCover (i + 1) at) (sym c.in_ok-line.ensures.place) refl;
      roots = c.in_ok-line.ensures.roots;
      takes =
          one_taken with_covers line.Cover c.args.self.now c.loop-symbol.self c.line.new.self
          c.args.rules.now c.args.covers.now i trees c.index-covers-symbol.result
          c.in_ok-next.next i (InCovers (i + 1)) covers_pushed_on c.loop-symbol-test.true at
          c.in_ok-next.ensures leads c.loop-symbol.invariant.takes c.in_ok-line.ensures.stands;
    }

pub returns-clause-takes : goal.returns-clause-takes
returns-clause-takes c =
    all_taken with_covers c.args.self.now c.loop-symbol.self c.args.rules.now c.args.covers.now
    c.loop-symbol.symbol c.loop-symbol-test.false c.loop-symbol.invariant.takes

pub returns-clause-at : goal.returns-clause-at
returns-clause-at c =
    awaits_open c.loop-symbol.symbol (place_after c.loop-symbol.self) c.loop-symbol.invariant.place

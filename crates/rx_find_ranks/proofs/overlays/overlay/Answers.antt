-- One more of the others is in its place.
use Rattle.std.proofs.Common.{◌≡◌, ◌∙◌, ap, sym, ◌+◌, [], ◌∷◌, length, map, rules}
use Rattle.std.proofs.lemmas.List.{length-append, length-map, map-append}
use Rattle.rx_find_ranks.proofs.Overlaying.{overlaid_more, overlaid_none}
use Rattle.rx_find_ranks.specs.Columns.{laid_at, overlaid}
use Rattle.rx_find_ranks.proofs.overlays.overlay.Goals as goal

pub loop-at-init : goal.loop-at-init
loop-at-init c = record {
  values = sym (overlaid_none c.args.values.now.items);
  count = search rules;
}

pub loop-at-preserved : goal.loop-at-preserved
loop-at-preserved c =
    let step = c.in-Some.ensures.steps in
    let past = c.loop-at.yielded in
    let longer = length-append past ((c.in-Some.at, c.in-Some.other) ∷ []) in
    let size = length-map past (λ y. y.1) in
    let at : c.in-Some.at ≡ length (map (λ y. y.1) past) = step.1 ∙ c.loop-at.invariant.count ∙
    sym size in
    record {
      values =
          c.lay_one.ensures
          ∙ (λ i. laid_at (c.loop-at.invariant.values i) (at i) c.in-Some.other)
          ∙ sym (overlaid_more c.args.values.now.items (map (λ y. y.1) past) c.in-Some.other)
          ∙ sym (ap (overlaid c.args.values.now.items)
          (map-append (λ y. y.1) past ((c.in-Some.at, c.in-Some.other) ∷ [])));
      count = step.2 ∙ ap (λ k. k + 1) c.loop-at.invariant.count ∙ sym longer;
    }

-- One pair more is closed.
use Rattle.std.proofs.Common.{◌∙◌, ap, not, set, sym, Some}
use Rattle.std.specs.List.{filter}
use Rattle.rx_find_ranks.proofs.ClosingLaws.{close_more, filter_one, filter_skip}
use Rattle.rx_find_ranks.specs.Closing.{close_all, closing}
use Rattle.rx_find_ranks.specs.Between.{is_leaving, is_staying}
use Rattle.rx_find_ranks.proofs.heights.close_between.Goals as goal

pub loop-entry-preserved : goal.loop-entry-preserved
loop-entry-preserved c =
    let names = c.args.names.now in
    let entry = c.in-Some.entry in
    let past = c.loop-entry.yielded in
    let leaves = sym c.is_inside.ensures ∙ c.if-is_inside.false in
    record {
      staying =
          c.loop-entry.invariant.staying ∙ sym (filter_skip (is_staying names) past entry leaves);
      leaving =
          c.close_entry.ensures
          ∙ ap (λ cs. set cs entry.number (Some (closing c.args.column entry)))
          c.loop-entry.invariant.leaving
          ∙ sym (close_more c.args.column c.args.closed.now.items (filter (is_leaving names) past)
          entry)
          ∙ sym (ap (close_all c.args.column c.args.closed.now.items)
          (filter_one (is_leaving names) past entry (ap not leaves)));
    }

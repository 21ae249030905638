-- A frame leaves it to the part under it; a call is the last, and a result has none.
use Rattle.std.proofs.Common.{◌≡◌, ◌∙◌, ap, sym, subst, List}
use Rattle.std.specs.Prelude.{OnOk}
use Rattle.std.specs.List.{fold}
use Rattle.rx_row.specs.declared.row.Row.{Row}
use Rattle.rx_term.specs.declared.term.Term.TheVariants.{Call, Frame}
use Rattle.rx_find_domains.specs.Finding.{at_occurrence}
use Rattle.rx_find_domains.specs.Parts.{occurrences_of}
use Rattle.rx_find_domains.proofs.VisitingLaws.{at_call, at_frame}
use Rattle.rx_find_domains.proofs.passes.visit_term.Goals as goal

pub returns-in-Call-clause-lists : goal.returns-in-Call-clause-lists
returns-in-Call-clause-lists g c =
    let is : c.loop-here.here.now ≡ Call c.in-Call.sym c.as_slice.result.now = cc in
    subst (λ (ls : List (List Row)). OnOk c.visit_occurrence.result
    (c.visit_occurrence.new.lists.items ≡ ls))
    (sym (at_call c.args.given.now c.loop-here.lists.items c.loop-here.here.now c.in-Call.sym
    c.as_slice.result.now is) ∙ c.loop-here.invariant.decides) c.visit_occurrence.ensures.lists

pub loop-here-preserved : goal.loop-here-preserved
loop-here-preserved g c =
    let is : c.loop-here.here.now ≡
    Frame c.in-Frame.sym c.as_slice-in-Frame.result.now c.get-here.result.now = cc in
    record {
      solver = c.visit_occurrence-in-Frame.ensures.solver;
      decides =
          ap (λ (ls : List (List Row)). fold (at_occurrence c.args.given.now) ls
          (occurrences_of c.get-here.result.now))
          c.in_ok-visit_occurrence-in-Frame.ensures.lists ∙
          sym (at_frame c.args.given.now c.loop-here.lists.items c.loop-here.here.now
          c.in-Frame.sym c.as_slice-in-Frame.result.now c.get-here.result.now is) ∙
          c.loop-here.invariant.decides;
    }

-- One pair more stays or falls; in the end each pair has come with its certificates.
use Rattle.std.proofs.Common.{◌≡◌, ◌∙◌, ◌++◌, ◌∷◌, [], ap, length, sym}
use Rattle.std.proofs.lemmas.Iterator.{YieldsList-from_zip}
use Rattle.std.proofs.lemmas.Iterator.Adapters.{YieldsList-from_vec}
use Rattle.std.proofs.lemmas.Iterator.Consumers.{YieldsList-end}
use Rattle.std.proofs.lemmas.List.{map-id}
use Rattle.rx_find_ranks.proofs.ClosingLaws.{one_falls, one_stays}
use Rattle.rx_find_ranks.specs.Closing.{Fitted, close_all, fallen, fitted, left_open}
use Rattle.rx_find_ranks.proofs.closing.close_fallen.Goals as goal
use Rattle.rx_find_ranks.proofs.closing.close_fallen.Goals.{After-drop-entry-iterator-4}

pub loop-entry-preserved : goal.loop-entry-preserved
loop-entry-preserved c =
    let past = c.loop-entry.yielded in
    let one : Fitted = ((c.in-Some.entry, c.in-Some.held), c.in-Some.fall) in
    record {
      staying =
          c.in_ok-close_one.ensures.staying
          ∙ ap (λ os. os ++ left_open (one ∷ [])) c.loop-entry.invariant.staying
          ∙ one_stays past one;
      leaving =
          c.in_ok-close_one.ensures.leaving
          ∙ ap (λ cs. close_all c.args.column cs (fallen (one ∷ [])))
          c.loop-entry.invariant.leaving
          ∙ one_falls past one c.args.column c.args.closed.now.items;
    }

-- all pairs have come
ended : (c : After-drop-entry-iterator-4) → c.loop-entry.yielded ≡
    fitted c.args.entries.items c.args.holds.items c.args.falls.items
ended c =
    let it = c.into_iter-entry-iterator.result in
    let gives = c.into_iter-entry-iterator.ensures.into_iter_gives in
    let outer = c.zip-entry-items.ensures.first in
    let inner = c.zip.ensures.first in
    let second = c.zip.ensures.second in
    let third = c.zip-entry-items.ensures.second in
    let opens : it.a.a.rest.items ≡ c.args.entries.items = cc in
    let opens_count : it.a.a.rest.len ≡ length c.args.entries.items = cc in
    let holds : it.a.b.rest.items ≡ c.args.holds.items = cc in
    let holds_count : it.a.b.rest.len ≡ length c.args.holds.items = cc in
    let falls : it.b.rest.items ≡ c.args.falls.items = cc in
    let falls_count : it.b.rest.len ≡ length c.args.falls.items = cc in
    let first = YieldsList-from_vec {s = it.a.a} c.args.entries.items opens opens_count in
    let next = YieldsList-from_vec {s = it.a.b} c.args.holds.items holds holds_count in
    let last = YieldsList-from_vec {s = it.b} c.args.falls.items falls falls_count in
    let all = YieldsList-end (YieldsList-from_zip {s = it}
    (YieldsList-from_zip {s = it.a} first next) last)
    c.loop-entry.yielded c.loop-entry.entry-iterator c.loop-entry.yielded_by c.next.result
    c.next.new.self c.in-None.is c.next.ensures.steps in
    sym (map-id c.loop-entry.yielded) ∙ all.0

pub returns-clause-staying : goal.returns-clause-staying
returns-clause-staying c = c.loop-entry.invariant.staying ∙ ap left_open (ended c)

pub returns-clause-leaving : goal.returns-clause-leaving
returns-clause-leaving c =
    c.loop-entry.invariant.leaving ∙ ap (λ fits.
    close_all c.args.column c.args.closed.now.items (fallen fits)) (ended c)
